-- The steps at the calls of a dual region
use Rattle.std.proofs.Common.{◌≡◌, ℕ, Bool, true, false, List, [], Option, Some, None, option_map, refl, ap, ◌∙◌, inl, inr}
use Rattle.std.specs.Prelude.{◌==◌, if◌then◌else◌}
use Rattle.std.specs.Int.{w32}
use Rattle.std.proofs.lemmas.Bool.{and_parts, and_from, cases_Bool, eqb-true, both_ways}
use Rattle.speculation.specs.Machine.{Next}
use Rattle.guest_model.specs.ByteMap.{load}
use Rattle.guest_model.specs.Registers.{reg, next, with_pc}
use Rattle.guest_model.specs.MachineState.{MachineState}
use Rattle.guest_model.specs.Word.{opcode, funct3, funct7}
use Rattle.guest_model.specs.InstructionTable.{instr, cond_of, load_width_of, store_width_of, imm_op_of, shift_of, reg_op_of, shift_row, imm_row, system_row}
use Rattle.guest_model.specs.Service.{answer, service}
use Rattle.guest_model.specs.Step.{step, step_word, step_row, is_ecall, at_call, at_fast, at_end}
use Rattle.guest_model.specs.declared.instr.Instr.{Instr}
use Rattle.guest_model.specs.declared.instr.Instr.TheVariants.{Ecall}
use Rattle.rv32_step.specs.FastStep.{IsFastStep}

-- ---- no word but 0x73 is ECALL

abbrev decodes_ecall : Option Instr → Bool
decodes_ecall (Some Ecall) = true
decodes_ecall _ = false

mapped_not : {A : Type 0} (f : A → Instr) → ((x : A) → decodes_ecall (Some (f x)) ≡ false) → (o : Option A) → decodes_ecall (option_map f o) ≡ false
mapped_not f h None = refl
mapped_not f h (Some x) = h x

either_not : (b : Bool) (x y : Option Instr) → decodes_ecall x ≡ false → decodes_ecall y ≡ false → decodes_ecall (if b then x else y) ≡ false
either_not true x y h k = h
either_not false x y h k = k

second_not : (b : Bool) (x y : Option Instr) → b ≡ false → decodes_ecall y ≡ false → decodes_ecall (if b then x else y) ≡ false
second_not true x y e k = cc
second_not false x y e k = k

shift_row-not : (w : ℕ) → decodes_ecall (shift_row w) ≡ false
shift_row-not w = mapped_not _ (λ _. refl) (shift_of (funct3 w) (funct7 w))

imm_row-not : (w : ℕ) → decodes_ecall (imm_row w) ≡ false
imm_row-not w =
    either_not (funct3 w == 1) _ _ (shift_row-not w)
    (either_not (funct3 w == 5) _ _ (shift_row-not w) (mapped_not _ (λ _. refl) (imm_op_of (funct3 w))))

system_row-not : (w : ℕ) → (w == 0x00000073) ≡ false → decodes_ecall (system_row w) ≡ false
system_row-not w e = second_not (w == 0x00000073) _ _ e (either_not (w == 0x00100073) _ _ refl refl)

instr-not : (w : ℕ) → (w == 0x00000073) ≡ false → decodes_ecall (instr w) ≡ false
instr-not w e =
    either_not (opcode w == 0x37) _ _ refl (
    either_not (opcode w == 0x17) _ _ refl (
    either_not (opcode w == 0x6F) _ _ refl (
    either_not (opcode w == 0x67) _ _ (either_not (funct3 w == 0) _ _ refl refl) (
    either_not (opcode w == 0x63) _ _ (mapped_not _ (λ _. refl) (cond_of (funct3 w))) (
    either_not (opcode w == 0x03) _ _ (mapped_not _ (λ _. refl) (load_width_of (funct3 w))) (
    either_not (opcode w == 0x23) _ _ (mapped_not _ (λ _. refl) (store_width_of (funct3 w))) (
    either_not (opcode w == 0x13) _ _ (imm_row-not w) (
    either_not (opcode w == 0x33) _ _ (mapped_not _ (λ _. refl) (reg_op_of (funct3 w) (funct7 w))) (
    either_not (opcode w == 0x0F) _ _ (either_not (funct3 w == 0) _ _ refl refl) (
    either_not (opcode w == 0x73) _ _ (system_row-not w e) refl))))))))))

-- ---- at a call

word_at_ecall : (fast : Bool) (input : List ℕ) (s : MachineState) (o : Option ℕ) → is_ecall o ≡ true → step_word fast input s o ≡ service fast input s
word_at_ecall fast input s None h = cc
word_at_ecall fast input s (Some w) h = ap (λ v. step_row fast input s (instr v)) (eqb-true w 0x00000073 h)

step_at_call : (fast : Bool) (input : List ℕ) (s : MachineState) (number : ℕ) → at_call number s ≡ true → (step fast input s ≡ service fast input s) × (reg s.regs 17 ≡ number)
unfolding step
step_at_call fast input s number h =
    let both = and_parts (is_ecall (load w32 s.memory s.regs.pc)) (reg s.regs 17 == number) h in
    (word_at_ecall fast input s (load w32 s.memory s.regs.pc) both.0, eqb-true (reg s.regs 17) number both.1)

service_fast : (fast : Bool) (input : List ℕ) (s : MachineState) → reg s.regs 17 ≡ 2000 → service fast input s ≡ answer s (if fast then 1 else 0)
unfolding service
service_fast fast input s e = rw e refl

service_end : (fast : Bool) (input : List ℕ) (s : MachineState) → reg s.regs 17 ≡ 2001 → service fast input s ≡ Next (record s { regs = with_pc s.regs (next s.regs) }) 1 []
unfolding service
service_end fast input s e = rw e refl

-- ---- anywhere else

service_same : (input : List ℕ) (s : MachineState) → (reg s.regs 17 == 2000) ≡ false → service true input s ≡ service false input s
unfolding service
service_same input s e = rw e refl

row_same : (input : List ℕ) (s : MachineState) (o : Option Instr) → decodes_ecall o ≡ false → step_row true input s o ≡ step_row false input s o
row_same input s None h = refl
row_same input s (Some Ecall) h = cc
row_same input s (Some _) h = refl

row_same_service : (input : List ℕ) (s : MachineState) → service true input s ≡ service false input s → (o : Option Instr) → step_row true input s o ≡ step_row false input s o
row_same_service input s e None = refl
row_same_service input s e (Some Ecall) = e
row_same_service input s e (Some _) = refl

word_same : (input : List ℕ) (s : MachineState) (o : Option ℕ) → is_ecall o ≡ false → step_word true input s o ≡ step_word false input s o
word_same input s None h = refl
word_same input s (Some w) h = row_same input s (instr w) (instr-not w h)

word_same_service : (input : List ℕ) (s : MachineState) → service true input s ≡ service false input s → (o : Option ℕ) → step_word true input s o ≡ step_word false input s o
word_same_service input s e None = refl
word_same_service input s e (Some w) = row_same_service input s e (instr w)

step_same : (input : List ℕ) (s : MachineState) → at_call 2000 s ≡ false → step true input s ≡ step false input s
unfolding step
step_same input s h =
    elim (cases_Bool (reg s.regs 17 == 2000)) [
      | inr other ↦ word_same_service input s (service_same input s other) (load w32 s.memory s.regs.pc)
      | inl number ↦ elim (cases_Bool (is_ecall (load w32 s.memory s.regs.pc))) [
        | inl word ↦ absurd (both_ways (at_call 2000 s) h (and_from (is_ecall (load w32 s.memory s.regs.pc)) (reg s.regs 17 == 2000) word number))
        | inr word ↦ word_same input s (load w32 s.memory s.regs.pc) word
      ]
    ]

-- ---- the law

pub is_fast_step : (input : List ℕ) (s : MachineState) → IsFastStep input s
unfolding at_fast at_end
is_fast_step input s = record {
  opens = λ h. let call = step_at_call true input s 2000 h in call.0 ∙ service_fast true input s call.1;
  declines = λ h. let call = step_at_call false input s 2000 h in call.0 ∙ service_fast false input s call.1;
  same = λ h. step_same input s h;
  closes = λ fast h. let call = step_at_call fast input s 2001 h in call.0 ∙ service_end fast input s call.1;
}
