-- A write that is taken back: the instruction changed a0 and pc alone, and a0 was the stream.
use Rattle.std.proofs.Common.{◌≡◌, ℕ, zero, suc, ◌+◌, ◌-◌, ◌^◌, ◌%◌, ◌<◌, Bool, true, false, if◌then◌else◌, ◌||◌, ◌==◌, List, [], ◌∷◌, length, Option, Some, None, Result, Ok, Err, refl, sym, ap, ap₂, ◌∙◌, subst, arith}
use Rattle.std.proofs.Math.ListN.{set}
use Rattle.std.proofs.lemmas.List.{set-get_or}
use Rattle.std.specs.Int.{w32}
use Rattle.speculation.specs.Machine.{Next, Ends}
use Rattle.guest_model.specs.ByteMap.{mapped, bytes_from, load}
use Rattle.guest_model.specs.Registers.{RegFile, IsRegFile, reg, with_pc, with_result, next}
use Rattle.guest_model.specs.MachineState.{MachineState}
use Rattle.guest_model.specs.Effect.{store_effect, regs_effect, with_regs, address}
use Rattle.guest_model.specs.InstructionTable.{instr}
use Rattle.guest_model.specs.Service.{Outcome, answer, cut, input_bytes, read_outcome, read_service, write_service, brk_service, is_in_heap, service_of, service, bad_address, bad_descriptor, no_such_service}
use Rattle.guest_model.specs.Step.{after_effect, step_instr, step_row, step_word, step}
use Rattle.guest_model.specs.declared.end.End.TheVariants.{Exit}
use Rattle.guest_model.specs.declared.end.Trap.{Trap}
use Rattle.guest_model.specs.declared.instr.Instr.{Instr}
use Rattle.guest_model.specs.declared.instr.Instr.TheVariants.{Upper, Jal, Jalr, Branch, Load, Store, OpImm, Op, Fence, Ecall, Ebreak}
use Rattle.track_state.specs.Progress.{undone}

-- t follows on s by a write to this stream
pub record IsWrite (s t : MachineState) (stream : ℕ) : Type 0 where
  pub count : ℕ
  pub is : t ≡ record s { regs = with_result s.regs 10 count }
  pub stream_is : reg s.regs 10 ≡ stream

-- only a write writes
abbrev Writes : MachineState → Outcome → Type 0
Writes s (Next t stream []) = Unit {0}
Writes s (Next t stream (b ∷ bs)) = IsWrite s t stream
Writes s (Ends e) = Unit {0}

module _ (input : List ℕ) (s : MachineState) where
  by_test : (test : Bool) (x y : Outcome) → Writes s x → Writes s y → Writes s (if test then x else y)
  by_test true x y k l = k
  by_test false x y k l = l

  wrote_by : (t : MachineState) (stream : ℕ) (bs : List ℕ) → IsWrite s t stream → Writes s (Next t stream bs)
  wrote_by t stream [] h = tt
  wrote_by t stream (b ∷ bs) h = h

  write_service-writes : (stream a count : ℕ) → reg s.regs 10 ≡ stream → Writes s (write_service s stream a count)
  write_service-writes stream a count e =
      by_test (stream == 1 || stream == 2) _ _ (
      by_test (cut count == 0) (answer s 0) _ tt (
      by_test (mapped s.memory a (cut count)) _ (answer s bad_address)
      (wrote_by (record s { regs = with_result s.regs 10 (cut count) }) stream (bytes_from s.memory a (cut count)) (record { count = cut count; is = refl; stream_is = e })) tt)) tt

  read_service-writes : (descriptor a count : ℕ) → Writes s (read_service input s descriptor a count)
  read_service-writes descriptor a count =
      by_test (descriptor == 0) _ (answer s bad_descriptor) (
      by_test (cut count == 0) (answer s 0) _ tt (
      by_test (mapped s.memory a (cut count)) (read_outcome s a (input_bytes input s.place (cut count))) (answer s bad_address) tt tt)) tt

  brk_service-writes : (a : ℕ) → Writes s (brk_service s a)
  brk_service-writes a = by_test (is_in_heap s.heap a) (answer (record s { heap = record s.heap { brk = a } }) a) (answer s s.heap.brk) tt tt

  service_of-writes : (number a0 a1 a2 : ℕ) → reg s.regs 10 ≡ a0 → Writes s (service_of false input s number a0 a1 a2)
  service_of-writes number a0 a1 a2 e =
      by_test (number == 63) _ _ (read_service-writes a0 a1 a2) (
      by_test (number == 64) _ _ (write_service-writes a0 a1 a2 e) (
      by_test (number == 93 || number == 94) (Ends (Exit a0)) _ tt (
      by_test (number == 214) _ _ (brk_service-writes a0) (
      by_test (number == 2000) (answer s 0) _ tt (
      by_test (number == 2001) (Next (record s { regs = with_pc s.regs (next s.regs) }) 1 []) (answer s no_such_service) tt tt)))))

  service-writes : Writes s (service false input s)
  unfolding service
  service-writes = service_of-writes (reg s.regs 17) (reg s.regs 10) (reg s.regs 11) (reg s.regs 12) refl

  effect-writes : (pc : ℕ) (r : Result MachineState Trap) → Writes s (after_effect pc r)
  effect-writes pc (Ok t) = tt
  effect-writes pc (Err t) = tt

  plain : (i : Instr) → Writes s (after_effect s.regs.pc (with_regs s (regs_effect i s.regs s.memory)))
  plain i = effect-writes s.regs.pc (with_regs s (regs_effect i s.regs s.memory))

  step_instr-writes : (i : Instr) → Writes s (step_instr false input s i)
  step_instr-writes (Upper op rd imm) = plain (Upper op rd imm)
  step_instr-writes (Jal rd offset) = plain (Jal rd offset)
  step_instr-writes (Jalr rd rs1 offset) = plain (Jalr rd rs1 offset)
  step_instr-writes (Branch c rs1 rs2 offset) = plain (Branch c rs1 rs2 offset)
  step_instr-writes (Load width rd rs1 offset) = plain (Load width rd rs1 offset)
  step_instr-writes (Store width rs1 rs2 offset) = effect-writes s.regs.pc (store_effect width (address s.regs rs1 offset) (reg s.regs rs2) s)
  step_instr-writes (OpImm op rd rs1 imm) = plain (OpImm op rd rs1 imm)
  step_instr-writes (Op op rd rs1 rs2) = plain (Op op rd rs1 rs2)
  step_instr-writes Fence = plain Fence
  step_instr-writes Ecall = service-writes
  step_instr-writes Ebreak = plain Ebreak

  step_row-writes : (o : Option Instr) → Writes s (step_row false input s o)
  step_row-writes None = tt
  step_row-writes (Some i) = step_instr-writes i

  step_word-writes : (o : Option ℕ) → Writes s (step_word false input s o)
  step_word-writes None = tt
  step_word-writes (Some w) = step_row-writes (instr w)

  step-writes : Writes s (step false input s)
  unfolding step
  step-writes = step_word-writes (load w32 s.memory s.regs.pc)

  write-of : (t : MachineState) (stream : ℕ) (bs : List ℕ) → 0 < length bs → Writes s (Next t stream bs) → IsWrite s t stream
  write-of t stream [] h w = absurd (omega arith)
  write-of t stream (b ∷ bs) h w = w

  -- an instruction that wrote bytes is a write
  pub is_write : (t : MachineState) (stream : ℕ) (bs : List ℕ) → 0 < length bs → step false input s ≡ Next t stream bs → IsWrite s t stream
  is_write t stream bs h e = write-of t stream bs h (subst (Writes s) e step-writes)

set_again : (xs : List ℕ) (i v w : ℕ) → set (set xs i v) i w ≡ set xs i w
set_again [] i v w = refl
set_again (x ∷ xs) zero v w = refl
set_again (x ∷ xs) (suc i) v w = ap (λ ys. x ∷ ys) (set_again xs i v w)

pc_back : (pc : ℕ) → pc < 2 ^ 32 → ((pc + 4) % 2 ^ 32 + (2 ^ 32 - 4)) % 2 ^ 32 ≡ pc
pc_back pc h = omega arith

regs_back : (f : RegFile) (count : ℕ) → IsRegFile f → f.pc < 2 ^ 32 → undone (reg f 10) (with_result f 10 count) ≡ f
regs_back f count h low =
    ap₂ (λ (pc : ℕ) (x : List ℕ). record { pc = pc; x = x }) (pc_back f.pc low)
    (set_again f.x 10 count (reg f 10) ∙ set-get_or f.x 10 0)

-- taken back, it is as if it hadn't been
pub taken_back : (s t : MachineState) (stream : ℕ) → IsRegFile s.regs → s.regs.pc < 2 ^ 32 → IsWrite s t stream → record t { regs = undone stream t.regs } ≡ s
taken_back s t stream h low w =
    ap₂ (λ (u : MachineState) (a : ℕ). record u { regs = undone a u.regs }) w.is (sym w.stream_is)
    ∙ ap (λ (f : RegFile). record s { regs = f }) (regs_back s.regs w.count h low)
