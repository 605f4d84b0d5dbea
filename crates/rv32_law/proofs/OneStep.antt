-- One instruction leads from a guest state to a guest state with the same layout, and writes at most 2 ^ 20 bytes.
use Rattle.std.proofs.Common.{◌≡◌, ℕ, ◌+◌, ◌-◌, ◌^◌, ◌%◌, ◌≤◌, min, Bool, true, false, if◌then◌else◌, ◌||◌, ◌==◌, List, [], length, drop, Option, Some, None, Result, Ok, Err, refl, arith}
use Rattle.std.specs.Int.{w32}
use Rattle.std.proofs.Math.Nat.{min-le_left, min-le_right}
use Rattle.std.proofs.lemmas.List.{length-take, length-drop}
use Rattle.speculation.specs.Machine.{Next, Ends}
use Rattle.guest_model.specs.ByteMap.{ByteMap, mapped, bytes_from, load}
use Rattle.guest_model.specs.Registers.{RegFile, IsRegFile, reg, with_pc, with_reg, with_result, next}
use Rattle.guest_model.specs.MachineState.{MachineState}
use Rattle.guest_model.specs.Effect.{store_bytes, store_len, store_effect, load_effect, jump, regs_effect, with_regs, address, load_value}
use Rattle.guest_model.specs.Arithmetic.{taken}
use Rattle.guest_model.specs.Word.{sum, word_of}
use Rattle.guest_model.specs.InstructionTable.{instr}
use Rattle.guest_model.specs.Service.{Outcome, answer, cut, input_bytes, read_outcome, read_service, write_service, brk_service, is_in_heap, service_of, service, bad_address, bad_descriptor, no_such_service}
use Rattle.guest_model.specs.Step.{after_effect, step_instr, step_row, step_word, step}
use Rattle.guest_model.specs.Rv32.{answer_one}
use Rattle.guest_model.specs.declared.end.End.TheVariants.{Exit}
use Rattle.guest_model.specs.declared.end.Trap.{Trap}
use Rattle.guest_model.specs.declared.end.Trap.TheVariants.{Misaligned, StoreUnmapped}
use Rattle.guest_model.specs.declared.instr.Instr.{Instr}
use Rattle.guest_model.specs.declared.instr.Instr.TheVariants.{Upper, Jal, Jalr, Branch, Load, Store, OpImm, Op, Fence, Ecall, Ebreak}
use Rattle.guest_model.specs.declared.instr.StoreWidth.{StoreWidth}
use Rattle.guest_model.specs.declared.instr.StoreWidth.TheVariants as S
use Rattle.guest_model.proofs.OnByteMap.{length-bytes_from}
use Rattle.rv32_law.specs.GuestStates.{IsGuestState, KeepsState, StepKeeps}
use Rattle.rv32_law.proofs.Keeping.{KeepsState-refl, KeepsState-trans, with_reg-keeps, with_pc-keeps, with_result-keeps, with_regs-keeps, with_brk-keeps, write-keeps}

-- ---- the instructions that change registers alone

abbrev RegsKept : Result RegFile Trap → Type 0
RegsKept (Ok f) = IsRegFile f
RegsKept (Err t) = Unit {0}

regs_by : (test : Bool) (x y : Result RegFile Trap) → RegsKept x → RegsKept y → RegsKept (if test then x else y)
regs_by true x y h k = h
regs_by false x y h k = k

jump-keeps : (f : RegFile) (rd target : ℕ) → IsRegFile f → RegsKept (jump f rd target)
jump-keeps f rd target h =
    regs_by (target % 4 == 0) (Ok (with_pc (with_reg f rd (next f)) target)) (Err Misaligned) (with_pc-keeps (with_reg f rd (next f)) target (with_reg-keeps f rd (next f) h)) tt

load-keeps : (f : RegFile) (rd : ℕ) (o : Option ℕ) → IsRegFile f → RegsKept (load_effect f rd o)
load-keeps f rd None h = tt
load-keeps f rd (Some v) h = with_result-keeps f rd v h

regs_effect-keeps : (i : Instr) (f : RegFile) (m : ByteMap) → IsRegFile f → RegsKept (regs_effect i f m)
regs_effect-keeps (Upper op rd imm) f m h = with_result-keeps f rd _ h
regs_effect-keeps (Jal rd offset) f m h = jump-keeps f rd _ h
regs_effect-keeps (Jalr rd rs1 offset) f m h = jump-keeps f rd _ h
regs_effect-keeps (Branch c rs1 rs2 offset) f m h =
    regs_by (taken c (reg f rs1) (reg f rs2)) (jump f 0 (sum f.pc (word_of offset))) (Ok (with_pc f (next f))) (jump-keeps f 0 _ h) (with_pc-keeps f (next f) h)
regs_effect-keeps (Load width rd rs1 offset) f m h = load-keeps f rd (load_value width m (address f rs1 offset)) h
regs_effect-keeps (Store width rs1 rs2 offset) f m h = with_pc-keeps f (next f) h
regs_effect-keeps (OpImm op rd rs1 imm) f m h = with_result-keeps f rd _ h
regs_effect-keeps (Op op rd rs1 rs2) f m h = with_result-keeps f rd _ h
regs_effect-keeps Fence f m h = with_pc-keeps f (next f) h
regs_effect-keeps Ecall f m h = with_pc-keeps f (next f) h
regs_effect-keeps Ebreak f m h = tt

length-store_bytes : (width : StoreWidth) (v : ℕ) → length (store_bytes width v) ≡ store_len width
length-store_bytes S.B v = refl
length-store_bytes S.H v = refl
length-store_bytes S.W v = refl

module _ (input : List ℕ) (s : MachineState) (h : IsGuestState input s) where
  -- a state that keeps s, with nothing written
  quiet : (t : MachineState) (stream : ℕ) → KeepsState input s t → StepKeeps input s (Next t stream [])
  quiet t stream k = record { keeps = k; written = omega arith }

  regs-step : (r : Result RegFile Trap) → RegsKept r → StepKeeps input s (after_effect s.regs.pc (with_regs s r))
  regs-step (Ok f) k = quiet (record s { regs = f }) 1 (with_regs-keeps input s f h k)
  regs-step (Err t) k = λ e. cc

  by_test : (test : Bool) (x y : Outcome) → (test ≡ true → StepKeeps input s x) → StepKeeps input s y → StepKeeps input s (if test then x else y)
  by_test true x y k l = k refl
  by_test false x y k l = l

  stored-keeps : (t : MachineState) (trap : Trap) (test : Bool) → (test ≡ true → KeepsState input s t) → StepKeeps input s (after_effect s.regs.pc (if test then Ok t else Err trap))
  stored-keeps t trap true k = quiet t 1 (k refl)
  stored-keeps t trap false k = λ e. cc

  store-keeps : (width : StoreWidth) (a v : ℕ) → StepKeeps input s (after_effect s.regs.pc (store_effect width a v s))
  store-keeps width a v = stored-keeps _ StoreUnmapped (mapped s.memory a (store_len width)) (λ there.
      write-keeps input s (with_pc s.regs (next s.regs)) a (store_len width) s.place (store_bytes width v) h (with_pc-keeps s.regs (next s.regs) h.registers) there
      (omega (arith, length-store_bytes width v)) h.place)

  -- ---- the services

  answer-keeps : (t : MachineState) (v : ℕ) → KeepsState input s t → StepKeeps input s (answer t v)
  answer-keeps t v k = quiet _ 1 (KeepsState-trans input s t _ k (with_regs-keeps input t (with_result t.regs 10 v) k.state (with_result-keeps t.regs 10 v k.state.registers)))

  refused : (v : ℕ) → StepKeeps input s (answer s v)
  refused v = answer-keeps s v (KeepsState-refl input s h)

  read-keeps : (a count : ℕ) → mapped s.memory a (cut count) ≡ true → StepKeeps input s (read_outcome s a (input_bytes input s.place (cut count)))
  read-keeps a count there =
      let bs : List ℕ = input_bytes input s.place (cut count) in
      let taken : length bs ≡ min (cut count) (length (drop s.place input)) = length-take (cut count) (drop s.place input) in
      let short : length bs ≤ cut count = omega (arith, taken, min-le_left (cut count) (length (drop s.place input))) in
      let rest : length bs ≤ length input - s.place = omega (arith, taken, min-le_right (cut count) (length (drop s.place input)), length-drop s.place input) in
      answer-keeps (record s { memory = _; place = s.place + length bs }) (length bs)
      (write-keeps input s s.regs a (cut count) (s.place + length bs) bs h h.registers there short (omega (arith, rest, h.place)))

  read_service-keeps : (descriptor a count : ℕ) → StepKeeps input s (read_service input s descriptor a count)
  read_service-keeps descriptor a count =
      by_test (descriptor == 0) _ _ (λ _.
      by_test (cut count == 0) _ _ (λ _. refused 0) (
      by_test (mapped s.memory a (cut count)) _ _ (read-keeps a count) (refused bad_address))) (refused bad_descriptor)

  write-outcome-keeps : (stream a count : ℕ) → StepKeeps input s (Next (record s { regs = with_result s.regs 10 (cut count) }) stream (bytes_from s.memory a (cut count)))
  write-outcome-keeps stream a count = record {
    keeps = with_regs-keeps input s (with_result s.regs 10 (cut count)) h (with_result-keeps s.regs 10 (cut count) h.registers);
    written = omega (arith, length-bytes_from s.memory a (cut count), min-le_right count (2 ^ 20));
  }

  write_service-keeps : (stream a count : ℕ) → StepKeeps input s (write_service s stream a count)
  write_service-keeps stream a count =
      by_test (stream == 1 || stream == 2) _ _ (λ _.
      by_test (cut count == 0) _ _ (λ _. refused 0) (
      by_test (mapped s.memory a (cut count)) _ _ (λ _. write-outcome-keeps stream a count) (refused bad_address))) (refused bad_descriptor)

  brk_service-keeps : (a : ℕ) → StepKeeps input s (brk_service s a)
  brk_service-keeps a = by_test (is_in_heap s.heap a) _ _ (λ _. answer-keeps (record s { heap = record s.heap { brk = a } }) a (with_brk-keeps input s a h)) (refused s.heap.brk)

  service_of-keeps : (fast : Bool) (number a0 a1 a2 : ℕ) → StepKeeps input s (service_of fast input s number a0 a1 a2)
  service_of-keeps fast number a0 a1 a2 =
      by_test (number == 63) _ _ (λ _. read_service-keeps a0 a1 a2) (
      by_test (number == 64) _ _ (λ _. write_service-keeps a0 a1 a2) (
      by_test (number == 93 || number == 94) (Ends (Exit a0)) _ (λ _ e. cc) (
      by_test (number == 214) _ _ (λ _. brk_service-keeps a0) (
      by_test (number == 2000) _ _ (λ _. refused (if fast then 1 else 0)) (
      by_test (number == 2001) _ _ (λ _. quiet _ 1 (with_regs-keeps input s _ h (with_pc-keeps s.regs (next s.regs) h.registers))) (refused no_such_service))))))

  service-keeps : (fast : Bool) → StepKeeps input s (service fast input s)
  unfolding service
  service-keeps fast = service_of-keeps fast (reg s.regs 17) (reg s.regs 10) (reg s.regs 11) (reg s.regs 12)

  -- ---- one instruction

  plain : (i : Instr) → StepKeeps input s (after_effect s.regs.pc (with_regs s (regs_effect i s.regs s.memory)))
  plain i = regs-step (regs_effect i s.regs s.memory) (regs_effect-keeps i s.regs s.memory h.registers)

  step_instr-keeps : (fast : Bool) (i : Instr) → StepKeeps input s (step_instr fast input s i)
  step_instr-keeps fast (Upper op rd imm) = plain (Upper op rd imm)
  step_instr-keeps fast (Jal rd offset) = plain (Jal rd offset)
  step_instr-keeps fast (Jalr rd rs1 offset) = plain (Jalr rd rs1 offset)
  step_instr-keeps fast (Branch c rs1 rs2 offset) = plain (Branch c rs1 rs2 offset)
  step_instr-keeps fast (Load width rd rs1 offset) = plain (Load width rd rs1 offset)
  step_instr-keeps fast (Store width rs1 rs2 offset) = store-keeps width (address s.regs rs1 offset) (reg s.regs rs2)
  step_instr-keeps fast (OpImm op rd rs1 imm) = plain (OpImm op rd rs1 imm)
  step_instr-keeps fast (Op op rd rs1 rs2) = plain (Op op rd rs1 rs2)
  step_instr-keeps fast Fence = plain Fence
  step_instr-keeps fast Ecall = service-keeps fast
  step_instr-keeps fast Ebreak = plain Ebreak

  step_row-keeps : (fast : Bool) (o : Option Instr) → StepKeeps input s (step_row fast input s o)
  step_row-keeps fast None = λ e. cc
  step_row-keeps fast (Some i) = step_instr-keeps fast i

  step_word-keeps : (fast : Bool) (o : Option ℕ) → StepKeeps input s (step_word fast input s o)
  step_word-keeps fast None = λ e. cc
  step_word-keeps fast (Some w) = step_row-keeps fast (instr w)

  -- one instruction, whatever the opening call is answered
  pub step-keeps : (fast : Bool) → StepKeeps input s (step fast input s)
  unfolding step
  step-keeps fast = step_word-keeps fast (load w32 s.memory s.regs.pc)

  -- the opening call, answered by 1
  pub answer_one-keeps : KeepsState input s (answer_one s)
  answer_one-keeps = with_regs-keeps input s (with_result s.regs 10 1) h (with_result-keeps s.regs 10 1 h.registers)
