-- The step at a word that was fetched before
use Rattle.std.proofs.Common.{◌≡◌, ◌≢◌, ℕ, Bool, false, List, Option, Some, None, Ok, Err, refl, sym, ap, ◌∙◌, subst, inl, inr}
use Rattle.std.specs.Prelude.{◌==◌}
use Rattle.std.specs.Int.{w32}
use Rattle.std.proofs.lemmas.Bool.{cases_Bool, eqb-true}
use Rattle.guest_model.specs.ByteMap.{load}
use Rattle.guest_model.specs.Registers.{RegFile}
use Rattle.guest_model.specs.MachineState.{MachineState}
use Rattle.guest_model.specs.InstructionTable.{instr, FieldsFit}
use Rattle.guest_model.specs.Effect.{regs_effect, with_regs}
use Rattle.guest_model.specs.Step.{step, step_row, step_word, step_instr, after_effect, is_ecall}
use Rattle.guest_model.specs.declared.end.End.TheVariants as E
use Rattle.guest_model.specs.declared.end.Trap.{Trap}
use Rattle.guest_model.specs.declared.end.Trap.TheVariants.{Illegal}
use Rattle.guest_model.specs.declared.instr.Instr.{Instr}
use Rattle.guest_model.specs.declared.instr.Instr.TheVariants.{Store, Ecall}
use Rattle.rv32_step.specs.Moves.{ChangesRegisters}
use Rattle.rv32_step.specs.RegisterSteps.{ChangesMore, StepsRegisters}
use Rattle.rv32_step.specs.declared.on_registers.RegisterStep.TheVariants as R

module _ (s : MachineState) (w : ℕ) (fetched : load w32 s.memory s.regs.pc ≡ Some w) where
  step-row : (o : Option Instr) → o ≡ instr w → (fast : Bool) (input : List ℕ) → step fast input s ≡ step_row fast input s o
  unfolding step
  step-row o row fast input = ap (λ p. step_word fast input s p) fetched ∙ ap (λ p. step_row fast input s p) (sym row)

  pub illegal : None ≡ instr w → StepsRegisters s s.regs (R.Ends (E.Trap Illegal s.regs.pc))
  illegal row = ((λ e. cc), step-row None row, refl)

  on_registers : (i : Instr) → ChangesRegisters i → (fast : Bool) (input : List ℕ) → step_instr fast input s i ≡ after_effect s.regs.pc (with_regs s (regs_effect i s.regs s.memory))
  on_registers (Store width rs1 rs2 offset) h fast input = absurd h
  on_registers Ecall h fast input = absurd h
  on_registers _ h fast input = refl

  -- the word of ECALL is that of no other instruction
  not_ecall : (i : Instr) → Some i ≡ instr w → i ≢ Ecall → is_ecall (load w32 s.memory s.regs.pc) ≡ false
  not_ecall i row differs = ap is_ecall fetched ∙ (elim (cases_Bool (w == 0x00000073)) [
    | inl same ↦ absurd (differs (is_some-same (row ∙ ap instr (eqb-true w 0x00000073 same))))
    | inr other ↦ other
  ]) where
    is_some-same : Some i ≡ Some Ecall → i ≡ Ecall
    is_some-same e = cc

  no_ecall : (i : Instr) → ChangesRegisters i → i ≢ Ecall
  no_ecall i h e = subst ChangesRegisters e h

  pub other : (i : Instr) → Some i ≡ instr w → FieldsFit i → ChangesMore i → StepsRegisters s s.regs (R.Other i)
  other i row fit more = (record { fit = fit; more = more; is = step-row (Some i) row; no_call = not_ecall i row }, refl)

  pub went : (i : Instr) (new : RegFile) → Some i ≡ instr w → ChangesRegisters i → regs_effect i s.regs s.memory ≡ Ok new → StepsRegisters s new R.Next
  went i new row h e =
      ((λ fast input. step-row (Some i) row fast input ∙ on_registers i h fast input ∙ ap (λ r. after_effect s.regs.pc (with_regs s r)) e), not_ecall i row (no_ecall i h))

  pub trapped : (i : Instr) (trap : Trap) → Some i ≡ instr w → ChangesRegisters i → regs_effect i s.regs s.memory ≡ Err trap → StepsRegisters s s.regs (R.Ends (E.Trap trap s.regs.pc))
  trapped i trap row h e =
      ((λ e. cc), (λ fast input. step-row (Some i) row fast input ∙ on_registers i h fast input ∙ ap (λ r. after_effect s.regs.pc (with_regs s r)) e), refl)
