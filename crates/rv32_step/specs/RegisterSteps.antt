-- What an instruction does to the registers, with a word that was fetched before
use Rattle.std.specs.Prelude.{◌≡◌, ◌≢◌, ℕ, Bool, false, Some, List, []}
use Rattle.std.specs.Int.{w32}
use Rattle.speculation.specs.Machine.{Next as GoesOn, Ends as Stops}
use Rattle.guest_model.specs.ByteMap.{ByteMap, load}
use Rattle.guest_model.specs.Registers.{RegFile}
use Rattle.guest_model.specs.MachineState.{MachineState}
use Rattle.guest_model.specs.InstructionTable.{instr, FieldsFit}
use Rattle.guest_model.specs.Step.{step, step_instr, is_ecall}
use Rattle.guest_model.specs.declared.end.End.TheVariants.{Spent}
use Rattle.guest_model.specs.declared.instr.Instr.{Instr}
use Rattle.guest_model.specs.declared.instr.Instr.TheVariants.{Store, Ecall}
use Rattle.rv32_step.specs.declared.on_registers.RegisterStep.{RegisterStep}
use Rattle.rv32_step.specs.declared.on_registers.RegisterStep.TheVariants.{Next, Ends, Other}

-- the word at this pc is that of the instruction
pub record StandsAt (m : ByteMap) (pc : ℕ) (i : Instr) : Type 0 where
  pub word : ℕ
  pub fetched : load w32 m pc ≡ Some word
  pub row : Some i ≡ instr word

-- the stores and ECALL
abbrev pub ChangesMore : Instr → Type 0
ChangesMore (Store width rs1 rs2 offset) = Unit {0}
ChangesMore Ecall = Unit {0}
ChangesMore _ = ⊥

-- This is the instruction at pc, and a store or ECALL. A store is at no call.
pub record IsOther (s : MachineState) (i : Instr) : Type 0 where
  pub fit : FieldsFit i
  pub more : ChangesMore i
  pub is : (fast : Bool) (input : List ℕ) → step fast input s ≡ step_instr fast input s i
  pub no_call : i ≢ Ecall → is_ecall (load w32 s.memory s.regs.pc) ≡ false

-- The step, with any input. One that changes registers alone is at no call.
abbrev pub StepsRegisters : MachineState → RegFile → RegisterStep → Type 0
StepsRegisters s new Next =
    ((fast : Bool) (input : List ℕ) → step fast input s ≡ GoesOn (record s { regs = new }) 1 [])
    × (is_ecall (load w32 s.memory s.regs.pc) ≡ false)
StepsRegisters s new (Ends end) =
    (end ≢ Spent) × ((fast : Bool) (input : List ℕ) → step fast input s ≡ Stops end) × (new ≡ s.regs)
StepsRegisters s new (Other i) = IsOther s i × (new ≡ s.regs)
