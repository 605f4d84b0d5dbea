-- What an instruction on the registers answers and leaves
use Rattle.std.specs.Prelude.{◌≡◌, Result, Ok, Err}
use Rattle.guest_model.specs.Registers.{RegFile}
use Rattle.guest_model.specs.declared.end.Trap.{Trap}
use Rattle.guest_model.specs.declared.instr.Instr.{Instr}
use Rattle.guest_model.specs.declared.instr.Instr.TheVariants.{Store, Ecall}

-- the registers change as the effect wants, or a trap leaves them as before
abbrev pub Moves : {A : Type 0} → Result RegFile Trap → RegFile → RegFile → Result A Trap → Type 0
Moves want old new (Ok _) = want ≡ Ok new
Moves want old new (Err trap) = (want ≡ Err trap) × (new ≡ old)

-- every instruction but the stores and ECALL
abbrev pub ChangesRegisters : Instr → Type 0
ChangesRegisters (Store width rs1 rs2 offset) = ⊥
ChangesRegisters Ecall = ⊥
ChangesRegisters _ = Unit {0}
