-- The steps at the calls of a dual region
use Rattle.std.specs.Prelude.{◌≡◌, ℕ, Bool, true, false, List, []}
use Rattle.speculation.specs.Machine.{Next}
use Rattle.guest_model.specs.Registers.{next, with_pc}
use Rattle.guest_model.specs.MachineState.{MachineState}
use Rattle.guest_model.specs.Service.{answer}
use Rattle.guest_model.specs.Step.{step, at_fast, at_end}
use Rattle.guest_model.specs.Rv32.{answer_one}

-- FastTrack is a step that answers 1 with `fast`, and 0 without; it is the only step on which `fast` bears.
-- EndDualTrack goes on and changes nothing else.
pub record IsFastStep (input : List ℕ) (s : MachineState) : Type 0 where
  pub opens : at_fast s ≡ true → step true input s ≡ Next (answer_one s) 1 []
  pub declines : at_fast s ≡ true → step false input s ≡ answer s 0
  pub same : at_fast s ≡ false → step true input s ≡ step false input s
  pub closes : (fast : Bool) → at_end s ≡ true → step fast input s ≡ Next (record s { regs = with_pc s.regs (next s.regs) }) 1 []
