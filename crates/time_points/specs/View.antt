-- What a program shows after a number of instructions
use Rattle.std.specs.Prelude.{◌≡◌, ℕ, List, unwrap_or}
use Rattle.speculation.specs.Record.{run}
use Rattle.guest_model.specs.MachineState.{MachineState}
use Rattle.guest_model.specs.Rv32.{rv32}
use Rattle.guest_model.specs.declared.end.End.TheVariants.{Spent}
use Rattle.track_state.specs.Kept.{flat_state}
use Rattle.time_points.specs.declared.view.View.{View}

-- The view of a count: the last state of the plain run of that many instructions from the start, how many instructions it
-- took, and its end, Spent where the program still runs
pub record IsViewOf (input : List ℕ) (start : MachineState) (count : ℕ) (v : View) : Type 0 where
  pub state : flat_state v.state ≡ (run (rv32 input) start count).last
  pub taken : v.taken ≡ (run (rv32 input) start count).count
  pub end : v.end ≡ unwrap_or (run (rv32 input) start count).end Spent
