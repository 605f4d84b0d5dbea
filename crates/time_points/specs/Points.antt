-- What contracts see of the points of a program
use Rattle.std.specs.Prelude.{ℕ, List, map}
use Rattle.guest_model.specs.MachineState.{MachineState}
use Rattle.track_state.specs.Kept.{flat_state}
use Rattle.time_points.specs.Saved.{AreSaved}
use Rattle.time_points.specs.declared.points.Points.{Points}

-- the start of the program, how far the points are apart, the greatest count that may be asked for, and the states saved
pub record PointsView : Type 0 where
  pub start : MachineState
  pub every : ℕ
  pub greatest : ℕ
  pub saved : List MachineState

unfoldable pub view_of : Points → PointsView
view_of p = record {
  start = flat_state p.start.value;
  every = p.every;
  greatest = p.greatest;
  saved = map flat_state p.saved.items;
}

-- the points are those of the program with this input
abbrev pub HoldFor : List ℕ → PointsView → Type 0
HoldFor input p = AreSaved input p.start p.every p.greatest p.saved
