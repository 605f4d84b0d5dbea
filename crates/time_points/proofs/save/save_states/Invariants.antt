use Rattle.std.proofs.Common.{map}
use Rattle.track_state.specs.Kept.{flat_state}
use Rattle.time_points.proofs.OnSaved.{SavedSoFar}
use Rattle.time_points.proofs.save.save_states.Given as goal

abbrev pub invariant-loop-point : goal.invariant-loop-point
invariant-loop-point l = SavedSoFar l.input (flat_state l.fn.start) l.every l.greatest l._point (flat_state l.state) (map flat_state l.saved.items)
