use Rattle.track_state.proofs.OnComparison.{AgreesBelow}
use Rattle.track_state.proofs.comparison.register_difference.Given as goal

abbrev pub invariant-loop-r : goal.invariant-loop-r
invariant-loop-r l = record { agrees : AgreesBelow l.f l.g l.r }
