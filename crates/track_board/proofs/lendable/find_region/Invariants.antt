use Rattle.std.proofs.Common.{nat_eq}
use Rattle.track_board.proofs.Walks.{SoughtFrom, names_left}
use Rattle.track_board.proofs.lendable.find_region.Given as goal

abbrev pub invariant-loop-at : goal.invariant-loop-at
invariant-loop-at l = SoughtFrom l.regions (λ r. nat_eq l.number r.number) l.at

abbrev pub decreases-loop-at : goal.decreases-loop-at
decreases-loop-at l = names_left l.regions.made l.at
