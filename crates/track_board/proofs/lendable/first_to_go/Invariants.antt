use Rattle.track_board.specs.LendTests.{may_go}
use Rattle.track_board.proofs.Walks.{SoughtFrom, names_left}
use Rattle.track_board.proofs.lendable.first_to_go.Given as goal

abbrev pub invariant-loop-next : goal.invariant-loop-next
invariant-loop-next l = SoughtFrom l.regions (λ r. may_go r.normal l.regions.nodes) l.next

abbrev pub decreases-loop-next : goal.decreases-loop-next
decreases-loop-next l = names_left l.regions.made l.next
