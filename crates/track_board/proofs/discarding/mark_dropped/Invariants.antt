use Rattle.std.proofs.Common.{◌≡◌, ◌++◌, map, take, drop}
use Rattle.track_board.specs.Discarding.{lent_dropped}
use Rattle.track_board.proofs.discarding.mark_dropped.Given as goal

abbrev pub invariant-loop-loan : goal.invariant-loop-loan
invariant-loop-loan l = l.loan-items ≡ map (lent_dropped l.row) (take l.loan-index l.fn.loans.items) ++ drop l.loan-index l.fn.loans.items
