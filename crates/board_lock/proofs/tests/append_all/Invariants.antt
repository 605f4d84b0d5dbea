use Rattle.std.proofs.Common.{◌≡◌, false}
use Rattle.board_lock.proofs.tests.append_all.Given as goal

abbrev pub invariant-loop-number : goal.invariant-loop-number
invariant-loop-number g l = (l.pass.lock ≡ l.lock) × (l.pass.in_turn ≡ false)
