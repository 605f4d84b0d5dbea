use Rattle.std.proofs.Common.{◌≡◌, ◌+◌, false}
use Rattle.std.specs.Prelude.{All}
use Rattle.board_lock.proofs.tests.passes.Given as goal

abbrev pub invariant-loop : goal.invariant-loop
invariant-loop l = (l.first.lock ≡ l.lock) × (l.first.in_turn ≡ false) × (l.first.stock ≡ l.initial.first.stock + l.counter) × All (λ p. (p.lock ≡ l.lock) × (p.in_turn ≡ false)) l.made.items
