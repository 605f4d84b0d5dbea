use Rattle.std.proofs.Common.{◌≤◌}
use Rattle.seniority_queue.proofs.tests.agrees_with_a_plain_list.Given as goal

abbrev pub invariant-loop-turn : goal.invariant-loop-turn
invariant-loop-turn g l = l.queue.made ≤ l.turn
