use Rattle.std.proofs.Common.{◌≤◌, length}
use Rattle.time_points.proofs.tests.run_plainly.Given as goal

abbrev pub invariant-loop-taken : goal.invariant-loop-taken
invariant-loop-taken l = l.state.place ≤ length l.input
