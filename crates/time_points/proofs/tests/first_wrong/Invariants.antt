use Rattle.std.proofs.Common.{◌≡◌}
use Rattle.time_points.specs.Points.{view_of, HoldFor}
use Rattle.time_points.proofs.tests.first_wrong.Given as goal

abbrev pub invariant-loop-count : goal.invariant-loop-count
invariant-loop-count l = record {
  saved : HoldFor l.input (view_of l.points);
  every : (view_of l.points).every ≡ l.every;
  greatest : (view_of l.points).greatest ≡ l.greatest;
}
