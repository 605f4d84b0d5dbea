use Rattle.std.proofs.Common.{◌≡◌, []}
use Rattle.time_points.specs.Points.{view_of, HoldFor}
use Rattle.time_points.proofs.tests.shows_a_sum.Given as goal

abbrev pub invariant-loop-count : goal.invariant-loop-count
invariant-loop-count g l = record {
  saved : HoldFor [] (view_of l.points);
  every : (view_of l.points).every ≡ 4;
  greatest : (view_of l.points).greatest ≡ 100;
}
