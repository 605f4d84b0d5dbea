use Rattle.std.proofs.Common.{◌≡◌, ◌≤◌, ◌+◌, ◌++◌, length}
use Rattle.std.specs.Prelude.{vec_len, vec_capacity}
use Rattle.std.specs.Vec.Iter.{into_iter_items, into_iter_len}
use Rattle.fasttrack_program.specs.Jobs.{histories_of_jobs}
use Rattle.fasttrack_program.proofs.histories.add_done.Given as goal

abbrev pub invariant-loop-report : goal.invariant-loop-report
invariant-loop-report l = record {
  left : l.yielded ++ into_iter_items l.report-iterator ≡ l.fn.reports.items;
  few : into_iter_len l.report-iterator ≡ length (into_iter_items l.report-iterator);
  added : l.histories.items ≡ l.fn.histories.items ++ histories_of_jobs l.yielded;
  room : vec_len l.histories + length (histories_of_jobs (into_iter_items l.report-iterator)) ≤ vec_capacity l.histories;
}
