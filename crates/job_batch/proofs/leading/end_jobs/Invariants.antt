use Rattle.std.proofs.Common.{◌≡◌, ℕ, ◌++◌, length}
use Rattle.std.specs.Prelude.{All}
use Rattle.std.specs.Vec.Iter.{into_iter_items, into_iter_len}
use Rattle.job_batch.specs.Ends.{AreEnds}
use Rattle.job_batch.specs.Parts.{HasSeats, boards_of}
use Rattle.job_batch.proofs.leading.end_jobs.Given as goal

abbrev pub invariant-loop-job : goal.invariant-loop-job
invariant-loop-job g l = record {
  left : l.yielded ++ into_iter_items l.job-iterator ≡ l.fn.jobs.items;
  few : into_iter_len l.job-iterator ≡ length (into_iter_items l.job-iterator);
  ended : (workers : ℕ) → All (HasSeats workers) l.fn.jobs.items → AreEnds workers (boards_of l.yielded) l.ends.items;
}
