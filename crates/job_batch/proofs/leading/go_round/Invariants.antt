use Rattle.std.proofs.Common.{◌≡◌}
use Rattle.std.specs.Prelude.{All}
use Rattle.job_batch.specs.Parts.{IsLed, starts_of}
use Rattle.job_batch.proofs.leading.go_round.Given as goal

abbrev pub invariant-loop-job : goal.invariant-loop-job
invariant-loop-job g l = record {
  led : All (IsLed l.locks) l.job-items;
  starts : starts_of l.job-items ≡ starts_of l.fn.jobs.items;
}
