use Rattle.std.proofs.Common.{◌≡◌}
use Rattle.std.specs.Prelude.{All}
use Rattle.job_batch.specs.Parts.{IsLed, starts_of}
use Rattle.job_batch.proofs.leading.lead_jobs.Given as goal

abbrev pub invariant-loop : goal.invariant-loop
invariant-loop g l = record {
  led : All (IsLed l.locks) l.jobs.items;
  starts : starts_of l.jobs.items ≡ starts_of l.fn.jobs.items;
}
