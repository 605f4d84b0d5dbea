use Rattle.job_listing.proofs.OnEnds.{ends-finish}
use Rattle.job_listing.proofs.OnReports.{merged-ends}
use Rattle.job_listing.proofs.laws.batches_can_be_written.Goals as goal

pub returns : goal.returns
returns c = λ workers boards jobs ends are. merged-ends jobs ends (ends-finish workers boards ends are)
