use Rattle.job_listing.proofs.OnReports.{length-merged}
use Rattle.job_listing.proofs.laws.every_job_has_a_report.Goals as goal

pub returns : goal.returns
returns c = length-merged
