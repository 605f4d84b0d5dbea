use Rattle.std.proofs.Common.{List, [], ◌∷◌, All, sym, ◌∙◌, subst}
use Rattle.elf32_loader.specs.declared.fault.ImageFault.TheVariants.{Short}
use Rattle.job_listing.specs.declared.report.JobStart.{JobStart}
use Rattle.job_listing.specs.declared.report.JobStart.TheVariants.{TooLong, BadImage, Runs}
use Rattle.job_listing.specs.Listing.{HasEnd}
use Rattle.job_listing.proofs.OnEnds.{ends-finish}
use Rattle.job_listing.proofs.OnReports.{merged-ends}
use Rattle.job_listing.proofs.tests.joins_the_ends_of_a_batch.Goals as goal

pub assert_writes-requires : goal.assert_writes-requires
assert_writes-requires g c =
    let jobs : List JobStart = Runs ∷ BadImage Short ∷ TooLong ∷ Runs ∷ [] in
    subst (All HasEnd) (sym (c.as_slice-2.ensures.value ∙ c.in_ok-reports.ensures))
    (merged-ends jobs c.in_ok-ends.ends (ends-finish 0 c.from_vec.result c.in_ok-ends.ends c.in_ok-ends.ensures))
