use Rattle.std.proofs.Common.{List, sym, subst}
use Rattle.guest_streams.specs.GuestStreams.{Sinks}
use Rattle.track_board.specs.Value.{Posted}
use Rattle.job_batch.specs.Ends.{AreEnds}
use Rattle.job_listing.specs.Listing.{merged}
use Rattle.job_listing.specs.declared.report.JobStart.{JobStart}
use Rattle.job_listing.proofs.OnEnds.{ends-finish}
use Rattle.job_listing.proofs.OnReports.{merged-ends}
use Rattle.fasttrack_program.specs.Jobs.{Batch, AreReports}
use Rattle.fasttrack_program.proofs.OnJobs.{ends-counted, told-reports}
use Rattle.fasttrack_program.proofs.show_batch.show_batch.Goals as goal

pub show_ends-requires-clause-runs : goal.show_ends-requires-clause-runs
show_ends-requires-clause-runs g c =
    let boards = c.args.jobs.boards.items in
    let are : AreEnds c.args.workers boards c.in-Ok.ends = subst (λ (vs : List Posted). AreEnds c.args.workers vs c.in-Ok.ends) c.from_vec.ensures c.in-Ok.ensures in
    rw c.as_slice.ensures.value (ends-counted c.args.workers boards c.in-Ok.ends c.args.jobs.starts.items are c.requires.runs)

pub show_ends-requires-clause-ends : goal.show_ends-requires-clause-ends
show_ends-requires-clause-ends g c = merged-ends c.as_slice.result.now c.in-Ok.ends (ends-finish c.args.workers c.from_vec.result c.in-Ok.ends c.in-Ok.ensures)

pub returns-in-Ok : goal.returns-in-Ok
returns-in-Ok g c = λ (b : Batch) (s : Sinks) is stands.
    let boards = c.args.jobs.boards.items in
    let are : AreEnds c.args.workers boards c.in-Ok.ends = subst (λ (vs : List Posted). AreEnds c.args.workers vs c.in-Ok.ends) c.from_vec.ensures c.in-Ok.ensures in
    let reports : AreReports b (merged c.as_slice.result.now c.in-Ok.ends) =
    subst (λ (starts : List JobStart). AreReports b (merged starts c.in-Ok.ends)) (sym c.as_slice.ensures.value) (told-reports b c.args.workers c.args.jobs.starts.items boards c.in-Ok.ends is stands are) in
    c.show_ends.ensures b s reports
