use Rattle.std.proofs.Common.{Err, sym, ap, subst}
use Rattle.guest_streams.specs.GuestStreams.{Sinks, with_out}
use Rattle.job_listing.specs.Listing.{jobs_text}
use Rattle.sink_text.proofs.OnTexts.{WritesText-as}
use Rattle.fasttrack_program.specs.Jobs.{Batch, AreReports}
use Rattle.fasttrack_program.proofs.OnJobs.{reports-whole, reports-part}
use Rattle.fasttrack_program.proofs.show_batch.show_ends.Goals as goal

pub returns-in-Ok-write_jobs : goal.returns-in-Ok-write_jobs
returns-in-Ok-write_jobs g c = λ (b : Batch) (s : Sinks) are.
    let reports = c.in-Ok.reports in
    let written = rw c.as_slice.ensures.value at c.in-Ok-write_jobs.ensures in
    reports-whole b reports (subst (AreReports b) (sym c.in-Ok.ensures) are) (with_out g.O.Sink c.args.out.now s) (g.O.Sink.contents c.write_jobs.new.out) (g.O.Sink.faults c.write_jobs.new.out) c.in-Ok-write_jobs.field-0 written

pub returns-in-Err-write_jobs : goal.returns-in-Err-write_jobs
returns-in-Err-write_jobs g c = λ (b : Batch) (s : Sinks) are.
    let reports = c.in-Ok.reports in
    let before = with_out g.O.Sink c.args.out.now s in
    let written = WritesText-as {T = Unit {0}} before.out (g.O.Sink.contents c.write_jobs.new.out) before.out_faults (g.O.Sink.faults c.write_jobs.new.out) (jobs_text c.as_slice.result.now) (jobs_text reports.items) (Err c.in-Err-write_jobs.fault)
    (ap jobs_text c.as_slice.ensures.value) c.in-Err-write_jobs.ensures in
    rw (c.plain-in-Err-write_jobs.ensures, c.answer_of_fault.ensures)
    (reports-part b reports (subst (AreReports b) (sym c.in-Ok.ensures) are) before (g.O.Sink.contents c.write_jobs.new.out) (g.O.Sink.faults c.write_jobs.new.out) c.in-Err-write_jobs.fault written)
