use Rattle.std.proofs.Common.{◌+◌, drop, subst}
use Rattle.std.proofs.lemmas.Result.{err_from_is_err_and}
use Rattle.sink_text.proofs.OnTexts.{TextSoFar, TextSoFar-next, TextSoFar-stops}
use Rattle.job_listing.specs.Listing.{jobs_text, texts_from}
use Rattle.job_listing.proofs.OnReports.{texts-next}
use Rattle.job_listing.proofs.written.write_jobs.Goals as goal

pub returns-in_err-write_job : goal.returns-in_err-write_job
returns-in_err-write_job g c =
    let p = err_from_is_err_and c.from_residual.result c.from_residual.ensures.1 in
    let reports = c.args.reports.now in
    let k = c.loop-number.number in
    let so = subst (TextSoFar _ _ _ _ (jobs_text reports)) (texts-next reports k c.index-reports-number.result c.loop-number-test.true c.index-reports-number.is) c.loop-number.invariant in
    rw (p.1, p.2) (TextSoFar-stops (Unit {0}) (Unit {0}) _ _ _ _ _ _ _ _ (texts_from (k + 1) (drop (k + 1) reports)) c.in_err-write_job.field-0.0 so c.in_err-write_job.ensures)

pub loop-number-preserved : goal.loop-number-preserved
loop-number-preserved g c =
    let reports = c.args.reports.now in
    let k = c.loop-number.number in
    let so = subst (TextSoFar _ _ _ _ (jobs_text reports)) (texts-next reports k c.index-reports-number.result c.loop-number-test.true c.index-reports-number.is) c.loop-number.invariant in
    TextSoFar-next _ _ _ _ _ _ _ _ (texts_from (k + 1) (drop (k + 1) reports)) c.in_ok-write_job.field-0 so c.in_ok-write_job.ensures
