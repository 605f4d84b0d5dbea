use Rattle.std.proofs.Common.{◌+◌, drop, subst}
use Rattle.std.proofs.lemmas.Result.{err_from_is_err_and}
use Rattle.fasttrack_program.specs.Reports.{rows_text}
use Rattle.sink_text.proofs.OnTexts.{TextSoFar, TextSoFar-next, TextSoFar-stops}
use Rattle.fasttrack_program.proofs.OnTexts.{rows_next}
use Rattle.fasttrack_program.proofs.report.write_rows.Goals as goal

pub returns-in_err-write_row : goal.returns-in_err-write_row
returns-in_err-write_row g c =
    let p = err_from_is_err_and c.from_residual.result c.from_residual.ensures.1 in
    let so = subst (TextSoFar _ _ _ _ (rows_text c.args.rows.now)) (rows_next c.args.rows.now c.loop-row.row-index _ c.loop-row-test.true) c.loop-row.invariant in
    rw (p.1, p.2) (TextSoFar-stops (Unit {0}) (Unit {0}) _ _ _ _ _ _ _ _ (rows_text (drop (c.loop-row.row-index + 1) c.args.rows.now)) c.in_err-write_row.field-0.0 so c.in_err-write_row.ensures)

pub loop-row-preserved : goal.loop-row-preserved
loop-row-preserved g c =
    let so = subst (TextSoFar _ _ _ _ (rows_text c.args.rows.now)) (rows_next c.args.rows.now c.loop-row.row-index _ c.loop-row-test.true) c.loop-row.invariant in
    TextSoFar-next _ _ _ _ _ _ _ _ (rows_text (drop (c.loop-row.row-index + 1) c.args.rows.now)) c.in_ok-write_row.field-0 so c.in_ok-write_row.ensures
