use Rattle.std.proofs.Common.{◌++◌, Err, ap}
use Rattle.std.proofs.lemmas.Result.{err_from_is_err_and}
use Rattle.region_ledger.specs.Ledger.{totals_of}
use Rattle.report_text.specs.Reports.{totals_line, end_line}
use Rattle.fasttrack_program.specs.Reports.{report, rows_text}
use Rattle.sink_text.proofs.OnTexts.{TextSoFar-first, TextSoFar-next, TextSoFar-stops, TextSoFar-last, WritesText-as}
use Rattle.fasttrack_program.proofs.report.write_report.Goals as goal

pub returns-in_err-write_rows : goal.returns-in_err-write_rows
returns-in_err-write_rows g c =
    let p = err_from_is_err_and c.from_residual.result c.from_residual.ensures.1 in
    let text = report c.args.rows.now c.args.finished.now.count c.args.finished.now.end in
    let rest = totals_line (totals_of c.args.rows.now c.args.finished.now.count) ++ end_line c.args.finished.now.end in
    rw (p.1, p.2) (TextSoFar-stops (Unit {0}) (Unit {0}) _ _ _ _ _ _ text (rows_text c.args.rows.now) rest c.in_err-write_rows.field-0.0 (TextSoFar-first _ _ text) c.in_err-write_rows.ensures)

pub returns-in_err-write_totals : goal.returns-in_err-write_totals
returns-in_err-write_totals g c =
    let p = err_from_is_err_and c.from_residual-in_err-write_totals.result c.from_residual-in_err-write_totals.ensures.1 in
    let text = report c.args.rows.now c.args.finished.now.count c.args.finished.now.end in
    let totals = totals_line (totals_of c.args.rows.now c.args.finished.now.count) in
    let end = end_line c.args.finished.now.end in
    let rows = TextSoFar-next _ _ _ _ _ _ text (rows_text c.args.rows.now) (totals ++ end) c.in_ok-write_rows.field-0 (TextSoFar-first _ _ text) c.in_ok-write_rows.ensures in
    let written = WritesText-as {T = Unit {0}} (g.O.Sink.contents c.write_rows.new.out) (g.O.Sink.contents c.write_totals.new.out) (g.O.Sink.faults c.write_rows.new.out) (g.O.Sink.faults c.write_totals.new.out)
    (totals_line c.totals.result) totals (Err c.in_err-write_totals.field-0.0) (ap totals_line c.totals.ensures.counts) c.in_err-write_totals.ensures in
    rw (p.1, p.2) (TextSoFar-stops (Unit {0}) (Unit {0}) _ _ _ _ _ _ text totals end c.in_err-write_totals.field-0.0 rows written)

pub returns : goal.returns
returns g c =
    let text = report c.args.rows.now c.args.finished.now.count c.args.finished.now.end in
    let totals = totals_line (totals_of c.args.rows.now c.args.finished.now.count) in
    let end = end_line c.args.finished.now.end in
    let rows = TextSoFar-next _ _ _ _ _ _ text (rows_text c.args.rows.now) (totals ++ end) c.in_ok-write_rows.field-0 (TextSoFar-first _ _ text) c.in_ok-write_rows.ensures in
    let written = rw c.totals.ensures.counts at c.in_ok-write_totals.ensures in
    TextSoFar-last _ _ _ _ _ _ _ text end c.write_end.result (TextSoFar-next _ _ _ _ _ _ text totals end c.in_ok-write_totals.field-0 rows written) c.write_end.ensures
