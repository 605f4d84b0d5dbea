use Rattle.std.proofs.Common.{◌++◌, Ok, Err, ap}
use Rattle.std.proofs.lemmas.Result.{err_from_is_err_and}
use Rattle.region_ledger.specs.Ledger.{totals_of}
use Rattle.report_text.specs.Reports.{totals_line, end_line}
use Rattle.sink_text.proofs.OnTexts.{TextSoFar-first, TextSoFar-next, TextSoFar-stops, TextSoFar-last, WritesText-as}
use Rattle.region_account.proofs.explanation.write_summary.Goals as goal

pub returns-in_err-write_made : goal.returns-in_err-write_made
returns-in_err-write_made g c =
    let p = err_from_is_err_and c.from_residual.result c.from_residual.ensures.1 in
    let totals = totals_line (totals_of c.args.rows.now c.args.finished.now.count) in
    let end = end_line c.args.finished.now.end in
    let written = WritesText-as {T = Unit {0}} (g.O.Sink.contents c.args.out.now) (g.O.Sink.contents c.write_made.new.out) (g.O.Sink.faults c.args.out.now) (g.O.Sink.faults c.write_made.new.out)
    (totals_line c.totals.result) totals (Err c.in_err-write_made.field-0.0) (ap totals_line c.totals.ensures.counts) (c.in_err-write_made.ensures (totals_line c.totals.result) c.totals_text.ensures) in
    rw (p.1, p.2) (TextSoFar-stops (Unit {0}) (Unit {0}) _ _ _ _ _ _ (totals ++ end) totals end c.in_err-write_made.field-0.0 (TextSoFar-first _ _ (totals ++ end)) written)

pub returns : goal.returns
returns g c =
    let totals = totals_line (totals_of c.args.rows.now c.args.finished.now.count) in
    let end = end_line c.args.finished.now.end in
    let written = WritesText-as {T = Unit {0}} (g.O.Sink.contents c.args.out.now) (g.O.Sink.contents c.write_made.new.out) (g.O.Sink.faults c.args.out.now) (g.O.Sink.faults c.write_made.new.out)
    (totals_line c.totals.result) totals (Ok c.in_ok-write_made.field-0) (ap totals_line c.totals.ensures.counts) (c.in_ok-write_made.ensures (totals_line c.totals.result) c.totals_text.ensures) in
    TextSoFar-last _ _ _ _ _ _ _ (totals ++ end) end c.write_made-2.result
    (TextSoFar-next _ _ _ _ _ _ (totals ++ end) totals end c.in_ok-write_made.field-0 (TextSoFar-first _ _ (totals ++ end)) written) (c.write_made-2.ensures end c.end_text.ensures)
