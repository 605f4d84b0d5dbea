use Rattle.std.proofs.Common.{◌++◌, Ok, Err, ap, ◌∙◌}
use Rattle.std.proofs.lemmas.Result.{err_from_is_err_and}
use Rattle.region_ledger.specs.Ledger.{totals_of}
use Rattle.report_text.specs.Reports.{totals_line, end_line}
use Rattle.sink_text.proofs.OnTexts.{TextSoFar-first, TextSoFar-next, TextSoFar-stops, TextSoFar-last, WritesText-as}
use Rattle.check_report.specs.CheckedTexts.{checked_text, journal_line}
use Rattle.check_report.proofs.checked.write_checked.Goals as goal

pub returns-in_err-write_made : goal.returns-in_err-write_made
returns-in_err-write_made g c =
    let p = err_from_is_err_and c.from_residual.result c.from_residual.ensures.1 in
    let it = c.args.checked.now in
    let text = checked_text it.entries it.released it.left it.rows it.finished in
    let line = journal_line it.entries it.released it.left in
    let rest = totals_line (totals_of it.rows it.finished.count) ++ end_line it.finished.end in
    rw (p.1, p.2) (TextSoFar-stops (Unit {0}) (Unit {0}) _ _ _ _ _ _ text line rest c.in_err-write_made.field-0.0 (TextSoFar-first _ _ text)
    (c.in_err-write_made.ensures line c.journal_text.ensures))

pub returns-in_err-write_made-2 : goal.returns-in_err-write_made-2
returns-in_err-write_made-2 g c =
    let p = err_from_is_err_and c.from_residual-in_err-write_made-2.result c.from_residual-in_err-write_made-2.ensures.1 in
    let it = c.args.checked.now in
    let text = checked_text it.entries it.released it.left it.rows it.finished in
    let line = journal_line it.entries it.released it.left in
    let totals = totals_line (totals_of it.rows it.finished.count) in
    let end = end_line it.finished.end in
    let first = TextSoFar-next _ _ _ _ _ _ text line (totals ++ end) c.in_ok-write_made.field-0 (TextSoFar-first _ _ text)
    (c.in_ok-write_made.ensures line c.journal_text.ensures) in
    let same = ap totals_line (c.totals-totals.ensures.counts ∙ ap (λ rows. totals_of rows it.finished.count) c.as_slice.ensures) in
    let written = WritesText-as {T = Unit {0}} (g.O.Sink.contents c.write_made.new.out) (g.O.Sink.contents c.write_made-2.new.out)
    (g.O.Sink.faults c.write_made.new.out) (g.O.Sink.faults c.write_made-2.new.out) (totals_line c.totals-totals.result) totals
    (Err c.in_err-write_made-2.field-0.0) same (c.in_err-write_made-2.ensures (totals_line c.totals-totals.result) c.totals_text.ensures) in
    rw (p.1, p.2) (TextSoFar-stops (Unit {0}) (Unit {0}) _ _ _ _ _ _ text totals end c.in_err-write_made-2.field-0.0 first written)

pub returns : goal.returns
returns g c =
    let it = c.args.checked.now in
    let text = checked_text it.entries it.released it.left it.rows it.finished in
    let line = journal_line it.entries it.released it.left in
    let totals = totals_line (totals_of it.rows it.finished.count) in
    let end = end_line it.finished.end in
    let first = TextSoFar-next _ _ _ _ _ _ text line (totals ++ end) c.in_ok-write_made.field-0 (TextSoFar-first _ _ text)
    (c.in_ok-write_made.ensures line c.journal_text.ensures) in
    let same = ap totals_line (c.totals-totals.ensures.counts ∙ ap (λ rows. totals_of rows it.finished.count) c.as_slice.ensures) in
    let written = WritesText-as {T = Unit {0}} (g.O.Sink.contents c.write_made.new.out) (g.O.Sink.contents c.write_made-2.new.out)
    (g.O.Sink.faults c.write_made.new.out) (g.O.Sink.faults c.write_made-2.new.out) (totals_line c.totals-totals.result) totals
    (Ok c.in_ok-write_made-2.field-0) same (c.in_ok-write_made-2.ensures (totals_line c.totals-totals.result) c.totals_text.ensures) in
    TextSoFar-last _ _ _ _ _ _ _ text end c.write_made-3.result
    (TextSoFar-next _ _ _ _ _ _ text totals end c.in_ok-write_made-2.field-0 first written) (c.write_made-3.ensures end c.end_text.ensures)
