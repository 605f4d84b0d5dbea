use Rattle.std.proofs.lemmas.Result.{err_from_is_err_and}
use Rattle.fasttrack_program.specs.Reports.{asked_report, asked_journal, asked_texts}
use Rattle.sink_text.proofs.OnTexts.{TextSoFar-first, TextSoFar-next, TextSoFar-stops, TextSoFar-last}
use Rattle.fasttrack_program.proofs.show_run.write_texts.Goals as goal

pub returns-in_err-write_asked_report : goal.returns-in_err-write_asked_report
returns-in_err-write_asked_report g c =
    let p = err_from_is_err_and c.from_residual.result c.from_residual.ensures.1 in
    let text = asked_texts c.args.options.now c.args.rows.now c.args.finished.now c.args.entries.now in
    let report = asked_report c.args.options.now c.args.rows.now c.args.finished.now in
    let journal = asked_journal c.args.options.now c.args.entries.now in
    rw (p.1, p.2) (TextSoFar-stops (Unit {0}) (Unit {0}) _ _ _ _ _ _ text report journal c.in_err-write_asked_report.field-0.0 (TextSoFar-first _ _ text) c.in_err-write_asked_report.ensures)

pub returns : goal.returns
returns g c =
    let text = asked_texts c.args.options.now c.args.rows.now c.args.finished.now c.args.entries.now in
    let report = asked_report c.args.options.now c.args.rows.now c.args.finished.now in
    let journal = asked_journal c.args.options.now c.args.entries.now in
    TextSoFar-last _ _ _ _ _ _ _ text journal c.write_asked_journal.result
    (TextSoFar-next _ _ _ _ _ _ text report journal c.in_ok-write_asked_report.field-0 (TextSoFar-first _ _ text) c.in_ok-write_asked_report.ensures)
    c.write_asked_journal.ensures
