use Rattle.std.proofs.Common.{◌++◌, [], sym, subst, append-nil}
use Rattle.std.proofs.lemmas.Result.{err_from_is_err_and}
use Rattle.track_state.specs.Views.{view_of}
use Rattle.track_state.specs.declared.track.Track.{Track}
use Rattle.report_text.specs.Reports.{row_line}
use Rattle.sink_text.proofs.OnTexts.{TextSoFar, TextSoFar-first, TextSoFar-next, TextSoFar-stops, TextSoFar-all}
use Rattle.region_account.specs.Accounts.{account_lines}
use Rattle.region_account.proofs.OnExplanation.{part-written}
use Rattle.region_account.proofs.explanation.write_region.Goals as goal

pub returns-in_err-write_made-clause-text : goal.returns-in_err-write_made-clause-text
returns-in_err-write_made-clause-text g c =
    let p = err_from_is_err_and c.from_residual.result c.from_residual.ensures.1 in
    let o = view_of c.args.region.original in
    let row = row_line c.args.region.row in
    let account = account_lines c.args.input.now o.start o.own c.args.region.row.verdict in
    rw (p.1, p.2) (TextSoFar-stops (Unit {0}) Track _ _ _ _ _ _ (row ++ account) row account c.in_err-write_made.field-0.0 (TextSoFar-first _ _ (row ++ account)) (c.in_err-write_made.ensures row c.row_text.ensures))

pub returns-in_err-write_made-2-clause-text : goal.returns-in_err-write_made-2-clause-text
returns-in_err-write_made-2-clause-text g c =
    let p = err_from_is_err_and c.from_residual-in_err-write_made-2.result c.from_residual-in_err-write_made-2.ensures.1 in
    let o = view_of c.args.region.original in
    let row = row_line c.args.region.row in
    let account = account_lines c.args.input.now o.start o.own c.args.region.row.verdict in
    let first = TextSoFar-next _ _ _ _ _ _ (row ++ account) row account c.in_ok-write_made.field-0 (TextSoFar-first _ _ (row ++ account)) (c.in_ok-write_made.ensures row c.row_text.ensures) in
    rw (p.1, p.2) (TextSoFar-stops (Unit {0}) Track _ _ _ _ _ _ (row ++ account) account [] c.in_err-write_made-2.field-0.0
    (subst (TextSoFar _ _ _ _ (row ++ account)) (sym (append-nil account)) first) (c.in_err-write_made-2.ensures account c.account_text.ensures.text))

pub returns-in-Ok-clause-text : goal.returns-in-Ok-clause-text
returns-in-Ok-clause-text g c =
    let o = view_of c.args.region.original in
    let row = row_line c.args.region.row in
    let account = account_lines c.args.input.now o.start o.own c.args.region.row.verdict in
    let first = TextSoFar-next _ _ _ _ _ _ (row ++ account) row account c.in_ok-write_made.field-0 (TextSoFar-first _ _ (row ++ account)) (c.in_ok-write_made.ensures row c.row_text.ensures) in
    TextSoFar-all _ _ _ _ (row ++ account) c.in-Ok.track
    (TextSoFar-next _ _ _ _ _ _ (row ++ account) account [] c.in_ok-write_made-2.field-0
    (subst (TextSoFar _ _ _ _ (row ++ account)) (sym (append-nil account)) first) (c.in_ok-write_made-2.ensures account c.account_text.ensures.text))

pub returns-in-Err-clause-text : goal.returns-in-Err-clause-text
returns-in-Err-clause-text g c =
    let o = view_of c.args.region.original in
    let row = row_line c.args.region.row in
    let account = account_lines c.args.input.now o.start o.own c.args.region.row.verdict in
    let first = TextSoFar-next _ _ _ _ _ _ (row ++ account) row account c.in_ok-write_made.field-0 (TextSoFar-first _ _ (row ++ account)) (c.in_ok-write_made.ensures row c.row_text.ensures) in
    part-written _ _ _ _ _ _
    (TextSoFar-next _ _ _ _ _ _ (row ++ account) account [] c.in_ok-write_made-2.field-0
    (subst (TextSoFar _ _ _ _ (row ++ account)) (sym (append-nil account)) first) (c.in_ok-write_made-2.ensures account c.account_text.ensures.text))
