use Rattle.std.proofs.Common.{◌+◌, drop, subst}
use Rattle.std.proofs.lemmas.Result.{err_from_is_err_and}
use Rattle.journal_check.specs.Journals.{journal_text}
use Rattle.sink_text.proofs.OnTexts.{TextSoFar, TextSoFar-next, TextSoFar-stops}
use Rattle.fasttrack_program.proofs.OnTexts.{entries_next}
use Rattle.fasttrack_program.proofs.journal.write_journal.Goals as goal

pub returns-in_err-write_entry : goal.returns-in_err-write_entry
returns-in_err-write_entry g c =
    let p = err_from_is_err_and c.from_residual.result c.from_residual.ensures.1 in
    let so = subst (TextSoFar _ _ _ _ (journal_text c.args.entries.now)) (entries_next c.args.entries.now c.loop-entry.entry-index _ c.loop-entry-test.true) c.loop-entry.invariant in
    rw (p.1, p.2) (TextSoFar-stops (Unit {0}) (Unit {0}) _ _ _ _ _ _ _ _ (journal_text (drop (c.loop-entry.entry-index + 1) c.args.entries.now)) c.in_err-write_entry.field-0.0 so c.in_err-write_entry.ensures)

pub loop-entry-preserved : goal.loop-entry-preserved
loop-entry-preserved g c =
    let so = subst (TextSoFar _ _ _ _ (journal_text c.args.entries.now)) (entries_next c.args.entries.now c.loop-entry.entry-index _ c.loop-entry-test.true) c.loop-entry.invariant in
    TextSoFar-next _ _ _ _ _ _ _ _ (journal_text (drop (c.loop-entry.entry-index + 1) c.args.entries.now)) c.in_ok-write_entry.field-0 so c.in_ok-write_entry.ensures
