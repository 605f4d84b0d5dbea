use Rattle.std.proofs.Common.{drop}
use Rattle.journal_check.specs.Journals.{journal_text}
use Rattle.sink_text.proofs.OnTexts.{TextSoFar}
use Rattle.fasttrack_program.proofs.journal.write_journal.Given as goal

abbrev pub invariant-loop-entry : goal.invariant-loop-entry
invariant-loop-entry g l = TextSoFar (g.N.Sink.contents l.fn.notes) (g.N.Sink.contents l.notes) (g.N.Sink.faults l.fn.notes) (g.N.Sink.faults l.notes) (journal_text l.entries) (journal_text (drop l.entry-index l.entries))
