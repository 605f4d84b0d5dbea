use Rattle.std.proofs.Common.{drop}
use Rattle.fasttrack_program.specs.Reports.{rows_text}
use Rattle.sink_text.proofs.OnTexts.{TextSoFar}
use Rattle.fasttrack_program.proofs.report.write_rows.Given as goal

abbrev pub invariant-loop-row : goal.invariant-loop-row
invariant-loop-row g l = TextSoFar (g.O.Sink.contents l.fn.out) (g.O.Sink.contents l.out) (g.O.Sink.faults l.fn.out) (g.O.Sink.faults l.out) (rows_text l.rows) (rows_text (drop l.row-index l.rows))
