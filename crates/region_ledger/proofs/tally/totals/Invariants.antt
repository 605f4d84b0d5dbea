use Rattle.region_ledger.proofs.OnTotals.{CountsFirst}
use Rattle.region_ledger.proofs.tally.totals.Given as goal

abbrev pub invariant-loop-row : goal.invariant-loop-row
invariant-loop-row l = CountsFirst l.rows l.alone_count l.row-index l.totals
