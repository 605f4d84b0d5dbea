use Rattle.journal_check.proofs.OnLines.{none-uncut, none-cut}
use Rattle.journal_check.proofs.text.read_line.Goals as goal

pub returns-in_err-line-clause-none : goal.returns-in_err-line-clause-none
returns-in_err-line-clause-none c = rw c.from_residual.ensures (none-uncut c.args.text.now c.in_err-line.ensures.none)

pub returns-in_err-entry-clause-none : goal.returns-in_err-entry-clause-none
returns-in_err-entry-clause-none c =
    rw c.from_residual-in_err-entry.ensures
    (none-cut c.args.text.now c.in_ok-line.line.now c.in_ok-line.rest.now c.in_ok-line.ensures.parts c.in_ok-line.ensures.first c.in_err-entry.ensures.none)
