use Rattle.state_listing.proofs.OnFiles.{none_uncut, none_cut}
use Rattle.state_listing.proofs.counts.read_line.Goals as goal

pub returns-in_err-line-clause-none : goal.returns-in_err-line-clause-none
returns-in_err-line-clause-none c = rw c.from_residual.ensures (none_uncut c.args.text.now c.in_err-line.ensures.none)

pub returns-in_err-request-clause-none : goal.returns-in_err-request-clause-none
returns-in_err-request-clause-none c =
    rw c.from_residual-in_err-request.ensures
    (none_cut c.args.text.now c.in_ok-line.line.now c.in_ok-line.rest.now c.in_ok-line.ensures.parts c.in_ok-line.ensures.first c.in_err-request.ensures)
