use Rattle.job_listing.proofs.OnLists.{first-name, no-name-cut, no-name-uncut}
use Rattle.job_listing.proofs.names.first_name.Goals as goal

pub returns-in_err-line-clause-none : goal.returns-in_err-line-clause-none
returns-in_err-line-clause-none c = rw c.from_residual.ensures (no-name-uncut c.args.list.now c.in_err-line.ensures.none)

pub returns-in_err-name-clause-none : goal.returns-in_err-name-clause-none
returns-in_err-name-clause-none c =
    rw c.from_residual-in_err-name.ensures
    (no-name-cut c.args.list.now c.in_ok-line.line.now c.in_ok-line.behind.now c.in_ok-line.ensures.parts c.in_ok-line.ensures.first c.in_err-name.ensures.none)

pub returns-clause-name : goal.returns-clause-name
returns-clause-name c =
    first-name c.args.list.now c.in_ok-line.line.now c.in_ok-name.name.now c.in_ok-line.behind.now c.in_ok-line.ensures.parts c.in_ok-line.ensures.first
    c.in_ok-name.ensures.name.0 c.in_ok-name.ensures.name.1
