use Rattle.std.proofs.Common.{Option, subst}
use Rattle.track_board.specs.declared.loan.Loan.{Loan}
use Rattle.track_board.specs.Loans.{LendNamedIs}
use Rattle.journal_check.proofs.Following.{lend-refused, lend-follows}
use Rattle.journal_check.proofs.replay.Replay.lend.Goals as goal

pub returns-in_default : goal.returns-in_default
returns-in_default c =
    lend-refused c.args.self.now.board c.args.seat c.args.name
    (subst (λ (o : Option Loan). LendNamedIs c.args.self.now.board c.lend_named.new.self c.args.seat c.args.name o) c.in_default.is c.in_ok-loan.ensures.loan).1

pub returns : goal.returns
returns c =
    lend-follows c.args.self.now c.lend_named.new.self c.requires c.lend_named.ensures.known c.push_reserved.new.self c.args.seat c.args.name c.in-Some.loan c.reserve.new.self.items
    (subst (λ (o : Option Loan). LendNamedIs c.args.self.now.board c.lend_named.new.self c.args.seat c.args.name o) c.in-Some.is c.in_ok-loan.ensures.loan)
    c.reserve.ensures.items c.push_reserved.ensures.items
