use Rattle.std.proofs.Common.{Option, subst}
use Rattle.track_board.specs.declared.loan.Loan.{Loan}
use Rattle.track_board.specs.Loans.{LendIs}
use Rattle.track_board.proofs.Seats.{lent-home}
use Rattle.worker_gate_tests.proofs.replay.lend_and_run.Goals as goal

pub returns-clause-home : goal.returns-clause-home
returns-clause-home c = lent-home c.args.board.now c.lend.new.self c.args.seat c.in-Some.loan c.run.new.self c.in_ok-run.field-0
    (subst (λ (o : Option Loan). LendIs c.args.board.now c.lend.new.self c.args.seat o) c.in-Some.is c.in_ok-lent.ensures.loan)
    c.run.ensures.name c.in_ok-run.ensures.ran.0 c.in_ok-run.ensures.ran.1
