use Rattle.std.proofs.Common.{inr, Option, subst}
use Rattle.track_board.specs.declared.loan.Loan.{Loan}
use Rattle.track_board.specs.Loans.{LendIs}
use Rattle.track_board.proofs.Seats.{lent-home}
use Rattle.serial_run.proofs.OnSlices.{slice-home, slice-lost, slice-taken}
use Rattle.serial_run.proofs.serial.run_slice.Goals as goal

pub back-requires-clause-ran : goal.back-requires-clause-ran
back-requires-clause-ran c = (lent-home c.args.board.now c.lend.new.self 0 c.in-Some.loan c.run.new.self c.in-Ok.field-0
    (subst (λ (o : Option Loan). LendIs c.args.board.now c.lend.new.self 0 o) c.in-Some.is c.in_ok-loan.ensures.loan)
    c.in-Ok.ensures.name c.in-Ok.ensures.ran.0 c.in-Ok.ensures.ran.1).ran

pub unreachable-requires-in_default-back : goal.unreachable-requires-in_default-back
unreachable-requires-in_default-back c =
    let lent = subst (λ (o : Option Loan). LendIs c.args.board.now c.lend.new.self 0 o) c.in-Some.is c.in_ok-loan.ensures.loan in
    c.in_default-back.not-Taken (slice-home c.args.board.now c.lend.new.self c.back.new.self c.in-Some.loan c.run.new.self.name c.back.result c.in-Ok.ensures.name c.lend.ensures.known lent.0 c.back.ensures.returned)

pub returns-in-Taken-clause-slice : goal.returns-in-Taken-clause-slice
returns-in-Taken-clause-slice c =
    let lent = subst (λ (o : Option Loan). LendIs c.args.board.now c.lend.new.self 0 o) c.in-Some.is c.in_ok-loan.ensures.loan in
    slice-taken c.args.board.now c.lend.new.self c.back.new.self c.in-Some.loan c.run.new.self.name c.back.result c.in-Ok.ensures.name c.lend.ensures.known lent.0 lent.1 c.back.ensures.returned

pub returns-in-Err-clause-slice : goal.returns-in-Err-clause-slice
returns-in-Err-clause-slice c =
    let lent = subst (λ (o : Option Loan). LendIs c.args.board.now c.lend.new.self 0 o) c.in-Some.is c.in_ok-loan.ensures.loan in
    inr (slice-lost c.args.board.now c.lend.new.self c.give_up.new.self c.in-Some.loan c.run.new.self.name c.in-Err.ensures.name c.lend.ensures.known lent.0 lent.1 c.give_up.ensures.entry c.give_up.ensures.over)
