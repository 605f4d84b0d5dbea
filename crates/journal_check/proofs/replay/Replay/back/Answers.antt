use Rattle.std.proofs.Common.{◌∙◌, sym}
use Rattle.journal_check.proofs.Following.{back-refused, may-return, loan-named, taken-as_lent, count-refused, ran-lent, ran-home, back-is, back-follows}
use Rattle.journal_check.proofs.replay.Replay.back.Goals as goal

pub returns-then-not-may_return : goal.returns-then-not-may_return
returns-then-not-may_return c = back-refused c.args.self.now.board c.args.name c.args.count (sym c.may_return.ensures ∙ c.if-not-may_return.true)

pub take_out-loan-requires : goal.take_out-loan-requires
take_out-loan-requires c =
    let may = may-return c.args.self.now.board c.args.name (sym c.may_return.ensures ∙ c.if-not-may_return.false) in
    loan-named c.args.self.now.board c.args.self.now.out.items c.args.name may.open_loan c.requires.out may.found

pub run-requires : goal.run-requires
run-requires c = (taken-as_lent c.args.self.now.board c.args.self.now.out.items c.take_out-loan.new.out.items c.args.name c.take_out-loan.result c.requires.out c.take_out-loan.ensures).runs

pub returns-then-branch-count : goal.returns-then-branch-count
returns-then-branch-count c =
    let v = c.args.self.now.board in
    let loan = c.take_out-loan.result in
    count-refused v c.args.name loan c.requires.known (may-return v c.args.name (sym c.may_return.ensures ∙ c.if-not-may_return.false))
    (taken-as_lent v c.args.self.now.out.items c.take_out-loan.new.out.items c.args.name loan c.requires.out c.take_out-loan.ensures) c.take_out-loan.ensures.name
    c.run.new.self c.in_ok-run.field-0 c.run.ensures.name c.in_ok-run.ensures.ran.0 c.in_ok-run.ensures.ran.1 c.args.count c.if-branch-count.true

pub back-requires-clause-lent : goal.back-requires-clause-lent
back-requires-clause-lent c =
    let v = c.args.self.now.board in
    let loan = c.take_out-loan.result in
    ran-lent v c.args.name loan c.requires.known (may-return v c.args.name (sym c.may_return.ensures ∙ c.if-not-may_return.false))
    (taken-as_lent v c.args.self.now.out.items c.take_out-loan.new.out.items c.args.name loan c.requires.out c.take_out-loan.ensures) c.take_out-loan.ensures.name
    c.run.new.self c.in_ok-run.field-0 c.run.ensures.name c.in_ok-run.ensures.ran.0 c.in_ok-run.ensures.ran.1

pub back-requires-clause-ran : goal.back-requires-clause-ran
back-requires-clause-ran c =
    let v = c.args.self.now.board in
    let loan = c.take_out-loan.result in
    ran-home v c.args.name loan c.requires.known (may-return v c.args.name (sym c.may_return.ensures ∙ c.if-not-may_return.false))
    (taken-as_lent v c.args.self.now.out.items c.take_out-loan.new.out.items c.args.name loan c.requires.out c.take_out-loan.ensures) c.take_out-loan.ensures.name
    c.run.new.self c.in_ok-run.field-0 c.run.ensures.name c.in_ok-run.ensures.ran.0 c.in_ok-run.ensures.ran.1

pub returns : goal.returns
returns c =
    let v = c.args.self.now.board in
    let loan = c.take_out-loan.result in
    back-follows c.args.self.now c.back.new.self c.requires c.back.ensures.known c.take_out-loan.new.out c.args.name c.in_ok-run.field-0 c.args.count loan c.take_out-loan.ensures
    (back-is v c.args.name loan c.requires.known (may-return v c.args.name (sym c.may_return.ensures ∙ c.if-not-may_return.false))
    (taken-as_lent v c.args.self.now.out.items c.take_out-loan.new.out.items c.args.name loan c.requires.out c.take_out-loan.ensures) c.take_out-loan.ensures.name
    c.run.new.self c.in_ok-run.field-0 c.run.ensures.name c.in_ok-run.ensures.ran.0 c.in_ok-run.ensures.ran.1 c.back.new.self c.back.result c.back.ensures.returned)
    c.if-branch-count.false
