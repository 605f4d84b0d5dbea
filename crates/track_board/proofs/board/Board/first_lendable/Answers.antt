use Rattle.std.proofs.Common.{sym}
use Rattle.track_board.proofs.LendTests.{over-none, oldest-normal, oldest-is_lead, oldest-none}
use Rattle.track_board.proofs.board.Board.first_lendable.Goals as goal

pub returns-then-over-clause-oldest : goal.returns-then-over-clause-oldest
returns-then-over-clause-oldest c = sym (over-none c.args.self.now (sym c.if-over.ensures.result))

pub returns-in-Some-clause-oldest : goal.returns-in-Some-clause-oldest
returns-in-Some-clause-oldest c =
    oldest-normal c.self.inside c.self.invariant.0 c.args.self.now c.self.invariant.1 c.self.view_is c.in-Some.region (sym c.if-over.ensures.result) c.in-Some.ensures

pub returns-then-may_go-clause-oldest : goal.returns-then-may_go-clause-oldest
returns-then-may_go-clause-oldest c =
    oldest-is_lead c.self.inside c.self.invariant.0 c.args.self.now c.self.invariant.1 c.self.view_is c.may_go.result (sym c.if-over.ensures.result) c.in_default.ensures c.may_go.ensures c.if-may_go.true

pub returns-clause-oldest : goal.returns-clause-oldest
returns-clause-oldest c =
    oldest-none c.self.inside c.self.invariant.0 c.args.self.now c.self.invariant.1 c.self.view_is c.may_go.result (sym c.if-over.ensures.result) c.in_default.ensures c.may_go.ensures c.if-may_go.false
