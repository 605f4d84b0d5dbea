use Rattle.std.proofs.Common.{sym}
use Rattle.track_board.proofs.Finds.{oldest-compare, over-seen_none, seen-finish, seen-cross, seen-judge, seen-fork, seen-none}
use Rattle.track_board.proofs.board.Board.find_due.Goals as goal

pub returns-then-over-clause-due : goal.returns-then-over-clause-due
returns-then-over-clause-due c = over-seen_none c.args.self.now (sym c.if-over.ensures.result)

pub returns-in-Some-clause-due : goal.returns-in-Some-clause-due
returns-in-Some-clause-due c =
    seen-finish c.self.inside c.self.invariant.0 c.args.self.now c.self.invariant.1 c.self.view_is (sym c.if-over.ensures.result) c.front-front.result.now c.front-front.ensures c.in-Some.finished c.in-Some.ensures

pub returns-then-stands_at_boundary-clause-due : goal.returns-then-stands_at_boundary-clause-due
returns-then-stands_at_boundary-clause-due c =
    seen-cross c.self.inside c.self.invariant.0 c.args.self.now c.self.invariant.1 c.self.view_is (sym c.if-over.ensures.result) c.front-front.result.now c.front-front.ensures c.in_default.ensures
    c.stands_at_boundary.result c.stands_at_boundary.ensures c.if-stands_at_boundary.true

pub find_judgement-requires : goal.find_judgement-requires
find_judgement-requires c = oldest-compare c.self.inside c.self.invariant.0 c.self.invariant.1

pub returns-in-Some-find_judgement-clause-due : goal.returns-in-Some-find_judgement-clause-due
returns-in-Some-find_judgement-clause-due c =
    seen-judge c.self.inside c.self.invariant.0 c.args.self.now c.self.invariant.1 c.self.view_is (sym c.if-over.ensures.result) c.front-front.result.now c.front-front.ensures c.in_default.ensures
    c.stands_at_boundary.result c.stands_at_boundary.ensures c.if-stands_at_boundary.false c.in-Some-find_judgement.judgement c.in-Some-find_judgement.ensures

pub returns-then-may_fork-clause-due : goal.returns-then-may_fork-clause-due
returns-then-may_fork-clause-due c =
    seen-fork c.self.inside c.self.invariant.0 c.args.self.now c.self.invariant.1 c.self.view_is (sym c.if-over.ensures.result) c.front-front.result.now c.front-front.ensures c.in_default.ensures
    c.stands_at_boundary.result c.stands_at_boundary.ensures c.if-stands_at_boundary.false c.in_default-find_judgement.ensures c.len.result c.len.ensures.count c.deref.result.now c.deref.ensures.value
    c.may_fork.result c.may_fork.ensures c.if-may_fork.true

pub returns-clause-due : goal.returns-clause-due
returns-clause-due c =
    seen-none c.self.inside c.self.invariant.0 c.args.self.now c.self.invariant.1 c.self.view_is (sym c.if-over.ensures.result) c.front-front.result.now c.front-front.ensures c.in_default.ensures
    c.stands_at_boundary.result c.stands_at_boundary.ensures c.if-stands_at_boundary.false c.in_default-find_judgement.ensures c.len.result c.len.ensures.count c.deref.result.now c.deref.ensures.value
    c.may_fork.result c.may_fork.ensures c.if-may_fork.false
