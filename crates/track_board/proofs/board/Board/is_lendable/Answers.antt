use Rattle.std.proofs.Common.{sym, ◌∙◌}
use Rattle.track_board.proofs.LendTests.{over-unlent, named-lends}
use Rattle.track_board.proofs.board.Board.is_lendable.Goals as goal

pub returns-then-over-clause-lendable : goal.returns-then-over-clause-lendable
returns-then-over-clause-lendable c = sym (over-unlent c.args.self.now c.args.name (sym c.if-over.ensures.result))

pub returns-clause-lendable : goal.returns-clause-lendable
returns-clause-lendable c =
    c.named_may_go.ensures
    ∙ named-lends c.self.inside c.self.invariant.0 c.args.self.now c.self.invariant.1 c.self.view_is c.args.name (sym c.if-over.ensures.result) c.if-name-self.false
