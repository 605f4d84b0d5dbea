use Rattle.std.proofs.Common.{◌||◌, Bool, sym, ap, ◌∙◌}
use Rattle.track_board.proofs.Foundation.{over-seen, known-seen}
use Rattle.track_board.proofs.board.Board.over.Goals as goal

pub returns-then-is_some-clause-result : goal.returns-then-is_some-clause-result
returns-then-is_some-clause-result c =
    let i = c.self.inside in
    c.if-is_some.true ∙ ap (λ (t : Bool). t || i.halted) (sym c.if-is_some.true ∙ c.is_some.ensures) ∙ sym (over-seen i c.self.invariant.0 c.args.self.now c.self.invariant.1 c.self.view_is)

pub returns-then-is_some-clause-known : goal.returns-then-is_some-clause-known
returns-then-is_some-clause-known c = known-seen c.self.inside c.self.invariant.0 c.args.self.now c.self.invariant.1 c.self.view_is

pub returns-else-is_some-clause-result : goal.returns-else-is_some-clause-result
returns-else-is_some-clause-result c =
    let i = c.self.inside in
    ap (λ (t : Bool). t || i.halted) (sym c.if-is_some.false ∙ c.is_some.ensures) ∙ sym (over-seen i c.self.invariant.0 c.args.self.now c.self.invariant.1 c.self.view_is)

pub returns-else-is_some-clause-known : goal.returns-else-is_some-clause-known
returns-else-is_some-clause-known c = known-seen c.self.inside c.self.invariant.0 c.args.self.now c.self.invariant.1 c.self.view_is
