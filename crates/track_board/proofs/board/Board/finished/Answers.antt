use Rattle.std.proofs.Common.{sym, ap, ◌∙◌}
use Rattle.track_board.specs.Value.{GuestCore}
use Rattle.track_board.proofs.Foundation.{core-seen, known-seen}
use Rattle.track_board.proofs.board.Board.finished.Goals as goal

pub returns-clause-result : goal.returns-clause-result
returns-clause-result c =
    let h = c.self.invariant.1 in
    h.fields.finish ∙ ap (λ (k : GuestCore). k.finish) (sym (core-seen c.self.inside c.self.invariant.0 c.args.self.now h c.self.view_is))

pub returns-clause-known : goal.returns-clause-known
returns-clause-known c = known-seen c.self.inside c.self.invariant.0 c.args.self.now c.self.invariant.1 c.self.view_is
