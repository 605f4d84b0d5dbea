use Rattle.std.proofs.Common.{sym, ◌∙◌}
use Rattle.track_board.proofs.Settling.{acted-some, acted-falls, settling-first, settling-more}
use Rattle.track_board.proofs.board.Board.settle.Goals as goal

pub loop-init : goal.loop-init
loop-init c = settling-first c.self.inside c.self.invariant.0 c.args.self.now c.len-before.result c.self.invariant.1 c.self.view_is c.len-before.ensures

pub loop-smaller : goal.loop-smaller
loop-smaller c =
    let acted = acted-some c.loop.self c.settle_one.new.self c.in_ok-settle_one.field-0 c.in_ok-settle_one.ensures.one (sym c.is_some.ensures ∙ c.if-is_some.true) in
    acted-falls c.loop.self c.settle_one.new.self acted c.loop.invariant.starts c.loop.invariant.known

pub loop-preserved : goal.loop-preserved
loop-preserved c =
    let acted = acted-some c.loop.self c.settle_one.new.self c.in_ok-settle_one.field-0 c.in_ok-settle_one.ensures.one (sym c.is_some.ensures ∙ c.if-is_some.true) in
    settling-more _ c.loop.self c.settle_one.new.self _ c.loop.invariant acted
