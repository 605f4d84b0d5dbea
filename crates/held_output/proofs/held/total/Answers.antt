use Rattle.std.proofs.Common.{◌+◌, length, ap, ◌∙◌, arith}
use Rattle.held_output.proofs.OnHeld.{held_size-more, held_size-take}
use Rattle.held_output.proofs.held.total.Goals as goal

pub overflow_add-size : goal.overflow_add-size
overflow_add-size c =
    let more = held_size-more c.args.pieces.now c.loop-piece.piece-index c.piece-item.result c.loop-piece-test.true in
    omega (arith, more, held_size-take (c.loop-piece.piece-index + 1) c.args.pieces.now, ap (λ p. length p.bytes) (c.piece.view_is ∙ c.piece-item.is))

pub loop-piece-preserved : goal.loop-piece-preserved
loop-piece-preserved c =
    let more = held_size-more c.args.pieces.now c.loop-piece.piece-index c.piece-item.result c.loop-piece-test.true in
    omega (arith, more, ap (λ p. length p.bytes) (c.piece.view_is ∙ c.piece-item.is))
