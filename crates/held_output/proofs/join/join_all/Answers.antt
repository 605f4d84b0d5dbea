use Rattle.std.proofs.Common.{ℕ, ◌+◌, List, ◌++◌, length, take, ap, ◌∙◌, sym, append_assoc, arith}
use Rattle.speculation.specs.Run.{Mark, Piece, marked, marks}
use Rattle.held_output.specs.Chunks.{chunk_marks}
use Rattle.held_output.proofs.OnHeld.{held_size-more, held_size-take, marks-more}
use Rattle.held_output.proofs.join.join_all.Goals as goal

pub overflow_add-count : goal.overflow_add-count
overflow_add-count c =
    let more = held_size-more c.args.pieces.now c.loop-piece.piece-index c.piece-item.result c.loop-piece-test.true in
    omega (arith, more, held_size-take (c.loop-piece.piece-index + 1) c.args.pieces.now, ap (λ p. length p.bytes) (c.piece.view_is ∙ c.piece-item.is))

pub loop-piece-preserved : goal.loop-piece-preserved
loop-piece-preserved c =
    let more = held_size-more c.args.pieces.now c.loop-piece.piece-index c.piece-item.result c.loop-piece-test.true in
    let next = marks-more c.args.pieces.now c.loop-piece.piece-index c.piece-item.result c.loop-piece-test.true c.piece-item.is in
    record {
      sound = c.in_default.ensures.sound;
      count = omega (arith, more, ap (λ p. length p.bytes) (c.piece.view_is ∙ c.piece-item.is));
      so_far =
          c.in_default.ensures.ok ∙ ap (λ (ms : List Mark). ms ++ marked c.piece.inside.stream c.as_slice.result.now) c.loop-piece.invariant.so_far
          ∙ append_assoc (chunk_marks c.args.chunks.now.items) (marks (take c.loop-piece.piece-index c.args.pieces.now)) (marked c.piece.inside.stream c.as_slice.result.now)
          ∙ ap (λ (ms : List Mark). chunk_marks c.args.chunks.now.items ++ ms)
          (ap (λ (bs : List ℕ). marks (take c.loop-piece.piece-index c.args.pieces.now) ++ marked c.piece.inside.stream bs) c.as_slice.ensures
          ∙ ap (λ (p : Piece). marks (take c.loop-piece.piece-index c.args.pieces.now) ++ marked p.stream p.bytes) c.piece.view_is ∙ sym next);
    }
