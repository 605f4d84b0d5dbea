use Rattle.std.proofs.Common.{◌≡◌, ◌++◌, take}
use Rattle.speculation.specs.Run.{marks}
use Rattle.speculation.specs.Core.{held_size}
use Rattle.held_output.specs.Chunks.{AreChunks, chunk_marks}
use Rattle.held_output.proofs.join.join_all.Given as goal

abbrev pub invariant-loop-piece : goal.invariant-loop-piece
invariant-loop-piece l = record {
  sound : AreChunks l.chunks.items;
  count : l.count ≡ held_size (take l.piece-index l.pieces);
  so_far : chunk_marks l.chunks.items ≡ chunk_marks l.fn.chunks.items ++ marks (take l.piece-index l.pieces);
}
