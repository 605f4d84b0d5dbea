use Rattle.std.proofs.Common.{length}
use Rattle.held_output.proofs.OnChunks.{IsShortened}
use Rattle.held_output.specs.Chunks.{chunk_marks}
use Rattle.held_output.proofs.join.shorten.Given as goal

abbrev pub invariant-loop-left : goal.invariant-loop-left
invariant-loop-left l = IsShortened (chunk_marks l.fn.chunks.items) l.count l.left l.chunks.items

abbrev pub decreases-loop-left : goal.decreases-loop-left
decreases-loop-left l = length l.chunks.items
