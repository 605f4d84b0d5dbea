use Rattle.std.proofs.Common.{◌≡◌, take}
use Rattle.speculation.specs.Core.{held_size}
use Rattle.held_output.proofs.held.total.Given as goal

abbrev pub invariant-loop-piece : goal.invariant-loop-piece
invariant-loop-piece l = l.size ≡ held_size (take l.piece-index l.pieces)
