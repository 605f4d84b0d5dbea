use Rattle.std.proofs.Common.{◌≡◌, take}
use Rattle.track_board.specs.Parts.{ready_marks}
use Rattle.track_board.proofs.ready.copy_of.Given as goal

abbrev pub invariant-loop-part : goal.invariant-loop-part
invariant-loop-part l = l.bytes ≡ ready_marks (take l.part-index l.ready)
