use Rattle.std.proofs.Common.{◌≡◌, ◌-◌, ◌^◌, length, min, take}
use Rattle.track_board.specs.Parts.{ready_marks}
use Rattle.track_board.proofs.ready.size_of.Given as goal

abbrev pub invariant-loop-part : goal.invariant-loop-part
invariant-loop-part l = l.size ≡ min (length (ready_marks (take l.part-index l.ready))) (2 ^ 64 - 1)
