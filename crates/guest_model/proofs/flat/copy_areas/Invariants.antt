use Rattle.std.proofs.Common.{◌≡◌, take}
use Rattle.guest_model.proofs.flat.copy_areas.Given as goal

abbrev pub invariant-loop-area : goal.invariant-loop-area
invariant-loop-area l = l.copies.items ≡ take l.area-index l.areas
