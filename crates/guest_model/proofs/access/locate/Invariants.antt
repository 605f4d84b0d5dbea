use Rattle.std.proofs.Common.{ℕ, ◌<◌, get_or}
use Rattle.guest_model.specs.Place.{LacksRange}
use Rattle.guest_model.specs.declared.areas.Area.{Area}
use Rattle.guest_model.proofs.access.locate.Given as goal

abbrev pub invariant-loop-index : goal.invariant-loop-index
invariant-loop-index l = (k : ℕ) (d : Area) → k < l.index → LacksRange (get_or l.areas k d) l.a l.n
