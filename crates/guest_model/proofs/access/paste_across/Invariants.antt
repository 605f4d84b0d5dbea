use Rattle.std.proofs.Common.{◌≡◌, take}
use Rattle.guest_model.specs.AreaMap.{areas_bytes, IsLayout}
use Rattle.guest_model.specs.ByteMap.{write}
use Rattle.guest_model.proofs.access.paste_across.Given as goal

abbrev pub invariant-loop-k : goal.invariant-loop-k
invariant-loop-k l = record {
  layout : IsLayout l.areas;
  so_far : areas_bytes l.areas ≡ write (areas_bytes l.fn.areas) l.a (take l.k l.from);
}
