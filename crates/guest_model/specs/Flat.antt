-- The bytes of a flat memory
use Rattle.guest_model.specs.ByteMap.{ByteMap}
use Rattle.guest_model.specs.AreaMap.{areas_bytes}
use Rattle.guest_model.specs.declared.flat.FlatMemory.{FlatMemory}

abbrev pub flat_bytes : FlatMemory → ByteMap
flat_bytes m = areas_bytes m.areas.items
