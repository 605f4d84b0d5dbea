use Rattle.std.proofs.Common.{◌≡◌, ℕ, ◌/◌, ◌<◌, ◌≤◌, length, take}
use Rattle.std.specs.Prelude.{slice_index_or}
use Rattle.guest_model.specs.AreaMap.{areas_bytes}
use Rattle.guest_model.specs.declared.areas.Area.{Area}
use Rattle.paged_image.specs.Builder.{built}
use Rattle.paged_image.proofs.image.PagedImage.from_areas.Given as goal

abbrev pub invariant-loop-area : goal.invariant-loop-area
invariant-loop-area l =
    (built l.builder ≡ areas_bytes (take l.area-index l.areas))
    × ((k : ℕ) (d : Area) → l.area-index ≤ k → k < length l.areas → length l.builder.entries.items ≤ (slice_index_or l.areas k d).base / 4096)
