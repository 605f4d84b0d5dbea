-- What the front holds of the verified output, and what it keeps of its pieces
use Rattle.std.specs.Prelude.{◌≡◌, ℕ, List, [], ◌∷◌}
use Rattle.speculation.specs.Run.{Mark, marks_upto}
use Rattle.speculation.specs.Events.{left_over}
use Rattle.seniority_queue.specs.Listing.{LiveNode}
use Rattle.track_state.specs.Views.{view_of}
use Rattle.track_board.specs.declared.region.Region.{Region}
use Rattle.track_board.specs.declared.slot.Slot.{Slot}
use Rattle.track_board.specs.declared.slot.Slot.TheVariants.{Home, Away}

-- the bytes of a track at home that it wrote by its first `limit` instructions
abbrev pub slot_marks : ℕ → Slot → List Mark
slot_marks limit (Home x) = marks_upto limit (view_of x).held
slot_marks limit (Away own) = []

-- a track at home holds the other pieces; else nothing changes
abbrev pub IsLeftOver : ℕ → Slot → Slot → Type 0
IsLeftOver limit (Home x) (Home y) = view_of y ≡ record (view_of x) { held = left_over limit (view_of x).held }
IsLeftOver limit (Away m) (Away n) = m ≡ n
IsLeftOver limit _ _ = ⊥

-- the same of the oldest region's original, or of the lead where no region is open
abbrev pub FrontIsLeftOver : ℕ → List (LiveNode Region) → Slot → List (LiveNode Region) → Slot → Type 0
FrontIsLeftOver limit [] lead ns lead2 = (ns ≡ []) × IsLeftOver limit lead lead2
FrontIsLeftOver limit (n ∷ younger) lead ns lead2 = (lead2 ≡ lead) × ((s : Slot) × (ns ≡ (record n { value = record n.value { normal = s } }) ∷ younger) × IsLeftOver limit n.value.normal s)
