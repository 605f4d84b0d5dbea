-- How the fields change where the lead closes the youngest region
use Rattle.std.specs.Prelude.{List, [], ◌∷◌}
use Rattle.speculation.specs.declared.tracks.Kind.TheVariants.{Fast}
use Rattle.seniority_queue.specs.Listing.{LiveNode}
use Rattle.track_state.specs.Views.{view_of}
use Rattle.track_state.specs.Transitions.{IsAtBoundary, IsCrossed, IsUnchanged}
use Rattle.track_state.specs.declared.track.transitions.Crossed.{Crossed}
use Rattle.track_board.specs.declared.region.FastVersion.TheVariants.{Closed}
use Rattle.track_board.specs.declared.region.Region.{Region}
use Rattle.track_board.specs.declared.slot.Slot.{Slot}
use Rattle.track_board.specs.declared.slot.Slot.TheVariants.{Home, Away}

-- a fast version is at home that closes its region
abbrev pub LeadCloses : Slot → Type 0
LeadCloses (Home x) = IsAtBoundary Fast (view_of x)
LeadCloses (Away own) = ⊥

-- it goes on as the segment behind the region
abbrev pub LeadCrossed : Slot → Slot → Crossed → Type 0
LeadCrossed (Home x) (Home y) c = IsCrossed x y c
LeadCrossed _ _ c = ⊥

-- a track at home that contracts see as before
abbrev pub SameHome : Slot → Slot → Type 0
SameHome (Home x) (Home y) = IsUnchanged x y
SameHome _ _ = ⊥

-- the region whose fast version closed it
abbrev pub closed_region : Region → Crossed → Region
closed_region r c = record r { fast = Closed c.steps c.end }

-- the youngest region is closed
abbrev pub closed_last : List (LiveNode Region) → Crossed → List (LiveNode Region)
closed_last [] c = []
closed_last (n ∷ []) c = (record n { value = closed_region n.value c }) ∷ []
closed_last (n ∷ (m ∷ ns)) c = n ∷ closed_last (m ∷ ns) c
