-- How the fields change where a track goes out
use Rattle.std.specs.Prelude.{◌≡◌, ℕ, Bool, true, false, List, Option, Some}
use Rattle.seniority_queue.specs.Listing.{Listing, LiveNode, with_value, IsSound}
use Rattle.seniority_queue.specs.declared.key.Key.{Key}
use Rattle.track_state.specs.Views.{view_of}
use Rattle.track_state.specs.declared.track.Track.{Track}
use Rattle.track_board.specs.declared.region.Region.{Region}
use Rattle.track_board.specs.declared.slot.Slot.{Slot}
use Rattle.track_board.specs.declared.slot.Slot.TheVariants.{Home, Away}
use Rattle.track_board.specs.LendTests.{numbered}

-- a track is in this place
abbrev pub IsHome : Slot → Type 0
IsHome s = (x : Track) × (s ≡ Home x)

-- the region of this number has its original at home
abbrev pub HasNormalHome : ℕ → List (LiveNode Region) → Type 0
HasNormalHome number ns = (n : LiveNode Region) × (numbered number ns ≡ Some n) × IsHome n.value.normal

-- The track of a name is at home, by whether it is an original.
abbrev pub IsAtHome : Bool → ℕ → List (LiveNode Region) → Slot → Type 0
IsAtHome true number ns lead = HasNormalHome number ns
IsAtHome false number ns lead = IsHome lead

-- the original of the region of this number is taken out of the region with this key, which keeps its count
pub record IsNormalOut (old new : Listing Region) (number : ℕ) (x : Track) (key : Key) : Type 0 where
  pub sound : IsSound old
  pub node : LiveNode Region
  pub found : numbered number old.nodes ≡ Some node
  pub own_key : key ≡ node.key
  pub was : node.value.normal ≡ Home x
  pub put : new ≡ with_value old key (record node.value { normal = Away (view_of x).own })

-- The track of a name is taken out, by whether it is an original: that has the key of its region.
abbrev pub IsOut : Bool → ℕ → (old new : Listing Region) → (lead lead2 : Slot) → Track → Option Key → Type 0
IsOut true number old new lead lead2 x k = (lead2 ≡ lead) × ((key : Key) × (k ≡ Some key) × IsNormalOut old new number x key)
IsOut false number old new lead lead2 x k = (new ≡ old) × (lead ≡ Home x) × (lead2 ≡ Away (view_of x).own)
