-- The tests that find what may be lent, over the fields of a board: what the code looks at
use Rattle.std.specs.Prelude.{ℕ, Bool, true, false, List, [], ◌∷◌, Option, Some, None, option_map, find, if◌then◌else◌, nat_eq, nat_lt}
use Rattle.speculation.specs.declared.tracks.Name.{Name}
use Rattle.speculation.specs.declared.tracks.Kind.TheVariants.{Fast}
use Rattle.speculation.specs.Core.{is_kind, held_size, most_held}
use Rattle.seniority_queue.specs.Listing.{LiveNode}
use Rattle.track_state.specs.Views.{TrackView, view_of, stop_of}
use Rattle.track_state.specs.declared.stop.Stop.{Stop}
use Rattle.track_board.specs.declared.region.Region.{Region}
use Rattle.track_board.specs.declared.slot.Slot.{Slot}
use Rattle.track_board.specs.declared.slot.Slot.TheVariants.{Home, Away}
use Rattle.track_board.specs.DueTests.{is_boundary}

-- ---- regions

-- the youngest region
abbrev pub last_region : List (LiveNode Region) → Option Region
last_region [] = None
last_region (n ∷ []) = Some n.value
last_region (n ∷ (m ∷ ns)) = last_region (m ∷ ns)

-- the region has this number
abbrev pub is_numbered : ℕ → LiveNode Region → Bool
is_numbered number n = nat_eq number n.value.number

-- the region of this number
abbrev pub numbered : ℕ → List (LiveNode Region) → Option (LiveNode Region)
numbered number ns = find (is_numbered number) ns

-- ---- one track

-- by the track's stop, and whether it holds less than it may
abbrev pub runs_by : Option Stop → Bool → Bool
runs_by (Some s) few = false
runs_by None few = few

-- the track has no stop, and holds less than it may
abbrev pub may_run : TrackView → Bool
may_run v = runs_by (stop_of v) (nat_lt (held_size v.held) most_held)

-- so many instructions are fewer than those of this original, or it isn't known to have closed its region
abbrev pub is_below : ℕ → Slot → Bool
is_below own (Home x) = if is_boundary (stop_of (view_of x)) then nat_lt own (view_of x).own else true
is_below own (Away before) = true

-- a fast lead with so many instructions is of use, by the youngest region
abbrev pub is_below_last : ℕ → Option Region → Bool
is_below_last own (Some r) = is_below own r.normal
is_below_last own None = true

abbrev pub is_wanted : TrackView → List (LiveNode Region) → Bool
is_wanted v ns = if is_kind v.kind Fast then is_below_last v.own (last_region ns) else true

-- the track in this place is at home and may go out
abbrev pub may_go : Slot → List (LiveNode Region) → Bool
may_go (Home x) ns = if may_run (view_of x) then is_wanted (view_of x) ns else false
may_go (Away own) ns = false

-- ---- names

-- the region's original is at home and may go out
abbrev pub normal_may_go : List (LiveNode Region) → LiveNode Region → Bool
normal_may_go ns n = may_go n.value.normal ns

abbrev pub found_may_go : Option (LiveNode Region) → List (LiveNode Region) → Bool
found_may_go (Some n) ns = normal_may_go ns n
found_may_go None ns = false

-- the track of this name of the present generation is at home and may go out, by the last region's number
abbrev pub named_may_go : ℕ → Name → List (LiveNode Region) → Slot → Bool
named_may_go last n ns lead = if n.normal then found_may_go (numbered n.region ns) ns else (if nat_eq n.region last then may_go lead ns else false)

-- the number of the oldest region whose original may go out
abbrev pub first_to_go : List (LiveNode Region) → Option ℕ
first_to_go ns = option_map (λ n. n.value.number) (find (normal_may_go ns) ns)
