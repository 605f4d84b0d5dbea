-- The tests that find the due event, over the fields of a board: what the code looks at
use Rattle.std.specs.Prelude.{ℕ, ◌+◌, ◌-◌, Bool, true, false, not, List, [], ◌∷◌, Option, Some, None, length, if◌then◌else◌, nat_le}
use Rattle.speculation.specs.declared.tracks.Kind.{Kind}
use Rattle.speculation.specs.declared.tracks.Kind.TheVariants.{Normal, Segment}
use Rattle.speculation.specs.Verdicts.{Judged, Seen, Running, Ended as SeenEnded, Met, judge}
use Rattle.speculation.specs.Core.{is_kind, most_held}
use Rattle.guest_model.specs.MachineState.{MachineState}
use Rattle.guest_model.specs.Difference.{difference}
use Rattle.guest_model.specs.declared.difference.Difference.{Difference}
use Rattle.guest_model.specs.declared.end.End.TheVariants.{Spent}
use Rattle.region_ledger.specs.Ledger.{judged}
use Rattle.region_ledger.specs.declared.finished.Finished.{Finished}
use Rattle.seniority_queue.specs.Listing.{LiveNode}
use Rattle.track_state.specs.Kept.{flat_state}
use Rattle.track_state.specs.Views.{TrackView, view_of, stop_of}
use Rattle.track_state.specs.declared.stop.Stop.{Stop}
use Rattle.track_state.specs.declared.stop.Stop.TheVariants.{Boundary, Ended, Budget}
use Rattle.track_board.specs.declared.due.Judgement.{Judgement}
use Rattle.track_board.specs.declared.ready.Ready.{Ready}
use Rattle.track_board.specs.declared.region.FastVersion.{FastVersion}
use Rattle.track_board.specs.declared.region.FastVersion.TheVariants.{Open, Closed}
use Rattle.track_board.specs.declared.region.Region.{Region}
use Rattle.track_board.specs.declared.slot.Slot.{Slot}
use Rattle.track_board.specs.declared.slot.Slot.TheVariants.{Home, Away}
use Rattle.track_board.specs.Parts.{FastKeeps, ready_marks}

-- ---- regions

abbrev pub first_region : List (LiveNode Region) → Option Region
first_region [] = None
first_region (n ∷ ns) = Some n.value

-- the oldest region's original, or the lead
abbrev pub front_slot : List (LiveNode Region) → Slot → Slot
front_slot [] lead = lead
front_slot (n ∷ ns) lead = n.value.normal

-- ---- boundaries

abbrev pub is_boundary : Option Stop → Bool
is_boundary (Some Boundary) = true
is_boundary (Some (Ended e)) = false
is_boundary (Some Budget) = false
is_boundary None = false

-- a track of this kind is at home and stands at its boundary
abbrev pub slot_at_boundary : Kind → Slot → Bool
slot_at_boundary kind (Home x) = if is_kind (view_of x).kind kind then is_boundary (stop_of (view_of x)) else false
slot_at_boundary kind (Away own) = false

-- ---- finish

abbrev pub spent_at : ℕ → Finished
spent_at budget = record { end = Spent; count = budget }

abbrev pub spent_if : Bool → ℕ → Option Finished
spent_if true budget = Some (spent_at budget)
spent_if false budget = None

-- the track is an original whose count is at most what is left of the budget
abbrev pub may_close : TrackView → ℕ → Bool
may_close v left = if is_kind v.kind Normal then nat_le v.own left else false

-- By the front's stop: `closed`: it is an original within the budget; `within` and `reached`: its own count is at most and
-- at least what is left of the budget.
abbrev pub finish_by_stop : (budget count : ℕ) → Option Stop → (closed within reached : Bool) → Option Finished
finish_by_stop budget count (Some (Ended e)) closed within reached = Some (if within then record { end = e; count = count } else spent_at budget)
finish_by_stop budget count (Some Boundary) closed within reached = if closed then None else spent_if reached budget
finish_by_stop budget count (Some Budget) closed within reached = spent_if reached budget
finish_by_stop budget count None closed within reached = spent_if reached budget

abbrev pub track_finish : (budget base : ℕ) → TrackView → Option Finished
track_finish budget base v = finish_by_stop budget (base + v.own) (stop_of v) (may_close v (budget - base)) (nat_le v.own (budget - base)) (nat_le (budget - base) v.own)

abbrev pub unspent_finish : (budget base : ℕ) → Slot → Option Finished
unspent_finish budget base (Home x) = track_finish budget base (view_of x)
unspent_finish budget base (Away own) = None

abbrev pub slot_finish : (budget base : ℕ) → Slot → Option Finished
slot_finish budget base x = if nat_le budget base then Some (spent_at budget) else unspent_finish budget base x

-- ---- judgement

-- what is seen of a fast version at home, by its stop
abbrev pub seen_by_stop : ℕ → Option Stop → Seen Difference
seen_by_stop own (Some (Ended e)) = SeenEnded own
seen_by_stop own (Some Boundary) = Running own
seen_by_stop own (Some Budget) = Running own
seen_by_stop own None = Running own

abbrev pub seen_slot : Slot → Seen Difference
seen_slot (Home x) = seen_by_stop (view_of x).own (stop_of (view_of x))
seen_slot (Away own) = Running own

-- s is the original's state
abbrev pub seen_fast : FastVersion → MachineState → Slot → Seen Difference
seen_fast Open s lead = seen_slot lead
seen_fast (Closed steps end) s lead = Met steps (difference s (flat_state end.value))

abbrev pub judged_track : TrackView → FastVersion → Slot → Option (Judged Difference)
judged_track v fast lead = if is_boundary (stop_of v) then judge v.own (seen_fast fast v.state lead) else None

abbrev pub judged_slot : Slot → FastVersion → Slot → Option (Judged Difference)
judged_slot (Home x) fast lead = judged_track (view_of x) fast lead
judged_slot (Away own) fast lead = None

abbrev pub judged_first : List (LiveNode Region) → Slot → Option (Judged Difference)
judged_first [] lead = None
judged_first (n ∷ ns) lead = judged_slot n.value.normal n.value.fast lead

abbrev pub judged_of : Judgement → Judged Difference
judged_of j = judged (j.verdict, j.fast)

-- the state of an original at home can be compared with the one in which the fast version closed the region
abbrev pub CanCompare : Slot → FastVersion → Type 0
CanCompare (Home x) fast = FastKeeps (view_of x).start fast
CanCompare (Away own) fast = Unit {0}

abbrev pub FirstCanCompare : List (LiveNode Region) → Type 0
FirstCanCompare [] = Unit {0}
FirstCanCompare (n ∷ ns) = CanCompare n.value.normal n.value.fast

-- ---- fork

-- by the lead, whether one more region may open, and the ready output
abbrev pub may_fork : Slot → Bool → List Ready → Bool
may_fork lead room ready = if slot_at_boundary Segment lead then (if room then not (nat_le most_held (length (ready_marks ready))) else false) else false
