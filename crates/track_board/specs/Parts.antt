-- How the fields of a board stand for the parts of a core
use Rattle.std.specs.Prelude.{◌≡◌, ℕ, Bool, true, false, List, [], ◌∷◌, ◌++◌, map, Option, Some, None, option_map}
use Rattle.speculation.specs.Run.{Mark, marks_upto}
use Rattle.speculation.specs.Core.{Track as CoreTrack, Part, Open as CoreOpen, Closed as CoreClosed, Between as CoreBetween, Region as CoreRegion}
use Rattle.speculation.specs.declared.tracks.OpenLoan.{OpenLoan}
use Rattle.guest_model.specs.MachineState.{MachineState}
use Rattle.seniority_queue.specs.Listing.{Listing, LiveNode, get}
use Rattle.seniority_queue.specs.declared.key.Key.{Key}
use Rattle.track_state.specs.Kept.{flat_state, KeepsStart}
use Rattle.track_state.specs.Views.{view_of, core_track}
use Rattle.track_state.specs.Runs.{RunsOver}
use Rattle.track_state.specs.declared.track.Track.{Track}
use Rattle.track_board.specs.declared.slot.Slot.{Slot}
use Rattle.track_board.specs.declared.slot.Slot.TheVariants.{Home, Away}
use Rattle.track_board.specs.declared.region.FastVersion.{FastVersion}
use Rattle.track_board.specs.declared.region.FastVersion.TheVariants.{Open, Closed}
use Rattle.track_board.specs.declared.region.Between.{Between}
use Rattle.track_board.specs.declared.region.Region.{Region}
use Rattle.track_board.specs.declared.ready.Ready.{Ready}
use Rattle.track_board.specs.declared.loan.Lent.{Lent}

-- ---- tracks

-- a track at home (`home`) stands for the core's track: it runs over the input, within the budget
pub record TrackStands (input : List ℕ) (limit : ℕ) (x : Track) (home : Bool) (t : CoreTrack MachineState) : Type 0 where
  pub here : home ≡ true
  pub is : core_track (view_of x) ≡ t
  pub runs : RunsOver input (view_of x)
  pub budget : (view_of x).budget ≡ limit

-- of a track that is out, its count is kept
pub record AwayStands (own : ℕ) (home : Bool) (t : CoreTrack MachineState) : Type 0 where
  pub away : home ≡ false
  pub count : own ≡ t.own

abbrev pub SlotStands : List ℕ → ℕ → Slot → Bool → CoreTrack MachineState → Type 0
SlotStands input limit (Home x) home t = TrackStands input limit x home t
SlotStands input limit (Away own) home t = AwayStands own home t

-- how many instructions a track that is out had taken when it went
abbrev pub away_own : Slot → ℕ
away_own (Home x) = 0
away_own (Away own) = own

-- ---- regions

abbrev pub core_fast : FastVersion → Part MachineState
core_fast Open = CoreOpen
core_fast (Closed steps end) = CoreClosed steps (flat_state end.value)

-- the state in which the region was closed can be compared with one of the original: both keep the region's start
abbrev pub FastKeeps : MachineState → FastVersion → Type 0
FastKeeps s Open = Unit {0}
FastKeeps s (Closed steps end) = KeepsStart s end.value

abbrev pub core_between : Between → CoreBetween
core_between g = record { steps = g.steps; pieces = g.held }

pub record RegionStands (input : List ℕ) (limit : ℕ) (home : Bool) (x : Region) (r : CoreRegion MachineState) : Type 0 where
  pub number : x.number ≡ r.number
  pub normal : SlotStands input limit x.normal home r.normal
  pub fast : core_fast x.fast ≡ r.part
  pub keeps : FastKeeps r.start x.fast
  pub segment : option_map core_between x.segment ≡ r.segment

-- the same of all regions, oldest first; `home` says of each number whether that region's original is at home
abbrev pub RegionsStand : List ℕ → ℕ → (ℕ → Bool) → List (LiveNode Region) → List (CoreRegion MachineState) → Type 0
RegionsStand input limit home [] [] = Unit {0}
RegionsStand input limit home (x ∷ xs) (r ∷ rs) = RegionStands input limit (home r.number) x.value r × RegionsStand input limit home xs rs
RegionsStand input limit home _ _ = ⊥

-- ---- verified output

-- the verified bytes of tracks that are gone
abbrev pub ready_marks : List Ready → List Mark
ready_marks [] = []
ready_marks (x ∷ xs) = marks_upto x.limit x.held ++ ready_marks xs

-- ---- loans

abbrev pub core_loan : Lent → OpenLoan
core_loan l = record { seat = l.seat; name = l.name; dropped = l.dropped }

abbrev pub core_loans : List Lent → List OpenLoan
core_loans ls = map core_loan ls

-- the key finds the region of this number
pub record KeyFinds (q : Listing Region) (k : Option Key) (number : ℕ) : Type 0 where
  pub key : Key
  pub given : k ≡ Some key
  pub region : Region
  pub found : get q key ≡ Some region
  pub is : region.number ≡ number

-- an original's loan that was not dropped has the key of its region
abbrev pub LoanFinds : Listing Region → Lent → Type 0
LoanFinds q l = l.dropped ≡ None → l.name.normal ≡ true → KeyFinds q l.key l.name.region
