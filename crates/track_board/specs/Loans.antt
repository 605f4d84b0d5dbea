-- What goes out and what comes home
use Rattle.std.specs.Prelude.{◌≡◌, ℕ, ◌≤◌, Bool, true, false, not, ◌||◌, Option, Some, None}
use Rattle.speculation.specs.declared.tracks.Name.{Name}
use Rattle.speculation.specs.declared.tracks.OpenLoan.{OpenLoan}
use Rattle.speculation.specs.declared.history.Entry.{Entry}
use Rattle.speculation.specs.declared.history.Entry.TheVariants as E
use Rattle.speculation.specs.Core.{Track as CoreTrack, over, find_loan, find_track}
use Rattle.speculation.specs.Events.{run_on, slice, lendable}
use Rattle.speculation.specs.Serial.{first_lendable, slice_of}
use Rattle.guest_model.specs.MachineState.{MachineState}
use Rattle.track_state.specs.Views.{view_of}
use Rattle.track_state.specs.declared.track.Track.{Track as CodeTrack}
use Rattle.track_board.specs.declared.loan.Loan.{Loan}
use Rattle.track_board.specs.declared.loan.Back.{Back}
use Rattle.track_board.specs.declared.loan.Back.TheVariants.{Taken, Dropped, Over}
use Rattle.track_board.specs.Value.{Posted, machine_of, core_of, posted}
use Rattle.track_board.specs.Parts.{TrackStands}

-- ---- lend

-- the track of this name may be lent
abbrev pub may_lend : Posted → Name → Bool
may_lend v n = lendable (machine_of v) v.settings (core_of v) n

-- the oldest lendable track's name
abbrev pub oldest_lendable : Posted → Option Name
oldest_lendable v = first_lendable (machine_of v) v.settings (core_of v) (core_of v).regions

-- the name is lent
abbrev pub IsLoan : Posted → Name → Type 0
IsLoan v n = (l : OpenLoan) × (find_loan n (core_of v).loans ≡ Some l)

-- the name is lent to this seat
abbrev pub IsLoanOf : Posted → ℕ → Name → Type 0
IsLoanOf v seat n = (l : OpenLoan) × (find_loan n (core_of v).loans ≡ Some l) × (l.seat ≡ seat)

-- The loan is the live track of its name, as the core has it, over the board's input; it is entered to the seat, and the
-- track stays live.
pub record IsLent (v w : Posted) (seat : ℕ) (loan : Loan) : Type 0 where
  pub can : may_lend v loan.name ≡ true
  pub entry : w ≡ posted v (E.Lend seat loan.name)
  pub live : CoreTrack MachineState
  pub found : find_track (core_of v) loan.name ≡ Some live
  pub track : TrackStands v.input v.settings.budget loan.track true live
  pub input : loan.input ≡ v.input
  pub own : (view_of loan.track).own ≤ v.settings.budget
  pub loan_of : IsLoanOf w seat loan.name
  pub still : find_track (core_of w) loan.name ≡ Some live

-- the oldest lendable track goes out, or there is none
abbrev pub LendIs : Posted → Posted → ℕ → Option Loan → Type 0
LendIs v w seat None = (w ≡ v) × (oldest_lendable v ≡ None)
LendIs v w seat (Some loan) = IsLent v w seat loan × (oldest_lendable v ≡ Some loan.name)

-- the track of this name goes out, or it may not be lent
abbrev pub LendNamedIs : Posted → Posted → ℕ → Name → Option Loan → Type 0
LendNamedIs v w seat n None = (w ≡ v) × (may_lend v n ≡ false)
LendNamedIs v w seat n (Some loan) = IsLent v w seat loan × (loan.name ≡ n)

-- ---- back

-- the name is lent, and no discard has dropped its track
abbrev pub IsLiveLoan : Posted → Name → Type 0
IsLiveLoan v n = (l : OpenLoan) × (find_loan n (core_of v).loans ≡ Some l) × (l.dropped ≡ None)

-- Of a loan that no discard dropped: this is the live track of its name, run on by one slice.
abbrev pub HasRunOn : Posted → Name → CodeTrack → Type 0
HasRunOn v n x =
    (l : OpenLoan) → find_loan n (core_of v).loans ≡ Some l → l.dropped ≡ None →
    (t : CoreTrack MachineState) → find_track (core_of v) n ≡ Some t →
    TrackStands v.input v.settings.budget x true (run_on (machine_of v) t (slice (machine_of v) v.settings t))

abbrev pub HasRun : Posted → Loan → Type 0
HasRun v loan = HasRunOn v loan.name loan.track

-- the track took its place again, after one slice
abbrev pub IsTaken : Posted → Posted → Name → Type 0
IsTaken v w n = w ≡ posted v (E.Back n (slice_of (machine_of v) v.settings (find_track (core_of v) n)))

-- by the row that dropped the loan, and whether the core is over
abbrev pub back_by : Option ℕ → Bool → Back
back_by (Some row) over = Dropped row
back_by None true = Over
back_by None false = Taken

abbrev pub back_entry : Posted → Name → Back → Entry
back_entry v n Taken = E.Back n (slice_of (machine_of v) v.settings (find_track (core_of v) n))
back_entry v n (Dropped row) = E.Gone n
back_entry v n Over = E.Gone n

-- the loan of this name is over: its track took its place again, or is gone
pub record IsReturned (v w : Posted) (n : Name) (result : Back) : Type 0 where
  pub loan : OpenLoan
  pub found : find_loan n (core_of v).loans ≡ Some loan
  pub answer : result ≡ back_by loan.dropped (over (core_of v))
  pub entry : w ≡ posted v (back_entry v n result)

-- a discard has dropped the track that was lent under this name
abbrev pub WasDropped : Posted → Name → Type 0
WasDropped v n = (l : OpenLoan) × (find_loan n (core_of v).loans ≡ Some l) × ((row : ℕ) × (l.dropped ≡ Some row))

-- whether the run is halted after a loan ended whose track is gone, by the row that dropped it, and by whether the run had a
-- finish or was halted
abbrev pub halted_by : Option ℕ → Bool → Bool → Bool
halted_by (Some row) finished halted = halted
halted_by None finished halted = not finished || halted
