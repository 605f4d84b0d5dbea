-- What stays of a seat's loan while other seats act
use Rattle.std.specs.Prelude.{◌≡◌, ℕ, suc, true, List, ◌++◌, Option, Some, None, slice_get}
use Rattle.speculation.specs.declared.tracks.Name.{Name}
use Rattle.speculation.specs.declared.tracks.OpenLoan.{OpenLoan}
use Rattle.speculation.specs.declared.history.Entry.{Entry}
use Rattle.speculation.specs.Core.{Track as CoreTrack, find_loan, find_track}
use Rattle.speculation.specs.Loans.{IsForeign}
use Rattle.guest_model.specs.MachineState.{MachineState}
use Rattle.track_state.specs.Views.{view_of}
use Rattle.track_state.specs.Runs.{RunsOver}
use Rattle.track_state.specs.declared.track.Track.{Track as CodeTrack}
use Rattle.track_board.specs.declared.loan.Loan.{Loan}
use Rattle.track_board.specs.Value.{Posted, core_of}
use Rattle.track_board.specs.Parts.{TrackStands}
use Rattle.track_board.specs.Loans.{IsLoanOf, HasRun}

-- these entries more
abbrev pub extended : Posted → List Entry → Posted
extended v xs = record v { entries = v.entries ++ xs }

-- the board went on by entries of which none belongs to this seat
pub record OthersAct (seat : ℕ) (v w : Posted) : Type 0 where
  pub rest : List Entry
  pub is : w ≡ extended v rest
  pub foreign : IsForeign seat v.entries rest

-- Of a loan that no discard dropped: this is the live track of its name.
abbrev pub HasLive : Posted → Name → CodeTrack → Type 0
HasLive v n x =
    (l : OpenLoan) → find_loan n (core_of v).loans ≡ Some l → l.dropped ≡ None →
    (t : CoreTrack MachineState) → find_track (core_of v) n ≡ Some t → TrackStands v.input v.settings.budget x true t

-- the loan is out with this seat, as it was lent
pub record IsOut (v : Posted) (seat : ℕ) (loan : Loan) : Type 0 where
  pub lent : IsLoanOf v seat loan.name
  pub input : loan.input ≡ v.input
  pub runs : RunsOver loan.input (view_of loan.track)
  pub live : HasLive v loan.name loan.track

-- the loan is out with this seat, and was run by one slice: it may come home
pub record MayComeHome (v : Posted) (seat : ℕ) (loan : Loan) : Type 0 where
  pub lent : IsLoanOf v seat loan.name
  pub ran : HasRun v loan

-- each of these loans is out with the seat whose number is one more than its place, and may come home
abbrev pub AllMayComeHome : Posted → List (Option Loan) → Type 0
AllMayComeHome v out = (place : ℕ) (loan : Loan) → slice_get out place ≡ Some (Some loan) → MayComeHome v (suc place) loan
