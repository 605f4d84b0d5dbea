-- A board that follows a journal, and the tracks that are out meanwhile
use Rattle.std.specs.Prelude.{◌≡◌, ℕ, Bool, true, false, not, ◌&&◌, List, [], ◌∷◌, ◌++◌, ◌+◌, Option, Some, None, All, map, length, is_none, slice_get, nat_eq, if◌then◌else◌, Result, Ok, Err}
use Rattle.std.specs.List.{remove}
use Rattle.speculation.specs.declared.tracks.Name.{Name}
use Rattle.speculation.specs.declared.tracks.OpenLoan.{OpenLoan}
use Rattle.speculation.specs.declared.history.Entry.{Entry}
use Rattle.speculation.specs.declared.history.Entry.TheVariants.{Lend, Back, Gone, Fork, Cross, Keep, Discard, Release, Finish, Halt}
use Rattle.speculation.specs.Core.{name_eq, over, find_loan}
use Rattle.speculation.specs.Events.{event}
use Rattle.track_state.specs.Views.{view_of}
use Rattle.track_state.specs.Runs.{RunsOver}
use Rattle.track_board.specs.declared.kept.Program.{Program}
use Rattle.track_board.specs.declared.loan.Loan.{Loan}
use Rattle.track_board.specs.Value.{Posted, IsKnown, machine_of, core_of, posted}
use Rattle.track_board.specs.Others.{HasLive}
use Rattle.track_board.specs.Owners.{program_of}
use Rattle.region_ledger.specs.Ledger.{core_finished, ledger_rows}
use Rattle.track_board.specs.Settles.{verified_of}
use Rattle.journal_check.specs.declared.checking.Checked.{Checked}
use Rattle.journal_check.specs.declared.fault.Cause.TheVariants.{Unfinished}
use Rattle.journal_check.specs.declared.fault.CheckFault.{CheckFault}
use Rattle.journal_check.specs.declared.fault.CheckFault.TheVariants.{Journal, NoMemory}
use Rattle.journal_check.specs.declared.replay.Replay.{Replay}
use Rattle.journal_check.specs.Journals.{journal_text, AllFit}
use Rattle.journal_check.specs.Checks.{HasFault}

-- ---- loans by name

abbrev pub names_of : List Loan → List Name
names_of out = map (λ (l : Loan). l.name) out

abbrev pub lent_names : List OpenLoan → List Name
lent_names loans = map (λ (l : OpenLoan). l.name) loans

-- the names without the first that is this one
abbrev pub without : Name → List Name → List Name
without n [] = []
without n (x ∷ xs) = if name_eq n x then xs else x ∷ without n xs

-- the loan of this name is taken out of a list
pub record IsTakenOut (old new : List Loan) (n : Name) (loan : Loan) : Type 0 where
  pub place : ℕ
  pub at : slice_get old place ≡ Some loan
  pub rest : new ≡ remove old place
  pub names : names_of new ≡ without n (names_of old)
  pub name : loan.name ≡ n

-- the track of this loan is out, and as it was lent
pub record IsAsLent (v : Posted) (loan : Loan) : Type 0 where
  pub input : loan.input ≡ v.input
  pub runs : RunsOver loan.input (view_of loan.track)
  pub live : HasLive v loan.name loan.track

-- these are the tracks that are out, in the order of the core's loans
pub record AreOut (v : Posted) (out : List Loan) : Type 0 where
  pub names : names_of out ≡ lent_names (core_of v).loans
  pub each : All (IsAsLent v) out

-- ---- the replay

-- the board follows a journal so far, and the bytes that it released were counted
pub record IsFollowing (r : Replay) : Type 0 where
  pub known : IsKnown r.board
  pub out : AreOut r.board r.out.items
  pub released : r.released ≡ length (core_of r.board).released

-- a board on which nothing has happened yet
pub record IsFresh (v : Posted) : Type 0 where
  pub known : IsKnown v
  pub nothing : v.entries ≡ []

-- the entry was done
pub record Follows (old new : Replay) (x : Entry) : Type 0 where
  pub board : new.board ≡ posted old.board x
  pub on : IsFollowing new

-- the entry isn't allowed after those of the board
abbrev pub IsRefused : Posted → Entry → Type 0
IsRefused v x = event (machine_of v) v.settings (core_of v) x ≡ None

-- by whether the entry is allowed
abbrev pub FollowsIf : Replay → Replay → Entry → Bool → Type 0
FollowsIf old new x true = Follows old new x
FollowsIf old new x false = IsRefused old.board x

-- ---- what may be

abbrev pub is_live : Option OpenLoan → Bool
is_live None = false
is_live (Some l) = is_none l.dropped

-- the track of this name may come home
abbrev pub may_return : Posted → Name → Bool
may_return v n = not (over (core_of v)) && is_live (find_loan n (core_of v).loans)

-- the entry is that of an event that may be due
abbrev pub IsOfDue : Entry → Type 0
IsOfDue (Lend seat n) = ⊥
IsOfDue (Back n count) = ⊥
IsOfDue (Gone n) = ⊥
IsOfDue (Release bytes) = ⊥
IsOfDue (Halt seat) = ⊥
IsOfDue _ = Unit {0}

-- these are one entry of an event that may be due
abbrev pub same_event : Entry → Entry → Bool
same_event (Fork m) (Fork n) = name_eq m n
same_event (Cross m) (Cross n) = name_eq m n
same_event (Keep k) (Keep l) = nat_eq k l
same_event (Discard k) (Discard l) = nat_eq k l
same_event Finish Finish = true
same_event _ _ = false

-- ---- lines

-- the board is that of this program, and its entries are the first lines of the journal, which this follows
pub record HasRead (p : Program) (journal behind : List ℕ) (v : Posted) : Type 0 where
  pub program : program_of v ≡ p
  pub text : journal ≡ journal_text v.entries ++ behind
  pub fit : AllFit v.entries

-- all lines were followed, so many, or one of them is refused
abbrev pub FollowsAll : Program → List ℕ → Replay → Result ℕ CheckFault → Type 0
FollowsAll p journal new (Ok lines) = IsFollowing new × HasRead p journal [] new.board × (lines ≡ length new.board.entries)
FollowsAll p journal new (Err fault) = HasFault p journal fault

-- what a board that followed all lines tells: its finish, its rows, and the bytes that it released and left; or there is no finish
pub record Summarizes (r : Replay) (c : Checked) : Type 0 where
  pub finish : (core_of r.board).finish ≡ Some (core_finished c.finished)
  pub rows : ledger_rows c.rows ≡ (core_of r.board).rows
  pub entries : c.entries ≡ length r.board.entries
  pub released : c.released ≡ length (core_of r.board).released
  pub left : c.left ≡ length (verified_of r.board)

abbrev pub TellsOutcome : Replay → Result Checked CheckFault → Type 0
TellsOutcome r (Ok c) = Summarizes r c
TellsOutcome r (Err (Journal f)) = ((core_of r.board).finish ≡ None) × (f ≡ record { line = length r.board.entries + 1; cause = Unfinished })
TellsOutcome r (Err NoMemory) = Unit {0}
