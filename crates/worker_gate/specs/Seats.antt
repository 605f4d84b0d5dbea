-- What a pass of the board's lock has seen, and how a board goes on from there by the entries of one seat among others
use Rattle.std.specs.Prelude.{◌≡◌, ◌≢◌, ℕ, ◌+◌, Bool, true, false, List, [], ◌∷◌, ◌++◌, Option, Some, None, nat_eq, if◌then◌else◌}
use Rattle.speculation.specs.declared.tracks.OpenLoan.{OpenLoan}
use Rattle.speculation.specs.declared.history.Entry.{Entry}
use Rattle.speculation.specs.declared.history.Entry.TheVariants.{Gone, Halt}
use Rattle.speculation.specs.Core.{over}
use Rattle.speculation.specs.Loans.{loans_after, owner_of}
use Rattle.atomic_table.specs.Seated.{TableId}
use Rattle.board_lock.specs.Passes.{Held}
use Rattle.track_board.specs.declared.kept.Program.{Program}
use Rattle.track_board.specs.Value.{Posted, core_of, posted}
use Rattle.track_board.specs.Owners.{program_of, posted_by}
use Rattle.track_board.specs.Loans.{IsLiveLoan}
use Rattle.track_board.specs.Others.{OthersAct, extended}

-- a pass of a board's lock
abbrev pub BoardPass : Type 0
BoardPass = Held Program Entry

-- the board as the pass has last seen it
abbrev pub seen_of : BoardPass → Posted
seen_of p = posted_by p.fixed p.seen

-- whether this loan has that seat, as a number to add up
abbrev pub one_of : ℕ → OpenLoan → ℕ
one_of seat l = if nat_eq l.seat seat then 1 else 0

abbrev pub seat_count : ℕ → List OpenLoan → ℕ
seat_count seat [] = 0
seat_count seat (l ∷ ls) = one_of seat l + seat_count seat ls

-- how many loans a seat has after these entries
abbrev pub own_loans : ℕ → List Entry → ℕ
own_loans seat entries = seat_count seat (loans_after [] entries)

abbrev pub is_seat : ℕ → Option ℕ → Bool
is_seat seat None = false
is_seat seat (Some other) = nat_eq other seat

-- those of these entries, which stand behind `before`, that belong to the seat
abbrev pub own_entries : ℕ → List Entry → List Entry → List Entry
own_entries seat before [] = []
own_entries seat before (x ∷ rest) =
    if is_seat seat (owner_of before x) then x ∷ own_entries seat (before ++ (x ∷ [])) rest else own_entries seat (before ++ (x ∷ [])) rest

-- the entry halts the run: an entry of Halt, or the end of a loan whose track no discard dropped, where the board isn't over
abbrev pub HaltsAt : Posted → Entry → Type 0
HaltsAt v (Halt seat) = Unit {0}
HaltsAt v (Gone n) = IsLiveLoan v n × (over (core_of v) ≡ false)
HaltsAt v _ = ⊥

-- no entry of the seat among these, which stand behind `before`, halts the run
abbrev pub HaltsNothing : ℕ → Program → List Entry → List Entry → Type 0
HaltsNothing seat p before [] = Unit {0}
HaltsNothing seat p before (x ∷ rest) =
    (owner_of before x ≡ Some seat → HaltsAt (posted_by p before) x → ⊥) × HaltsNothing seat p (before ++ (x ∷ [])) rest

-- The board went on by entries of which these are the seat's, in this order, and none of these halted it.
pub record Goes (seat : ℕ) (own : List Entry) (v w : Posted) : Type 0 where
  pub rest : List Entry
  pub is : w ≡ extended v rest
  pub own_is : own_entries seat v.entries rest ≡ own
  pub halts_nothing : HaltsNothing seat (program_of v) v.entries rest

-- The board went on so, with these entries of the seat, and then this last one halted it.
pub record Halts (seat : ℕ) (own : List Entry) (last : Entry) (v w : Posted) : Type 0 where
  pub before : Posted
  pub goes : Goes seat own v before
  pub owner : owner_of before.entries last ≡ Some seat
  pub halts : HaltsAt before last
  pub is : w ≡ posted before last
  pub over : over (core_of w) ≡ true

-- the board went on by entries of this seat, and of none
abbrev pub ActsAlone : ℕ → Posted → Posted → Type 0
ActsAlone seat v w = (other : ℕ) → seat ≢ other → OthersAct other v w

-- the pass is this lock's, is in no turn, and its seat has no loan
pub record IsReady (id : TableId) (p : BoardPass) : Type 0 where
  pub lock : p.lock ≡ id
  pub idle : p.in_turn ≡ false
  pub none : own_loans p.seat p.seen ≡ 0
