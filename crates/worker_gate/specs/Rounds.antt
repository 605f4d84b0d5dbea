-- What a worker does with a board, turn by turn
use Rattle.std.specs.Prelude.{◌≡◌, ℕ, true, false, List, [], ◌∷◌, None, Result, Ok, Err}
use Rattle.speculation.specs.declared.tracks.Name.{Name}
use Rattle.speculation.specs.declared.history.Entry.{Entry}
use Rattle.speculation.specs.declared.history.Entry.TheVariants as E
use Rattle.speculation.specs.Core.{over}
use Rattle.track_board.specs.Value.{Posted, core_of}
use Rattle.track_board.specs.Loans.{oldest_lendable}
use Rattle.track_board.specs.Settles.{due_of}
use Rattle.track_board.specs.Others.{IsOut}
use Rattle.serial_run.specs.Quiet.{IsQuiet, AreQuiet}
use Rattle.worker_gate.specs.declared.acts.Found.{Found}
use Rattle.worker_gate.specs.declared.acts.Found.TheVariants.{Lent, Nothing, Over, NoMemory}
use Rattle.worker_gate.specs.declared.kinds.Round.{Round}
use Rattle.worker_gate.specs.declared.kinds.Round.TheVariants as R
use Rattle.worker_gate.specs.Seats.{Goes, Halts}

-- the entry ends the loan of this name
abbrev pub Ends : Name → Entry → Type 0
Ends n (E.Back k count) = k ≡ n
Ends n (E.Gone k) = k ≡ n
Ends n _ = ⊥

-- ---- turns

-- what is due was done, unless the board is over, with no entry of the seat
pub record IsSettled (seat : ℕ) (v w : Posted) : Type 0 where
  pub goes : Goes seat [] v w
  pub undue : over (core_of w) ≡ false → due_of w ≡ None

-- or there was no memory for it, and the seat halted the board
abbrev pub SettledIs : {T F : Type 0} → ℕ → Posted → Posted → Result T F → Type 0
SettledIs seat v w (Ok _) = IsSettled seat v w
SettledIs seat v w (Err _) = Halts seat [] (E.Halt seat) v w

-- the board isn't over, and nothing is due or lendable
pub record IsIdle (v : Posted) : Type 0 where
  pub running : over (core_of v) ≡ false
  pub undue : due_of v ≡ None
  pub unlendable : oldest_lendable v ≡ None

-- what a seat found that looked for work: a loan, nothing, that the board is over, or no memory
abbrev pub FoundIs : ℕ → Posted → Posted → Found → Type 0
FoundIs seat v w (Lent loan) = Goes seat (E.Lend seat loan.name ∷ []) v w × IsOut w seat loan
FoundIs seat v w Nothing = Goes seat [] v w × IsIdle w
FoundIs seat v w Over = Goes seat [] v w × (over (core_of w) ≡ true)
FoundIs seat v w NoMemory = Halts seat [] (E.Halt seat) v w

-- the loan of this name ended
pub record HasEnded (seat : ℕ) (n : Name) (v w : Posted) : Type 0 where
  pub end : Entry
  pub ends : Ends n end
  pub goes : Goes seat (end ∷ []) v w

-- it ended, and that halted the board, or there was no memory for what was due then
pub data HaltsEnding (seat : ℕ) (n : Name) (v w : Posted) : Type 0 where
  HaltedByEnd : Halts seat [] (E.Gone n) v w → HaltsEnding seat n v w
  HaltedAfterEnd : (end : Entry) → Ends n end → Halts seat (end ∷ []) (E.Halt seat) v w → HaltsEnding seat n v w

abbrev pub EndIs : {T F : Type 0} → ℕ → Name → Posted → Posted → Result T F → Type 0
EndIs seat n v w (Ok _) = HasEnded seat n v w
EndIs seat n v w (Err _) = HaltsEnding seat n v w

-- ---- rounds

-- a track was lent to the seat, and its loan ended
pub record HasWorked (seat : ℕ) (v w : Posted) : Type 0 where
  pub name : Name
  pub end : Entry
  pub ends : Ends name end
  pub goes : Goes seat (E.Lend seat name ∷ (end ∷ [])) v w

-- the seat halted the board: before a loan, by the end of a loan whose track was lost, or behind a loan
pub data HaltsInRound (seat : ℕ) (v w : Posted) : Type 0 where
  HaltedFirst : Halts seat [] (E.Halt seat) v w → HaltsInRound seat v w
  HaltedByLoss : (name : Name) → Halts seat (E.Lend seat name ∷ []) (E.Gone name) v w → HaltsInRound seat v w
  HaltedLast : (name : Name) (end : Entry) → Ends name end → Halts seat (E.Lend seat name ∷ (end ∷ [])) (E.Halt seat) v w → HaltsInRound seat v w

abbrev pub RoundIs : ℕ → Posted → Posted → Round → Type 0
RoundIs seat v w R.Worked = HasWorked seat v w
RoundIs seat v w R.Idle = Goes seat [] v w × IsIdle w
RoundIs seat v w R.Over = Goes seat [] v w × (over (core_of w) ≡ true)
RoundIs seat v w R.NoMemory = HaltsInRound seat v w

-- The board is over. The seat has released nothing, and none of its entries halted the board.
pub record Works (seat : ℕ) (v w : Posted) : Type 0 where
  pub own : List Entry
  pub quiet : AreQuiet own
  pub goes : Goes seat own v w

-- the same up to an entry of its own that halted it
pub record WorksUpToHalt (seat : ℕ) (v w : Posted) : Type 0 where
  pub own : List Entry
  pub quiet : AreQuiet own
  pub last : Entry
  pub last_quiet : IsQuiet last
  pub halts : Halts seat own last v w

-- what a worker did
abbrev pub WorkIs : {T F : Type 0} → ℕ → Posted → Posted → Result T F → Type 0
WorkIs seat v w (Ok _) = Works seat v w × (over (core_of w) ≡ true)
WorkIs seat v w (Err _) = WorksUpToHalt seat v w
