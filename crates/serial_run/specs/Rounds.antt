-- The rounds of a conductor on one thread: the serial history, and what the two sinks got by then
use Rattle.std.specs.Prelude.{◌≡◌, ℕ, zero, suc, ◌<◌, Bool, true, false, List, [], ◌∷◌, ◌++◌, length, Some, None, Result, Ok, Err, ◌⊎◌}
use Rattle.speculation.specs.declared.tracks.Name.{Name}
use Rattle.speculation.specs.declared.history.Entry.{Entry}
use Rattle.speculation.specs.declared.history.Entry.TheVariants as E
use Rattle.speculation.specs.Run.{Mark}
use Rattle.speculation.specs.Core.{over, find_track}
use Rattle.speculation.specs.Serial.{slice_of, serial_next}
use Rattle.speculation_law.specs.Serial.{IsSerialSoFar}
use Rattle.guest_streams.specs.GuestStreams.{Sinks, GetsAll, StopsShort}
use Rattle.guest_streams.specs.declared.fault.OutputFault.{OutputFault}
use Rattle.guest_streams.specs.declared.fault.OutputFault.TheVariants.{Write, NoMemory}
use Rattle.track_board.specs.declared.outcome.Outcome.{Outcome}
use Rattle.track_board.specs.Value.{Posted, machine_of, start_state, core_of, posted}
use Rattle.track_board.specs.Loans.{oldest_lendable}
use Rattle.track_board.specs.Settles.{Settles, due_of, verified_of, released_with, IsOutcome}
use Rattle.track_board.specs.Others.{extended}
use Rattle.serial_run.specs.declared.conducted.Conducted.{Conducted}
use Rattle.serial_run.specs.declared.conducted.Conducted.TheVariants.{WriteFault}
use Rattle.serial_run.specs.declared.conducted.Conducted.TheVariants as C

-- ---- the steps of a round

-- due events are done, and then these verified bytes are handed out, if there are any
pub record TakesVerified (v w : Posted) (bytes : List Mark) : Type 0 where
  pub settled : Posted
  pub events : ℕ
  pub settles : Settles events v settled
  pub undue : due_of settled ≡ None
  pub verified : bytes ≡ verified_of settled
  pub now : w ≡ released_with settled bytes

-- some due events are done
abbrev pub SettlesSome : Posted → Posted → Type 0
SettlesSome v w = (events : ℕ) × Settles events v w

-- a track may be lent
abbrev pub CanLend : Posted → Type 0
CanLend v = (n : Name) × (oldest_lendable v ≡ Some n)

-- the entries of a slice: the track goes out to seat 0 and comes home
abbrev pub slice_entries : Posted → Name → List Entry
slice_entries v n = E.Lend 0 n ∷ (E.Back n (slice_of (machine_of v) v.settings (find_track (core_of v) n)) ∷ [])

-- the oldest lendable track was run by one slice
pub record RunsSlice (v w : Posted) : Type 0 where
  pub name : Name
  pub oldest : oldest_lendable v ≡ Some name
  pub now : w ≡ extended v (slice_entries v name)

-- the track that went out to seat 0 was given up, and that halted the board
pub record GivesUp (v w : Posted) : Type 0 where
  pub name : Name
  pub oldest : oldest_lendable v ≡ Some name
  pub now : w ≡ extended v (E.Lend 0 name ∷ (E.Gone name ∷ []))
  pub over : over (core_of w) ≡ true

-- there was no memory to lend a track, or for its slice
abbrev pub SliceFails : Posted → Posted → Type 0
SliceFails v w = (w ≡ v) ⊎ GivesUp v w

-- ---- rounds

-- the entries are the serial history so far; nothing is lent or lost, and nobody halted the board
pub record IsUnderway (v : Posted) : Type 0 where
  pub so_far : IsSerialSoFar (machine_of v) v.settings (start_state v) v.entries
  pub loans : (core_of v).loans ≡ []
  pub lost : (core_of v).lost ≡ []
  pub running : (core_of v).halted ≡ false

-- what comes next in the serial history is done
pub record IsNext (v w : Posted) : Type 0 where
  pub entries : List Entry
  pub next : serial_next (machine_of v) v.settings (core_of v) ≡ Some entries
  pub now : w ≡ extended v entries

-- so many times
abbrev pub GoesBy : ℕ → Posted → Posted → Type 0
GoesBy zero v w = w ≡ v
GoesBy (suc n) v w = (u : Posted) × GoesBy n v u × IsNext u w

-- the serial history goes on, and the sinks get both streams of what it released
pub record GoesOn (v w : Posted) (old new : Sinks) : Type 0 where
  pub count : ℕ
  pub by : GoesBy count v w
  pub underway : IsUnderway w
  pub bytes : List Mark
  pub released : (core_of w).released ≡ (core_of v).released ++ bytes
  pub written : GetsAll old new bytes

-- nothing comes next, and the board is over
pub record IsAtEnd (w : Posted) : Type 0 where
  pub over : over (core_of w) ≡ true
  pub idle : serial_next (machine_of w) w.settings (core_of w) ≡ None

-- What came next was a release: it was entered, and the sinks stopped short of its bytes.
pub record ReleaseFails (v w : Posted) (old new : Sinks) : Type 0 where
  pub next : serial_next (machine_of v) v.settings (core_of v) ≡ Some (E.Release (length (verified_of v)) ∷ [])
  pub now : w ≡ posted v (E.Release (length (verified_of v)))
  pub short : StopsShort old new (verified_of v)

-- What came next was a slice: there was no memory for it, and its track was given up.
pub record LosesSlice (v w : Posted) : Type 0 where
  pub gives_up : GivesUp v w
  pub next : serial_next (machine_of v) v.settings (core_of v) ≡ Some (slice_entries v gives_up.name)

-- what comes next in the serial history fails
abbrev pub NextFails : OutputFault → Posted → Posted → Sinks → Sinks → Type 0
NextFails Write v w old new = ReleaseFails v w old new
NextFails NoMemory v w old new = ((w ≡ v) ⊎ LosesSlice v w) × (new ≡ old)

-- the serial history goes on, and then what comes next fails
pub record Breaks (v w : Posted) (old new : Sinks) (fault : OutputFault) : Type 0 where
  pub before : Posted
  pub between : Sinks
  pub on : GoesOn v before old between
  pub fails : NextFails fault before w between new

-- a round did something and another one follows, or it was the last one
abbrev pub IsRound : Posted → Posted → Sinks → Sinks → Bool → Type 0
IsRound v w old new true = (on : GoesOn v w old new) × (0 < on.count)
IsRound v w old new false = GoesOn v w old new × IsAtEnd w

-- what a round answers and leaves
abbrev pub RoundIs : Posted → Posted → Sinks → Sinks → Result Bool OutputFault → Type 0
RoundIs v w old new (Ok more) = IsRound v w old new more
RoundIs v w old new (Err fault) = Breaks v w old new fault

-- what all rounds answer and leave
abbrev pub RoundsAre : Posted → Posted → Sinks → Sinks → Result Outcome OutputFault → Type 0
RoundsAre v w old new (Ok o) = GoesOn v w old new × IsAtEnd w × IsOutcome w o
RoundsAre v w old new (Err fault) = Breaks v w old new fault

-- the answer where the output could not be written
abbrev pub answer_to : OutputFault → Conducted
answer_to Write = WriteFault
answer_to NoMemory = C.NoMemory
