-- What a conductor with workers does, and what the two sinks get by it
use Rattle.std.specs.Prelude.{◌≡◌, ℕ, true, List, [], ◌++◌, IsSome, Result, Ok, Err}
use Rattle.speculation.specs.declared.history.Entry.{Entry}
use Rattle.speculation.specs.Run.{Mark}
use Rattle.speculation.specs.Core.{over}
use Rattle.guest_streams.specs.GuestStreams.{Sinks, GetsAll, StopsShort}
use Rattle.guest_streams.specs.declared.fault.OutputFault.{OutputFault}
use Rattle.guest_streams.specs.declared.fault.OutputFault.TheVariants as F
use Rattle.track_board.specs.declared.outcome.Outcome.{Outcome}
use Rattle.track_board.specs.Value.{Posted, core_of}
use Rattle.track_board.specs.Settles.{verified_of, IsOutcome}
use Rattle.track_board.specs.Others.{extended}
use Rattle.serial_run.specs.declared.conducted.Conducted.{Conducted}
use Rattle.serial_run.specs.declared.conducted.Conducted.TheVariants.{Done, WriteFault, NoMemory}
use Rattle.worker_gate.specs.declared.kinds.Led.{Led}
use Rattle.worker_gate.specs.declared.kinds.Led.TheVariants.{Over}
use Rattle.worker_gate.specs.declared.releases.Verified.{Verified}
use Rattle.worker_gate.specs.declared.releases.Closed.{Closed}
use Rattle.worker_gate.specs.Histories.{SeatsBelow}
use Rattle.worker_gate.specs.Seats.{own_loans}

-- ---- the conductor's turns

-- the board went on by entries that handed these bytes out, and seat 0 has as many loans as before
pub record Hands (bytes : List Mark) (v w : Posted) : Type 0 where
  pub rest : List Entry
  pub is : w ≡ extended v rest
  pub loans : own_loans 0 w.entries ≡ own_loans 0 v.entries
  pub released : (core_of w).released ≡ (core_of v).released ++ bytes

-- the outcome is that of a board that has a finish, with nothing verified that it didn't hand out
pub record IsClosed (w : Posted) (o : Outcome) : Type 0 where
  pub outcome : IsOutcome w o
  pub finished : IsSome o.finished
  pub released : verified_of w ≡ []

-- what a turn handed out, and whether the board is over then; or there was no memory for it, and the board is over
abbrev pub HandsOut : {F : Type 0} → Posted → Posted → Result Verified F → Type 0
HandsOut v w (Ok got) = Hands got.bytes v w × (got.over ≡ over (core_of w))
HandsOut v w (Err _) = Hands [] v w × (over (core_of w) ≡ true)

-- what was handed out with the outcome; or there was no outcome, and what was handed out is lost
abbrev pub Takes : {F : Type 0} → Posted → Posted → Result Closed F → Type 0
Takes v w (Ok got) = Hands got.bytes v w × IsClosed w got.outcome
Takes v w (Err _) = (bytes : List Mark) × Hands bytes v w

-- the same of the last turn, with the seats of the loans
abbrev pub Closes : {F : Type 0} → ℕ → Posted → Posted → Result Closed F → Type 0
Closes most v w (Ok got) = Hands got.bytes v w × IsClosed w got.outcome × SeatsBelow most w.entries
Closes most v w (Err _) = (bytes : List Mark) × Hands bytes v w

-- ---- the conductor's rounds

-- the sinks got what was released up to a byte that could not be written, or there was no memory and they got all of it
abbrev pub BreaksOff : Posted → Sinks → Sinks → OutputFault → Type 0
BreaksOff w old new F.Write = StopsShort old new (core_of w).released
BreaksOff w old new F.NoMemory = GetsAll old new (core_of w).released

-- the sinks got what was released
abbrev pub LedIs : {T : Type 0} → Posted → Sinks → Sinks → Result T OutputFault → Type 0
LedIs w old new (Ok _) = GetsAll old new (core_of w).released
LedIs w old new (Err fault) = BreaksOff w old new fault

-- sinks that had got what was released before have then got what is released
abbrev pub LeadsOn : {T : Type 0} → Posted → Posted → Sinks → Sinks → Result T OutputFault → Type 0
LeadsOn v w old new r = (first : Sinks) → GetsAll first old (core_of v).released → LedIs w first new r

-- behind this answer of a round the board is over
abbrev pub IsOverBehind : Posted → Result Led OutputFault → Type 0
IsOverBehind w (Ok Over) = over (core_of w) ≡ true
IsOverBehind w (Ok _) = Unit {0}
IsOverBehind w (Err fault) = over (core_of w) ≡ true

-- What the last turn answers and leaves: it handed bytes out, and the sinks got them, or a part of them, or none.
abbrev pub Concludes : ℕ → Posted → Posted → Sinks → Sinks → Conducted → Type 0
Concludes most v w old new (Done o) = ((bytes : List Mark) × Hands bytes v w × GetsAll old new bytes) × IsClosed w o × SeatsBelow most w.entries
Concludes most v w old new WriteFault = (bytes : List Mark) × Hands bytes v w × StopsShort old new bytes
Concludes most v w old new NoMemory = ((bytes : List Mark) × Hands bytes v w) × (new ≡ old)
