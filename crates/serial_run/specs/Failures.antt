-- Where a run on one thread stands after a failure
use Rattle.std.specs.Prelude.{◌≡◌, is_some, if◌then◌else◌, ◌⊎◌}
use Rattle.speculation.specs.declared.history.Entry.TheVariants as E
use Rattle.speculation_law.specs.Serial.{IsSerialSoFar}
use Rattle.guest_streams.specs.GuestStreams.{Sinks, GetsAll}
use Rattle.track_board.specs.Value.{Posted, machine_of, start_state, core_of, posted}
use Rattle.serial_run.specs.declared.conducted.Conducted.{Conducted}
use Rattle.serial_run.specs.declared.conducted.Conducted.TheVariants.{Done, WriteFault, NoMemory}
use Rattle.serial_run.specs.Rounds.{ReleaseFails, LosesSlice}

-- seat 0 halts the run, unless it has a finish
abbrev pub ended : Posted → Posted
ended v = if is_some (core_of v).finish then v else posted v (E.Halt 0)

-- the entries are the serial history so far, and the sinks got all that it released
pub record IsWritten (v : Posted) (old new : Sinks) : Type 0 where
  pub so_far : IsSerialSoFar (machine_of v) v.settings (start_state v) v.entries
  pub written : GetsAll old new (core_of v).released

-- A sink failed. The sinks got all that had been released before, and were then as in `between`. What came next was a
-- release, and they stopped short of its bytes. Nothing was entered behind it but the halt of a run without a finish.
pub record AfterWriteFault (w : Posted) (old new : Sinks) : Type 0 where
  pub before : Posted
  pub between : Sinks
  pub written : IsWritten before old between
  pub last : Posted
  pub unwritten : ReleaseFails before last between new
  pub now : w ≡ ended last

-- There was no memory. The sinks got all that was released. Behind the serial history so far nothing was entered but
-- the halt of a run without a finish; or the track whose slice came next was lent to seat 0 and is gone.
pub record AfterNoMemory (w : Posted) (old new : Sinks) : Type 0 where
  pub before : Posted
  pub written : IsWritten before old new
  pub now : (w ≡ ended before) ⊎ LosesSlice before w

-- where board and sinks stand, by the answer
abbrev pub AfterFailure : Posted → Sinks → Sinks → Conducted → Type 0
AfterFailure w old new (Done o) = Unit {0}
AfterFailure w old new WriteFault = AfterWriteFault w old new
AfterFailure w old new NoMemory = AfterNoMemory w old new
