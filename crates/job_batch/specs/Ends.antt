-- The ends of the jobs of a batch
use Rattle.std.specs.Prelude.{◌≡◌, ℕ, List, [], ◌++◌}
use Rattle.std.specs.List.{AllZip}
use Rattle.speculation.specs.Run.{Mark, stream_bytes}
use Rattle.speculation.specs.Record.{output_of}
use Rattle.track_board.specs.declared.outcome.Outcome.{Outcome}
use Rattle.track_board.specs.Value.{Posted}
use Rattle.serial_run.specs.Conducting.{IsSameRun, IsWhole, alone_of}
use Rattle.worker_gate.specs.Histories.{HasWorkedHistory}
use Rattle.job_batch.specs.declared.ends.JobEnd.{JobEnd}
use Rattle.job_batch.specs.declared.ends.JobOutcome.{JobOutcome}
use Rattle.job_batch.specs.declared.ends.JobOutcome.TheVariants.{Done, NoMemory}

-- a board on which nothing has happened yet
abbrev pub IsFresh : Posted → Type 0
IsFresh v = v.entries ≡ []

-- the bytes are the two streams of this output
pub record AreStreams (output : List Mark) (out notes : List ℕ) : Type 0 where
  pub on_out : out ≡ stream_bytes 1 output
  pub on_notes : notes ≡ stream_bytes 2 output

-- they are those of a beginning of what the board's program alone writes
pub record ArePart (v : Posted) (out notes : List ℕ) : Type 0 where
  pub got : List Mark
  pub rest : List Mark
  pub parts : got ++ rest ≡ output_of (alone_of v)
  pub streams : AreStreams got out notes

-- They are those of all that it writes. The outcome is that of a run of the board with so many workers: it is whole, and its
-- entries are a legal history with a finish, of the board's own settings, image and input.
pub record IsDone (workers : ℕ) (v : Posted) (out notes : List ℕ) (o : Outcome) : Type 0 where
  pub streams : AreStreams (output_of (alone_of v)) out notes
  pub last : Posted
  pub same : IsSameRun v last
  pub whole : IsWhole last o
  pub worked : HasWorkedHistory workers last

abbrev pub EndsWith : ℕ → Posted → List ℕ → List ℕ → JobOutcome → Type 0
EndsWith workers v out notes (Done o) = IsDone workers v out notes o
EndsWith workers v out notes NoMemory = ArePart v out notes

-- what came of the job of this board
abbrev pub IsEndOf : ℕ → Posted → JobEnd → Type 0
IsEndOf workers v e = EndsWith workers v e.out e.notes e.outcome

-- an end for each job, in their order
abbrev pub AreEnds : ℕ → List Posted → List JobEnd → Type 0
AreEnds workers boards ends = AllZip (IsEndOf workers) boards ends
