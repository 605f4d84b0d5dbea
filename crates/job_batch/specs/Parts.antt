-- The parts of the caller and of the workers in the jobs of a batch
use Rattle.std.specs.Prelude.{◌≡◌, ℕ, ◌+◌, ◌≤◌, List, [], Some, map, slice_get}
use Rattle.atomic_table.specs.Seated.{TableId}
use Rattle.guest_streams.specs.GuestStreams.{Sinks, GetsAll}
use Rattle.track_board.specs.Value.{Posted, core_of}
use Rattle.track_board.specs.Owners.{posted_by}
use Rattle.worker_gate.specs.Seats.{BoardPass, seen_of, IsReady}
use Rattle.job_batch.specs.declared.leading.LedJob.{LedJob}
use Rattle.job_batch.specs.declared.leading.Stage.{Stage}
use Rattle.job_batch.specs.declared.leading.Stage.TheVariants.{Runs, Over, Failed}
use Rattle.job_batch.specs.declared.shares.Share.{Share}
use Rattle.job_batch.specs.Ends.{ArePart}

-- a pass of the lock of this number, in no turn, whose seat has no loan
pub record IsPassAt (locks : List TableId) (number : ℕ) (p : BoardPass) : Type 0 where
  pub lock : slice_get locks number ≡ Some p.lock
  pub ready : IsReady p.lock p

-- ---- workers

abbrev pub IsShare : List TableId → Share → Type 0
IsShare locks s = IsPassAt locks s.job s.pass

-- ---- the caller

-- the board of a job, as it was when the batch began
abbrev pub board_of : LedJob → Posted
board_of j = posted_by j.pass.fixed []

abbrev pub boards_of : List LedJob → List Posted
boards_of js = map board_of js

-- its pass, but for what it has seen
abbrev pub start_of : LedJob → BoardPass
start_of j = record j.pass { seen = [] }

abbrev pub starts_of : List LedJob → List BoardPass
starts_of js = map start_of js

-- its two sinks, and how they were when the batch began
abbrev pub sinks_of_job : LedJob → Sinks
sinks_of_job j = record { out = Some j.out.bytes; out_faults = j.out.faults; notes = Some j.notes.bytes; notes_faults = j.notes.faults }

abbrev pub empty_sinks : Sinks
empty_sinks = record { out = Some []; out_faults = 0; notes = Some []; notes_faults = 0 }

-- they got all that was released, or a part of what the program writes
abbrev pub HasGot : Stage → LedJob → Type 0
HasGot Runs j = GetsAll empty_sinks (sinks_of_job j) (core_of (seen_of j.pass)).released
HasGot Over j = GetsAll empty_sinks (sinks_of_job j) (core_of (seen_of j.pass)).released
HasGot Failed j = ArePart (board_of j) j.out.bytes j.notes.bytes

-- the first pass of the job's lock, and what the sinks got
pub record IsLed (locks : List TableId) (j : LedJob) : Type 0 where
  pub place : IsPassAt locks j.number j.pass
  pub seat : j.pass.seat ≡ 0
  pub some : 1 ≤ j.pass.stock
  pub got : HasGot j.stage j

-- its passes went to workers up to this number
abbrev pub HasSeats : ℕ → LedJob → Type 0
HasSeats workers j = j.pass.stock ≤ workers + 1
