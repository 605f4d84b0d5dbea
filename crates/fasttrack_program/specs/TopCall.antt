-- What a call of the program answers, what it leaves on `out` and `notes`, and which history it hands out
use Rattle.std.specs.Prelude.{◌≡◌, ℕ, Bool, true, false, ◌&&◌, nat_le, IsTrue, if◌then◌else◌, List, [], ◌∷◌, ◌++◌, Option, Some, None, Result, Ok, Err, ◌⊎◌}
use Rattle.speculation.specs.declared.history.Entry.{Entry}
use Rattle.guest_streams.specs.GuestStreams.{Sinks}
use Rattle.program_words.specs.CommandLine.{Request, IsInRange, asked}
use Rattle.program_words.specs.declared.request.Request.{Request as GivenRequest}
use Rattle.program_words.specs.declared.request.Task.{Task}
use Rattle.program_words.specs.declared.request.Task.TheVariants.{Run, Bench, Batch}
use Rattle.fasttrack_program.specs.AnswerLine.{Concludes}
use Rattle.fasttrack_program.specs.Jobs.{histories_of_jobs}
use Rattle.fasttrack_program.specs.Promise.{promise_of}
use Rattle.fasttrack_program.specs.Reading.{Known}
use Rattle.fasttrack_program.specs.Serving.{IsServed}
use Rattle.fasttrack_program.specs.declared.answer.Answer.{Answer}
use Rattle.fasttrack_program.specs.declared.answer.Answer.TheVariants.{Exited, Trapped, Spent, Shown, Usage, NoMemory}
use Rattle.fasttrack_program.specs.declared.served.Served.{Served}
use Rattle.fasttrack_program.specs.declared.served.Told.{Told}
use Rattle.fasttrack_program.specs.declared.served.Told.TheVariants.{Nothing, One, Each}

-- ---- histories

-- the answers of a call that did all that it was asked for
abbrev pub completes : Answer → Bool
completes (Exited code) = true
completes (Trapped trap pc) = true
completes Spent = true
completes Shown = true
completes _ = false

-- the histories that go with what a call answers: one of a task with tracks, and for a batch one for each job that is done
abbrev pub histories_in : Told → List (List Entry)
histories_in Nothing = []
histories_in (One entries) = entries ∷ []
histories_in (Each reports) = histories_of_jobs reports.items

-- the histories that are told, with these behind them where the call's answer still is that of a task that was done
abbrev pub with_histories : List (List Entry) → Told → Answer → List (List Entry)
with_histories told more answer = if completes answer then told ++ histories_in more else told

-- the most histories that a task may hand out
abbrev pub most_histories : Task → ℕ
most_histories Run = 1
most_histories (Bench number) = 1
most_histories Batch = 16
most_histories _ = 0

-- ---- the call

-- First the plan of the call was kept up to an answer, which left the sinks as in `between`. Then the line of that answer
-- was written on notes; the call's result is that answer, unless the line was lost. Last the histories were handed out.
pub record IsAnswered (request : Option Request) (known : Known) (old new : Sinks) (told told' : List (List Entry)) (result : Answer) : Type 0 where
  pub served : Served
  pub between : Sinks
  pub serves : IsServed request known old between served
  pub out : new.out ≡ between.out
  pub out_faults : new.out_faults ≡ between.out_faults
  pub line : Concludes between.notes new.notes between.notes_faults new.notes_faults served.answer result
  pub histories : told' ≡ with_histories told served.told result

-- ---- the request

-- The request that the words make, with its numbers in their ranges; Usage where they make none, or want of memory.
abbrev pub IsRequest : Option Request → Result GivenRequest Answer → Type 0
IsRequest request (Ok r) = (request ≡ Some (asked r)) × IsInRange (asked r)
IsRequest request (Err answer) = ((answer ≡ Usage) × (request ≡ None)) ⊎ (answer ≡ NoMemory)

-- ---- workers

-- the call may wait: for a batch, with any number of workers, or for a task with tracks and at least one
abbrev pub task_needs_workers : Task → ℕ → Bool
task_needs_workers Batch workers = true
task_needs_workers task workers = (promise_of task).has_tracks && nat_le 1 workers

abbrev pub needs_workers : Option Request → Bool
needs_workers None = false
needs_workers (Some r) = task_needs_workers r.task r.workers

-- No answer exactly where the call may wait, unless memory ran out before the words were read. `untouched` says that
-- nothing was read, written or told.
abbrev pub NoneForWorkers : Option Request → Option Answer → Type 0 → Type 0
NoneForWorkers request None untouched = IsTrue (needs_workers request) × untouched
NoneForWorkers request (Some answer) untouched = (answer ≡ NoMemory) ⊎ (needs_workers request ≡ false)
