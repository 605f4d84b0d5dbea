-- How far the plan of a call is kept, up to the line of its answer
use Rattle.std.specs.Prelude.{◌≡◌, ℕ, if◌then◌else◌, List, Option, Vec, Result, Ok, Err, ◌⊎◌}
use Rattle.std.specs.Global.{Global}
use Rattle.speculation.specs.declared.history.Entry.{Entry}
use Rattle.speculation.specs.Run.{Mark, marked}
use Rattle.guest_model.specs.declared.end.End.{End}
use Rattle.guest_streams.specs.GuestStreams.{Sinks, GetsAll, GetsPart, StopsShort}
use Rattle.guest_streams.specs.declared.fault.OutputFault.{OutputFault}
use Rattle.job_listing.specs.declared.report.JobReport.{JobReport}
use Rattle.job_listing.specs.Listing.{jobs_text}
use Rattle.program_words.specs.CommandLine.{Request}
use Rattle.fasttrack_program.specs.Answers.{answer_of, answer_of_fault}
use Rattle.fasttrack_program.specs.Plan.{Found, Plan, Refused, Does, Shows, Runs, plan}
use Rattle.fasttrack_program.specs.Jobs.{Batch, AreReports}
use Rattle.fasttrack_program.specs.Showing.{Showing, Tells}
use Rattle.fasttrack_program.specs.Promise.{Given, Promise, IsHistory}
use Rattle.fasttrack_program.specs.Reading.{Known, AgreesWith}
use Rattle.fasttrack_program.specs.declared.answer.Answer.{Answer}
use Rattle.fasttrack_program.specs.declared.answer.Answer.TheVariants.{Shown, ReadFault, WriteFault, NoMemory}
use Rattle.fasttrack_program.specs.declared.served.Served.{Served}
use Rattle.fasttrack_program.specs.declared.served.Told.TheVariants.{Nothing, One, Each}

-- an answer without a history
abbrev pub plainly : Answer → Served
plainly a = record { answer = a; told = Nothing }

-- the answer of a guest that was run alone
abbrev pub ended : Result End OutputFault → Served
ended (Ok e) = plainly (answer_of e)
ended (Err fault) = plainly (answer_of_fault fault)

-- the answer of a promise that is kept whole, with its history
abbrev pub wholly : Promise → Given → List Entry → Served
wholly p g entries = record { answer = p.answer g; told = if p.has_tracks then One entries else Nothing }

-- How far an output was written: whole, and then the call was served so; or up to a byte that could not be written, since
-- the sink of that byte failed; or up to some byte, since memory ran out.
abbrev pub IsWritten : List Mark → Served → Sinks → Sinks → Served → Type 0
IsWritten output whole old new s =
    ((s ≡ whole) × GetsAll old new output)
    ⊎ ((s ≡ plainly WriteFault) × StopsShort old new output)
    ⊎ ((s ≡ plainly NoMemory) × GetsPart old new output)

-- how far a promise was kept
abbrev pub IsKept : Promise → Given → List Entry → Sinks → Sinks → Served → Type 0
IsKept p g entries old new s = IsWritten (p.writes g entries) (wholly p g entries) old new s

-- how a call ends that has written a text
abbrev pub shown : {A : Type 0} → Result A OutputFault → Served
shown (Ok _) = plainly Shown
shown (Err fault) = plainly (answer_of_fault fault)

-- How far the text of a task was shown; or the answer that refuses what was read, of which nothing is shown; or want of
-- memory before a text was found.
abbrev pub IsShown : Showing → Sinks → Sinks → Served → Type 0
IsShown x old new s =
    ((text : List ℕ) × Tells x (Ok text) × IsWritten (marked 1 text) (plainly Shown) old new s)
    ⊎ ((answer : Answer) × Tells x (Err answer) × (s ≡ plainly answer) × (new ≡ old))
    ⊎ ((s ≡ plainly NoMemory) × (new ≡ old))

-- the same with some entries, which are the history of the task
pub record KeepsPromise (p : Promise) (g : Given) (old new : Sinks) (s : Served) : Type 0 where
  pub entries : List Entry
  pub history : IsHistory p.has_tracks g entries
  pub kept : IsKept p g entries old new s

-- How far the text of a batch was shown, by reports of its own jobs. Once all of it is shown, the history of each job that
-- is done is told.
pub record KeepsBatch (b : Batch) (old new : Sinks) (s : Served) : Type 0 where
  pub reports : Vec JobReport Global
  pub are_reports : AreReports b reports.items
  pub kept : IsWritten (marked 1 (jobs_text reports.items)) (record { answer = Shown; told = Each reports }) old new s

-- a call that is refused writes nothing
abbrev pub Keeps : Plan → Sinks → Sinks → Served → Type 0
Keeps (Refused answer) old new s = (s ≡ plainly answer) × (new ≡ old)
Keeps (Does p g) old new s = KeepsPromise p g old new s
Keeps (Shows x) old new s = IsShown x old new s
Keeps (Runs b) old new s = KeepsBatch b old new s

-- a read failed, or memory ran out before the task was begun: nothing was written
abbrev pub IsStopped : Sinks → Sinks → Served → Type 0
IsStopped old new s = ((s ≡ plainly ReadFault) ⊎ (s ≡ plainly NoMemory)) × (new ≡ old)

-- the jobs of a batch were run and shown, or memory ran out before
abbrev pub IsRun : Batch → Sinks → Sinks → Served → Type 0
IsRun b old new s = ((s ≡ plainly NoMemory) × (new ≡ old)) ⊎ KeepsBatch b old new s

-- The plan was kept for some files and some input, which are those that are known, where they are known.
pub record IsServed (request : Option Request) (known : Known) (old new : Sinks) (s : Served) : Type 0 where
  pub found : Found
  pub agrees : AgreesWith known found
  pub keeps : IsStopped old new s ⊎ Keeps (plan request found) old new s
