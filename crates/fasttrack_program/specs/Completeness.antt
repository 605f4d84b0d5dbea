-- What a call does in which nothing fails: all that its plan says, or memory runs out
use Rattle.std.specs.Prelude.{◌≡◌, ℕ, List, [], ◌++◌, Option, unwrap_or, Ok, Err, ◌⊎◌}
use Rattle.speculation.specs.declared.history.Entry.{Entry}
use Rattle.speculation.specs.Run.{marked}
use Rattle.host_io.specs.Faults.{StayedCalm}
use Rattle.host_io.specs.declared.files.Files.{Ghosts as FilesRow}
use Rattle.host_io.specs.declared.source.Source.{Ghosts as SourceRow}
use Rattle.guest_streams.specs.GuestStreams.{Sinks, Gets}
use Rattle.job_listing.specs.declared.report.JobReport.{JobReport}
use Rattle.job_listing.specs.Listing.{jobs_text}
use Rattle.program_words.specs.CommandLine.{Request}
use Rattle.fasttrack_program.specs.AnswerLine.{line_of}
use Rattle.fasttrack_program.specs.Plan.{Found, Plan, Refused, Does, Shows, Runs, plan}
use Rattle.fasttrack_program.specs.Jobs.{Batch, AreReports}
use Rattle.fasttrack_program.specs.Showing.{Showing, Tells}
use Rattle.fasttrack_program.specs.Promise.{Given, Promise, IsHistory}
use Rattle.fasttrack_program.specs.Reading.{Known, AgreesWith}
use Rattle.fasttrack_program.specs.declared.answer.Answer.{Answer}
use Rattle.fasttrack_program.specs.declared.answer.Answer.TheVariants.{Shown, NoMemory}

-- no read and no write failed: none of the four counts rose
pub record NothingFailed {F I : Type 0} (f : FilesRow F) (i : SourceRow I) (files files' : F) (input input' : I) (old new : Sinks) : Type 0 where
  pub files_calm : StayedCalm (f.faults files) (f.faults files')
  pub input_calm : StayedCalm (i.faults input) (i.faults input')
  pub out_calm : StayedCalm old.out_faults new.out_faults
  pub notes_calm : StayedCalm old.notes_faults new.notes_faults

-- the bytes of an answer's line; none where it has no line
abbrev pub line_text : Answer → List ℕ
line_text answer = unwrap_or (line_of answer) []

-- the sinks got all that is promised, and behind it notes got the line of the promised answer
pub record DoesAll (p : Promise) (g : Given) (old new : Sinks) (answer : Answer) : Type 0 where
  pub entries : List Entry
  pub history : IsHistory p.has_tracks g entries
  pub answers : answer ≡ p.answer g
  pub gets : Gets old new (p.writes g entries ++ marked 2 (line_text answer))

-- `out` got the whole text that is shown; or what was read is refused, and notes got the line of the answer
abbrev pub ShowsAll : Showing → Sinks → Sinks → Answer → Type 0
ShowsAll x old new answer =
    ((text : List ℕ) × Tells x (Ok text) × (answer ≡ Shown) × Gets old new (marked 1 text))
    ⊎ (Tells x (Err answer) × Gets old new (marked 2 (line_text answer)))

-- `out` got the reports of all jobs
pub record TellsAll (b : Batch) (old new : Sinks) (answer : Answer) : Type 0 where
  pub reports : List JobReport
  pub are_reports : AreReports b reports
  pub answers : answer ≡ Shown
  pub gets : Gets old new (marked 1 (jobs_text reports))

-- a call that is refused writes the line of its answer
abbrev pub FollowsPlan : Plan → Sinks → Sinks → Answer → Type 0
FollowsPlan (Refused refusal) old new answer = (answer ≡ refusal) × Gets old new (marked 2 (line_text answer))
FollowsPlan (Does p g) old new answer = DoesAll p g old new answer
FollowsPlan (Shows x) old new answer = ShowsAll x old new answer
FollowsPlan (Runs b) old new answer = TellsAll b old new answer

-- all of the plan was done, for some files and some input, which are those that are known, where they are known
pub record IsDone (request : Option Request) (known : Known) (old new : Sinks) (answer : Answer) : Type 0 where
  pub found : Found
  pub agrees : AgreesWith known found
  pub follows : FollowsPlan (plan request found) old new answer

abbrev pub IsComplete : Option Request → Known → Sinks → Sinks → Answer → Type 0
IsComplete request known old new answer = (answer ≡ NoMemory) ⊎ IsDone request known old new answer
