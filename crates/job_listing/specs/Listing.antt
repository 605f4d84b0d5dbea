-- What is printed of the jobs of a batch. Numbers are plain decimal; a line feed has the code 10.
use Rattle.std.specs.Prelude.{ℕ, zero, suc, ◌+◌, List, [], ◌∷◌, ◌++◌, length, Option, Some, None, IsSome, codes}
use Rattle.region_ledger.specs.declared.finished.Finished.{Finished}
use Rattle.report_text.specs.Reports.{named, end_line}
use Rattle.fault_text.specs.FaultTexts.{fault_text}
use Rattle.job_batch.specs.declared.ends.JobEnd.{JobEnd}
use Rattle.job_batch.specs.declared.ends.JobOutcome.{JobOutcome}
use Rattle.job_batch.specs.declared.ends.JobOutcome.TheVariants.{Done, NoMemory}
use Rattle.job_listing.specs.declared.report.JobReport.{JobReport}
use Rattle.job_listing.specs.declared.report.JobReport.TheVariants as Reports
use Rattle.job_listing.specs.declared.report.JobStart.{JobStart}
use Rattle.job_listing.specs.declared.report.JobStart.TheVariants as Starts

-- ---- the reports of a batch

-- how many of the jobs run
abbrev pub runs_in : List JobStart → ℕ
runs_in [] = zero
runs_in (Starts.TooLong ∷ jobs) = runs_in jobs
runs_in (Starts.BadImage fault ∷ jobs) = runs_in jobs
runs_in (Starts.Runs ∷ jobs) = suc (runs_in jobs)

-- a report for each job: those that run have these ends, in their order
abbrev pub merged : List JobStart → List JobEnd → List JobReport
merged [] ends = []
merged (Starts.TooLong ∷ jobs) ends = Reports.TooLong ∷ merged jobs ends
merged (Starts.BadImage fault ∷ jobs) ends = Reports.BadImage fault ∷ merged jobs ends
merged (Starts.Runs ∷ jobs) [] = []
merged (Starts.Runs ∷ jobs) (end ∷ ends) = Reports.Ran end ∷ merged jobs ends

-- an outcome that was reached has a finish
abbrev pub HasFinish : JobOutcome → Type 0
HasFinish (Done o) = IsSome o.finished
HasFinish NoMemory = Unit {0}

-- a job that ran has an end that can be printed
abbrev pub HasEnd : JobReport → Type 0
HasEnd Reports.TooLong = Unit {0}
HasEnd (Reports.BadImage fault) = Unit {0}
HasEnd (Reports.Ran end) = HasFinish end.outcome

-- ---- texts

-- a job's number, counted from 0, and what follows
abbrev pub of_job : ℕ → List ℕ → List ℕ
of_job number rest = named (codes "job ") number rest

-- how many bytes the two streams have
abbrev pub sizes_line : ℕ → ℕ → ℕ → List ℕ
sizes_line number out notes = of_job number (named (codes " out ") out (named (codes " notes ") notes (10 ∷ [])))

-- the line of the program's end; nothing where there is no finish
abbrev pub finish_line : Option Finished → List ℕ
finish_line None = []
finish_line (Some f) = end_line f.end

abbrev pub outcome_line : JobOutcome → List ℕ
outcome_line (Done o) = finish_line o.finished
outcome_line NoMemory = codes "end no memory" ++ 10 ∷ []

-- the bytes of a stream, and a line feed
abbrev pub stream_text : List ℕ → List ℕ
stream_text bytes = bytes ++ 10 ∷ []

-- a job that ran: the sizes, the bytes of stream 1, those of stream 2, and the end
abbrev pub ran_text : ℕ → JobEnd → List ℕ
ran_text number end =
    sizes_line number (length end.out) (length end.notes)
    ++ (stream_text end.out ++ (stream_text end.notes ++ outcome_line end.outcome))

abbrev pub job_text : ℕ → JobReport → List ℕ
job_text number Reports.TooLong = of_job number (codes " image too long" ++ 10 ∷ [])
job_text number (Reports.BadImage fault) = of_job number (codes " bad image: " ++ (fault_text fault ++ 10 ∷ []))
job_text number (Reports.Ran end) = ran_text number end

-- the texts of the jobs from this number on
abbrev pub texts_from : ℕ → List JobReport → List ℕ
texts_from number [] = []
texts_from number (report ∷ rest) = job_text number report ++ texts_from (number + 1) rest

abbrev pub jobs_text : List JobReport → List ℕ
jobs_text jobs = texts_from 0 jobs
