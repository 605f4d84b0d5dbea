-- The jobs of a batch: what each is done on, and what is reported of it
use Rattle.std.specs.Prelude.{◌≡◌, ℕ, List, [], ◌++◌, Option, Some, None, Result, Ok, Err}
use Rattle.std.specs.List.{AllZip, filter_map}
use Rattle.speculation.specs.declared.history.Entry.{Entry}
use Rattle.speculation.specs.declared.history.Settings.{Settings}
use Rattle.speculation.specs.Ledger.{ledger}
use Rattle.speculation.specs.Record.{Ran, output_of}
use Rattle.speculation.specs.Run.{Mark, stream_bytes}
use Rattle.guest_model.specs.Image.{Image, program_alone, start_of}
use Rattle.guest_model.specs.MachineState.{MachineState}
use Rattle.guest_model.specs.Rv32.{rv32}
use Rattle.guest_model.specs.declared.end.End.{End}
use Rattle.guest_streams.specs.GuestStreams.{end_of}
use Rattle.region_ledger.specs.Ledger.{ledger_rows}
use Rattle.region_ledger.specs.declared.finished.Finished.{Finished}
use Rattle.track_board.specs.declared.outcome.Outcome.{Outcome}
use Rattle.worker_gate.specs.Histories.{IsWorked}
use Rattle.elf32_loader.specs.LoadedImage.{image_of_loaded}
use Rattle.track_board.specs.Value.{Posted}
use Rattle.job_batch.specs.Ends.{IsEndOf}
use Rattle.job_batch.specs.declared.ends.JobEnd.{JobEnd}
use Rattle.job_batch.specs.declared.ends.JobOutcome.{JobOutcome}
use Rattle.job_batch.specs.declared.ends.JobOutcome.TheVariants as Outcomes
use Rattle.job_listing.specs.declared.report.JobReport.{JobReport}
use Rattle.job_listing.specs.declared.report.JobReport.TheVariants as Reports
use Rattle.fasttrack_program.specs.declared.answer.Answer.{Answer}
use Rattle.fasttrack_program.specs.declared.answer.Answer.TheVariants.{ImageTooLong, BadImage}

-- For each job its image, or the answer that refuses it; what follows is the same for all of them.
pub record Batch : Type 0 where
  pub jobs : List (Result Image Answer)
  pub input : List ℕ
  pub settings : Settings
  pub workers : ℕ

-- ---- what becomes of a job

-- a board of this image, by these settings and with this input, on which nothing has happened yet
pub record IsBoardOf (settings : Settings) (input : List ℕ) (i : Image) (v : Posted) : Type 0 where
  pub settings_are : v.settings ≡ settings
  pub image : image_of_loaded v.loaded ≡ i
  pub input_is : v.input ≡ input
  pub fresh : v.entries ≡ []

-- an end of the program of this image alone, whatever the other jobs are
pub record IsEndFor (b : Batch) (i : Image) (e : JobEnd) : Type 0 where
  pub board : Posted
  pub is_board : IsBoardOf b.settings b.input i board
  pub ends : IsEndOf b.workers board e

-- the answer that a report names, where its job did not run
abbrev pub refusal_in : JobReport → Option Answer
refusal_in Reports.TooLong = Some ImageTooLong
refusal_in (Reports.BadImage fault) = Some (BadImage fault)
refusal_in (Reports.Ran e) = None

-- An image is run, and its report tells an end of its program. What refuses an image is named by the report.
abbrev pub IsReportOf : Batch → Result Image Answer → JobReport → Type 0
IsReportOf b (Ok i) (Reports.Ran e) = IsEndFor b i e
IsReportOf b (Ok i) report = ⊥
IsReportOf b (Err answer) report = refusal_in report ≡ Some answer

-- a report for each job, in their order
abbrev pub AreReports : Batch → List JobReport → Type 0
AreReports b reports = AllZip (IsReportOf b) b.jobs reports

-- ---- histories

-- the entries of a job that is done
abbrev pub history_of_end : JobOutcome → Option (List Entry)
history_of_end (Outcomes.Done o) = Some o.entries
history_of_end Outcomes.NoMemory = None

abbrev pub history_in : JobReport → Option (List Entry)
history_in Reports.TooLong = None
history_in (Reports.BadImage fault) = None
history_in (Reports.Ran e) = history_of_end e.outcome

-- those of all jobs that are done, in the order of the jobs
abbrev pub histories_of_jobs : List JobReport → List (List Entry)
histories_of_jobs reports = filter_map history_in reports

-- ---- ends, said of the program of an image by itself

-- the program of an image of this batch, alone within the budget
abbrev pub job_alone : Batch → Image → Ran MachineState End
job_alone b i = program_alone i b.input b.settings.budget

-- The bytes of a job that is done are all that its program alone writes; its end, count and rows are those of the program; and
-- its entries are a legal history with a finish, whose loans went to seats up to the number of workers.
pub record IsOwnEnd (b : Batch) (i : Image) (e : JobEnd) (o : Outcome) : Type 0 where
  pub on_out : e.out ≡ stream_bytes 1 (output_of (job_alone b i))
  pub on_notes : e.notes ≡ stream_bytes 2 (output_of (job_alone b i))
  pub finished : Finished
  pub finish : o.finished ≡ Some finished
  pub end : finished.end ≡ end_of (job_alone b i).end
  pub count : finished.count ≡ (job_alone b i).count
  pub rows : ledger_rows o.rows ≡ ledger (rv32 b.input) (start_of i) b.settings.budget
  pub history : IsWorked b.workers (rv32 b.input) b.settings (start_of i) o.entries

-- the bytes of any job are a beginning of what its program alone writes
pub record IsOwnPart (b : Batch) (i : Image) (e : JobEnd) : Type 0 where
  pub got : List Mark
  pub rest : List Mark
  pub parts : got ++ rest ≡ output_of (job_alone b i)
  pub on_out : e.out ≡ stream_bytes 1 got
  pub on_notes : e.notes ≡ stream_bytes 2 got
