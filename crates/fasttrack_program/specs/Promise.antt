-- What a task promises: one record a task
use Rattle.std.specs.Prelude.{◌≡◌, ℕ, Bool, true, false, if◌then◌else◌, List, [], ◌++◌}
use Rattle.speculation.specs.declared.history.Entry.{Entry}
use Rattle.speculation.specs.declared.history.Settings.{Settings}
use Rattle.speculation.specs.Record.{Ran, output_of}
use Rattle.speculation.specs.Run.{Mark, marked}
use Rattle.guest_model.specs.Image.{Image, program_alone, start_of}
use Rattle.guest_model.specs.MachineState.{MachineState}
use Rattle.guest_model.specs.Rv32.{rv32}
use Rattle.guest_model.specs.declared.end.End.{End}
use Rattle.guest_streams.specs.GuestStreams.{end_of}
use Rattle.region_account.specs.Explanation.{explanation}
use Rattle.worker_gate.specs.Histories.{IsRunHistory}
use Rattle.program_words.specs.declared.request.Task.{Task}
use Rattle.program_words.specs.declared.request.Task.TheVariants as Tasks
use Rattle.program_words.specs.declared.request.Task.TheVariants.{Alone, Fast, Run, Trial, Explain, Bench, Check, Batch, At, Pack}
use Rattle.fasttrack_program.specs.Answers.{answer_of}
use Rattle.fasttrack_program.specs.FastProgram.{Place, program_fast}
use Rattle.journal_check.specs.Journals.{journal_text}
use Rattle.fasttrack_program.specs.Reports.{program_report, bench_report}
use Rattle.fasttrack_program.specs.declared.options.Options.{Options}
use Rattle.fasttrack_program.specs.declared.answer.Answer.{Answer}
use Rattle.fasttrack_program.specs.declared.answer.Answer.TheVariants.{Shown}

-- what a task is done on: the guest of an image with an input, by these options
pub record Given : Type 0 where
  pub image : Image
  pub input : List ℕ
  pub options : Options

-- Stream 1 of what a task writes goes to `out`, stream 2 to `notes`.
pub record Promise : Type 0 where
  -- whether it is done with tracks, whose history it hands out
  pub has_tracks : Bool
  -- all that it writes, where its history has these entries
  pub writes : Given → List Entry → List Mark
  -- what it answers then
  pub answer : Given → Answer

-- the program of the guest alone, within the budget, and its own end
abbrev pub alone_on : Given → Ran MachineState End
alone_on g = program_alone g.image g.input g.options.budget

abbrev pub own_end : Given → Answer
own_end g = answer_of (end_of (alone_on g).end)

-- the same with its fast versions alone
abbrev pub fast_on : Given → Ran Place End
fast_on g = program_fast g.image g.input g.options.budget

-- the texts that are asked for behind the guest's output: the report, then the journal of these entries
abbrev pub texts_behind : Given → List Entry → List ℕ
texts_behind g entries =
    (if g.options.report then program_report g.image g.input g.options.budget else []) ++ (if g.options.journal then journal_text entries else [])

-- A task that shows a text, or runs a batch, has no such promise: its plan says what it does.
abbrev pub no_promise : Promise
no_promise = record {
  has_tracks = false;
  writes = λ g entries. [];
  answer = λ g. Shown;
}

-- `alone` and `run` pass on the output of the program alone, `run` with the texts behind it, and end as the program does.
-- `fast` does the same of the program with its fast versions alone.
-- `trial`, `explain` and `bench` drop the output, and write a report or an explanation instead.
abbrev pub promise_of : Task → Promise
promise_of Alone = record {
  has_tracks = false;
  writes = λ g entries. output_of (alone_on g);
  answer = own_end;
}
promise_of Fast = record {
  has_tracks = false;
  writes = λ g entries. output_of (fast_on g);
  answer = λ g. answer_of (end_of (fast_on g).end);
}
promise_of Run = record {
  has_tracks = true;
  writes = λ g entries. output_of (alone_on g) ++ marked 2 (texts_behind g entries);
  answer = own_end;
}
promise_of Trial = record {
  has_tracks = false;
  writes = λ g entries. marked 1 (program_report g.image g.input g.options.budget);
  answer = λ g. Shown;
}
promise_of Explain = record {
  has_tracks = false;
  writes = λ g entries. marked 1 (explanation g.image g.input g.options.budget);
  answer = λ g. Shown;
}
promise_of (Bench number) = record {
  has_tracks = true;
  writes = λ g entries. marked 1 (bench_report number g.image g.input g.options.budget);
  answer = λ g. Shown;
}
promise_of Check = no_promise
promise_of Batch = no_promise
promise_of At = no_promise
promise_of Tasks.List = no_promise
promise_of Pack = no_promise

-- ---- the history of a task

-- the settings of a board for these options
abbrev pub settings_of : Options → Settings
settings_of o = record { tracks = o.tracks; budget = o.budget }

-- The entries are a history of the guest by as many workers as the options say, where there are tracks; else there are
-- none. Without workers it is the serial history. With workers it is a legal one that has a finish, whose loans went to
-- seats up to the number of workers.
abbrev pub IsHistory : Bool → Given → List Entry → Type 0
IsHistory true g entries = IsRunHistory g.options.workers (rv32 g.input) (settings_of g.options) (start_of g.image) entries
IsHistory false g entries = entries ≡ []
