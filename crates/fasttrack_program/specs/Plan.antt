-- What a call of the program is to do, from its words and from what it reads
use Rattle.std.specs.Prelude.{ℕ, nat_lt, min, Bool, true, false, not, ◌&&◌, if◌then◌else◌, List, [], length, map, Option, Some, None, Result, Ok, Err}
use Rattle.elf32_loader.specs.declared.fault.ImageFault.{ImageFault}
use Rattle.elf32_loader.specs.declared.fault.ImageFault.TheVariants as F
use Rattle.guest_model.specs.Image.{Image, image}
use Rattle.guest_model.specs.ImageFault.{Fault, Short, Magic, Class, ByteOrder, Version, Kind, Machine, Headers, Dynamic, BadSegment, Overlap, StackOverlap, TooLarge, Entry}
use Rattle.job_listing.specs.Lists.{names_in}
use Rattle.program_words.specs.CommandLine.{Request}
use Rattle.program_words.specs.declared.request.Task.{Task}
use Rattle.program_words.specs.declared.request.Task.TheVariants as Tasks
use Rattle.program_words.specs.declared.request.Task.TheVariants.{Alone, Fast, Run, Trial, Explain, Bench, Check, Batch as BatchTask, At, Pack}
use Rattle.speculation.specs.declared.history.Settings.{Settings}
use Rattle.rv32_asm.specs.Generated.{generated}
use Rattle.fasttrack_program.specs.Jobs.{Batch}
use Rattle.fasttrack_program.specs.Promise.{Given, Promise, promise_of, settings_of}
use Rattle.fasttrack_program.specs.Showing.{Showing, OfJournal, OfStates, OfWords, OfText}
use Rattle.fasttrack_program.specs.declared.answer.Answer.{Answer}
use Rattle.fasttrack_program.specs.declared.answer.Answer.TheVariants.{Usage, ImageTooLong, BadImage, InputTooLong, JournalTooLong, BadList}
use Rattle.fasttrack_program.specs.declared.options.Options.{Options}

-- the call is refused with this answer, or a promise is kept, or a text is shown, or the jobs of a batch are run
pub data Plan : Type 0 where
  Refused : Answer → Plan
  Does : Promise → Given → Plan
  Shows : Showing → Plan
  Runs : Batch → Plan

-- the bytes of the file that IMAGE names, those of the input, those of the file of `--with`, and, where the first file is a
-- list, those of each file that it names
pub record Found : Type 0 where
  pub file : List ℕ
  pub input : List ℕ
  pub beside : List ℕ
  pub images : List (List ℕ)

abbrev pub options_of : Request → Options
options_of r = record { tracks = r.tracks; workers = r.workers; budget = r.budget; report = r.report; journal = r.journal }

-- ---- tasks

-- the tasks that show a text of what they read
abbrev pub shows : Task → Bool
shows Check = true
shows At = true
shows Tasks.List = true
shows Pack = true
shows _ = false

-- the tasks that run the guest of an image file
abbrev pub runs_file : Task → Bool
runs_file Alone = true
runs_file Fast = true
runs_file Run = true
runs_file Trial = true
runs_file Explain = true
runs_file _ = false

-- the tasks that run one guest, and keep a promise
abbrev pub runs_guest : Task → Bool
runs_guest (Bench number) = true
runs_guest task = runs_file task

-- ---- what is read

-- what a task reads: the file that IMAGE names, the input, and the file of `--with` or those that a list names, in this order
abbrev pub takes_file : Task → Bool
takes_file (Bench number) = false
takes_file _ = true

abbrev pub takes_input : Task → Bool
takes_input (Bench number) = false
takes_input Tasks.List = false
takes_input Pack = false
takes_input _ = true

abbrev pub takes_beside : Task → Bool
takes_beside Check = true
takes_beside At = true
takes_beside _ = false

-- whether there are files that are read behind the input
abbrev pub takes_more : Task → Bool
takes_more BatchTask = true
takes_more task = takes_beside task

-- whether IMAGE is an image, and the input is read behind it
abbrev pub takes_program : Task → Bool
takes_program BatchTask = false
takes_program task = takes_input task

-- whether the words ask for each of them
abbrev pub reads_file : Option Request → Bool
reads_file None = false
reads_file (Some r) = takes_file r.task

abbrev pub reads_input : Option Request → Bool
reads_input None = false
reads_input (Some r) = takes_input r.task && not r.no_input

abbrev pub reads_more : Option Request → Bool
reads_more None = false
reads_more (Some r) = takes_more r.task

-- the most bytes of an image file and of an input
abbrev pub image_limit : ℕ
image_limit = 33554432

abbrev pub input_limit : ℕ
input_limit = 16777216

-- and of a journal
abbrev pub journal_limit : ℕ
journal_limit = 33554432

-- a fault of an image, as an answer names it
abbrev pub named_fault : Fault → ImageFault
named_fault Short = F.Short
named_fault Magic = F.Magic
named_fault Class = F.Class
named_fault ByteOrder = F.ByteOrder
named_fault Version = F.Version
named_fault Kind = F.Kind
named_fault Machine = F.Machine
named_fault Headers = F.Headers
named_fault (Dynamic i) = F.Dynamic i
named_fault (BadSegment i) = F.Segment i
named_fault (Overlap i j) = F.Overlap i j
named_fault (StackOverlap i) = F.StackOverlap i
named_fault TooLarge = F.TooLarge
named_fault Entry = F.Entry

abbrev pub unless_bad : Result Image Fault → Result Image Answer
unless_bad (Ok i) = Ok i
unless_bad (Err f) = Err (BadImage (named_fault f))

-- the image in a file, whose length is looked at first, or the answer that refuses the file
abbrev pub image_in : List ℕ → Result Image Answer
image_in file = if nat_lt image_limit (length file) then Err ImageTooLong else unless_bad (image file)

-- the names in a list, or the answer that refuses it
abbrev pub unless_none : Option (List (List ℕ)) → Result (List (List ℕ)) Answer
unless_none None = Err BadList
unless_none (Some names) = Ok names

abbrev pub list_in : List ℕ → Result (List (List ℕ)) Answer
list_in file = unless_none (names_in file)

-- the image of the program for benches of this number, and the regions that it has
abbrev pub bench_regions : ℕ
bench_regions = 64

abbrev pub bench_image : ℕ → Result Image Answer
bench_image number = unless_bad (image (generated number bench_regions))

-- bytes of at most so many, or the answer that refuses them by their length
abbrev pub bytes_in : ℕ → Answer → List ℕ → Result (List ℕ) Answer
bytes_in limit too_long bytes = if nat_lt limit (length bytes) then Err too_long else Ok bytes

-- the input that the guest gets, or the answer that refuses it: none where it is not read
abbrev pub input_in : Bool → List ℕ → Result (List ℕ) Answer
input_in false input = Ok []
input_in true input = bytes_in input_limit InputTooLong input

-- the journal in the file of `--with`, or the answer that refuses it
abbrev pub journal_in : List ℕ → Result (List ℕ) Answer
journal_in file = bytes_in journal_limit JournalTooLong file

-- ---- the plan

-- what is done with what was read, or the answer that refuses it
abbrev pub after : {A : Type 0} → Result A Answer → (A → Plan) → Plan
after (Ok x) next = next x
after (Err answer) next = Refused answer

-- the program of an image file: first the image, then the input
abbrev pub with_program : Request → Found → (Image → List ℕ → Plan) → Plan
with_program r found next = after (image_in found.file) (λ i. after (input_in (not r.no_input) found.input) (next i))

-- a task is done on a guest
abbrev pub guest_plan : Request → Image → List ℕ → Plan
guest_plan r i input = Does (promise_of r.task) (record { image = i; input = input; options = options_of r })

-- a journal of a program is checked
abbrev pub journal_plan : Request → Found → Image → List ℕ → Plan
journal_plan r found i input = after (journal_in found.beside) (λ journal. Shows (OfJournal i input (settings_of (options_of r)) journal))

-- each job of a batch has at most two open regions, so that the boards of all jobs are small
abbrev pub most_job_tracks : ℕ
most_job_tracks = 2

abbrev pub job_settings : Request → Settings
job_settings r = record { tracks = min r.tracks most_job_tracks; budget = r.budget }

-- a job for each file that a list names
abbrev pub batch_of : Request → List (List ℕ) → List ℕ → Batch
batch_of r images input = record { jobs = map image_in images; input = input; settings = job_settings r; workers = r.workers }

-- first the list, then the input; a file that is no image stops no other job
abbrev pub batch_plan : Request → Found → Plan
batch_plan r found = after (list_in found.file) (λ names. after (input_in (not r.no_input) found.input) (λ input. Runs (batch_of r found.images input)))

-- a bench reads nothing
abbrev pub plan_for : Task → Request → Found → Plan
plan_for (Bench number) r found = after (bench_image number) (λ i. guest_plan r i [])
plan_for Check r found = with_program r found (journal_plan r found)
plan_for BatchTask r found = batch_plan r found
plan_for At r found = with_program r found (λ i input. Shows (OfStates i input found.beside))
plan_for Tasks.List r found = after (image_in found.file) (λ i. Shows (OfWords i))
plan_for Pack r found = Shows (OfText found.file)
plan_for _ r found = with_program r found (guest_plan r)

-- The first that refuses decides: words, the file that IMAGE names, input, the file of `--with`. A file that a list names
-- refuses nothing.
abbrev pub plan : Option Request → Found → Plan
plan None found = Refused Usage
plan (Some r) found = plan_for r.task r found
