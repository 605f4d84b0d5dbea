-- What is found for a request before its task is begun: what it is done on, or why there is none
use Rattle.std.specs.Prelude.{◌≡◌, ℕ, Bool, not, List, [], ◌∷◌, ◌++◌, Option, Some, None, String, Vec, map, string_bytes, Result, Ok, Err, ◌⊎◌}
use Rattle.std.specs.List.{AllZip, filter_map}
use Rattle.guest_model.specs.Image.{Image}
use Rattle.host_io.specs.declared.files.Files.{Ghosts as FilesRow}
use Rattle.host_io.specs.declared.source.Source.{Ghosts as SourceRow}
use Rattle.elf32_loader.specs.LoadedImage.{image_of_loaded}
use Rattle.job_listing.specs.declared.report.JobStart.{JobStart}
use Rattle.job_listing.specs.declared.report.JobStart.TheVariants as Starts
use Rattle.program_words.specs.CommandLine.{Request}
use Rattle.speculation.specs.declared.history.Settings.{Settings}
use Rattle.track_board.specs.Value.{Posted}
use Rattle.fasttrack_program.specs.Jobs.{IsBoardOf}
use Rattle.fasttrack_program.specs.Plan.{Found, Plan, Refused, Does, Shows, Runs, batch_of, bytes_in, image_in, input_in, job_settings, options_of, plan}
use Rattle.fasttrack_program.specs.Promise.{promise_of, settings_of}
use Rattle.fasttrack_program.specs.Reading.{Known, AgreesWith, Agrees, IsUnread, IsLate, Reads, ReadsInOrder}
use Rattle.fasttrack_program.specs.Showing.{Showing, OfJournal, OfStates, OfWords, OfText, Tells}
use Rattle.fasttrack_program.specs.Tracks.{given_of}
use Rattle.fasttrack_program.specs.declared.answer.Answer.{Answer}
use Rattle.fasttrack_program.specs.declared.answer.Answer.TheVariants.{ImageTooLong, BadImage}
use Rattle.fasttrack_program.specs.declared.guest.LoadedGuest.{LoadedGuest}
use Rattle.fasttrack_program.specs.declared.jobs.FoundJobs.{FoundJobs}
use Rattle.fasttrack_program.specs.declared.options.Options.{Options}
use Rattle.fasttrack_program.specs.declared.subject.Subject.{Subject}
use Rattle.fasttrack_program.specs.declared.subject.Subject.TheVariants.{Journal, States, Words, Text}

-- ---- a guest

-- The program of the image file, and of the input, if it is wanted; or the answer that refuses one of them. Else they could
-- not be read.
abbrev pub FindsProgram : Bool → Known → Result LoadedGuest Answer → Type 0
FindsProgram wanted known (Ok guest) =
    Reads image_in known.file (Ok (image_of_loaded guest.loaded)) × Reads (input_in wanted) known.input (Ok guest.input)
FindsProgram wanted known (Err answer) =
    Reads {A = Image} image_in known.file (Err answer)
    ⊎ ((i : Image) × Reads image_in known.file (Ok i) × Reads {A = List ℕ} (input_in wanted) known.input (Err answer))

-- The guest of the plan for some file and some input, which are those that are known, where they are known; or the answer
-- with which the plan refuses them. Else a read failed, or memory ran out.
abbrev pub FindsGuest : Request → Known → Result LoadedGuest Answer → Type 0
FindsGuest r known (Ok guest) = (found : Found) × AgreesWith known found
    × (plan (Some r) found ≡ Does (promise_of r.task) (given_of guest.loaded guest.input (options_of r)))
FindsGuest r known (Err answer) = IsUnread answer ⊎ ((found : Found) × AgreesWith known found × (plan (Some r) found ≡ Refused answer))

-- ---- what a task that shows a text is done on

-- the program, and the bytes of the file of `--with`, of at most so many; or the answer that refuses one of them
abbrev pub FindsBoth : ℕ → Answer → Request → Known → Result (LoadedGuest × List ℕ) Answer → Type 0
FindsBoth limit too_long r known (Ok both) =
    FindsProgram (not r.no_input) known (Ok both.0) × Reads (bytes_in limit too_long) known.beside (Ok both.1)
FindsBoth limit too_long r known (Err answer) =
    FindsProgram (not r.no_input) known (Err answer)
    ⊎ ((guest : LoadedGuest) × FindsProgram (not r.no_input) known (Ok guest) × Reads {A = List ℕ} (bytes_in limit too_long) known.beside (Err answer))

-- a subject as the plans speak of it
abbrev pub showing_of : Options → Subject → Showing
showing_of o (Journal guest journal) = OfJournal (image_of_loaded guest.loaded) guest.input (settings_of o) journal
showing_of o (States guest counts) = OfStates (image_of_loaded guest.loaded) guest.input counts
showing_of o (Words loaded) = OfWords (image_of_loaded loaded)
showing_of o (Text text) = OfText text

-- the plan refuses with this answer, or what it shows does
abbrev pub IsRefusedBy : Plan → Answer → Type 0
IsRefusedBy (Refused refusal) answer = answer ≡ refusal
IsRefusedBy (Does p g) answer = ⊥
IsRefusedBy (Shows x) answer = Tells x (Err answer)
IsRefusedBy (Runs b) answer = ⊥

-- the same as for a guest
abbrev pub FindsSubject : Request → Known → Result Subject Answer → Type 0
FindsSubject r known (Ok subject) = (found : Found) × AgreesWith known found × (plan (Some r) found ≡ Shows (showing_of (options_of r) subject))
FindsSubject r known (Err answer) = IsUnread answer ⊎ ((found : Found) × AgreesWith known found × IsRefusedBy (plan (Some r) found) answer)

-- ---- the jobs of a batch

-- a job whose image is refused names the refusal, and each other one runs
abbrev pub start_refusal : JobStart → Option Answer
start_refusal Starts.TooLong = Some ImageTooLong
start_refusal (Starts.BadImage fault) = Some (BadImage fault)
start_refusal Starts.Runs = None

abbrev pub IsStartOf : Result Image Answer → JobStart → Type 0
IsStartOf (Ok i) start = start ≡ Starts.Runs
IsStartOf (Err answer) start = start_refusal start ≡ Some answer

-- the images that are not refused
abbrev pub ok_image : Result Image Answer → Option Image
ok_image (Ok i) = Some i
ok_image (Err answer) = None

abbrev pub images_in : List (Result Image Answer) → List Image
images_in jobs = filter_map ok_image jobs

-- each job has a start, and each that runs a board of its image
pub record Stands (settings : Settings) (input : List ℕ) (jobs : List (Result Image Answer)) (starts : List JobStart) (boards : List Posted) : Type 0 where
  pub starts_are : AllZip IsStartOf jobs starts
  pub boards_are : AllZip (IsBoardOf settings input) (images_in jobs) boards

-- the files of these names were read, and the jobs stand for what was in them
pub record StandsFor (settings : Settings) (input : List ℕ) (named : List ℕ → Option (List ℕ)) (names : List (List ℕ)) (jobs : FoundJobs) : Type 0 where
  pub images : List (List ℕ)
  pub are_named : AllZip (λ name bytes. Agrees (named name) bytes) names images
  pub stands : Stands settings input (map image_in images) jobs.starts.items jobs.boards.items

abbrev pub ReadsJobs : Settings → List ℕ → (List ℕ → Option (List ℕ)) → List (List ℕ) → Result FoundJobs Answer → Type 0
ReadsJobs settings input named names (Ok jobs) = StandsFor settings input named names jobs
ReadsJobs settings input named names (Err answer) = IsUnread answer

-- the file of one name more was read, and its job was added
abbrev pub AddsJob : Settings → List ℕ → Option (List ℕ) → (old new : FoundJobs) → Result (Unit {0}) Answer → Type 0
AddsJob settings input known old new (Ok _) = (bytes : List ℕ) × Agrees known bytes
    × ((jobs : List (Result Image Answer)) → Stands settings input jobs old.starts.items old.boards.items → Stands settings input (jobs ++ image_in bytes ∷ []) new.starts.items new.boards.items)
AddsJob settings input known old new (Err answer) = IsUnread answer

-- a list that was read, by its names
abbrev pub listed : {A Z : Type 0} → Result (Vec (String Z) A) Answer → Result (List (List ℕ)) Answer
listed (Ok names) = Ok (map string_bytes names.items)
listed (Err answer) = Err answer

-- The jobs of the plan for some list, input and images, which are those that are known, where they are known; or the answer
-- with which the plan refuses the list or the input. Else a read failed, or memory ran out.
abbrev pub FindsJobs : Request → Known → Result FoundJobs Answer → Type 0
FindsJobs r known (Ok jobs) = (found : Found) × AgreesWith known found × ((input : List ℕ)
    × (plan (Some r) found ≡ Runs (batch_of r found.images input)) × Stands (job_settings r) input (map image_in found.images) jobs.starts.items jobs.boards.items)
FindsJobs r known (Err answer) = IsUnread answer ⊎ ((found : Found) × AgreesWith known found × (plan (Some r) found ≡ Refused answer))

-- ---- reads

-- What was read for a task, in its order: whatever the answer of the task is, which is none of those that reading gives; or
-- the answer that refuses.
abbrev pub ReadsFor : {F I A : Type 0} → FilesRow F → SourceRow I → Request → (files files' : F) → (input input' : I) → Result A Answer → Type 0
ReadsFor f i r files files' input input' (Ok _) = (answer : Answer) → IsLate answer → ReadsInOrder f i (Some r) files files' input input' answer
ReadsFor f i r files files' input input' (Err answer) = ReadsInOrder f i (Some r) files files' input input' answer
