-- What a task that shows a text is done on, and the plan of the call
use Rattle.std.proofs.Common.{◌≡◌, ℕ, ◌<◌, Bool, true, false, List, length, Some, Result, Ok, Err, ◌⊎◌, inl, inr, refl, sym, ap, ◌∙◌, subst}
use Rattle.std.specs.Prelude.{nat_lt, not, if◌then◌else◌, IfSome}
use Rattle.std.proofs.lemmas.Bool.{ltb-true}
use Rattle.elf32_loader.specs.LoadedImage.{image_of_loaded}
use Rattle.elf32_loader.specs.declared.loaded.Loaded.{Loaded}
use Rattle.guest_model.specs.Image.{Image}
use Rattle.guest_streams.specs.GuestStreams.{Sinks}
use Rattle.program_words.specs.CommandLine.{Request}
use Rattle.program_words.specs.declared.request.Task.TheVariants as Tasks
use Rattle.state_listing.specs.Counts.{TooLong}
use Rattle.fasttrack_program.specs.declared.answer.Answer.{Answer}
use Rattle.fasttrack_program.specs.declared.answer.Answer.TheVariants.{JournalTooLong, BadCounts, BadText}
use Rattle.fasttrack_program.specs.declared.guest.LoadedGuest.{LoadedGuest}
use Rattle.fasttrack_program.specs.declared.options.Options.{Options}
use Rattle.fasttrack_program.specs.declared.served.Served.{Served}
use Rattle.fasttrack_program.specs.declared.subject.Subject.{Subject}
use Rattle.fasttrack_program.specs.declared.subject.Subject.TheVariants.{Journal, States, Words, Text}
use Rattle.fasttrack_program.specs.Finding.{FindsProgram, FindsBoth, FindsSubject, IsRefusedBy, showing_of}
use Rattle.fasttrack_program.specs.Plan.{Plan, Refused, Does, Shows, Runs, Found, options_of, bytes_in, image_in, journal_limit, after, with_program, journal_plan, plan}
use Rattle.fasttrack_program.specs.Promise.{settings_of}
use Rattle.fasttrack_program.specs.Reading.{Known, AgreesWith, IsUnread, Reads}
use Rattle.fasttrack_program.specs.Serving.{plainly, IsShown, Keeps, IsServed}
use Rattle.fasttrack_program.specs.Showing.{OfJournal, OfStates, OfWords, OfText}
use Rattle.fasttrack_program.proofs.OnPlans.{found_file, agrees_file, some_images, some_named, plan-by, with-both, program-refused, served-plan, served-unread}

-- ---- calls that were served

-- a subject whose text was shown by the options of the request
pub served-subject : (r : Request) (o : Options) (known : Known) (subject : Subject) (old new : Sinks) (v : Served) → o ≡ options_of r → FindsSubject r known (Ok subject)
    → IsShown (showing_of o subject) old new v → IsServed (Some r) known old new v
served-subject r o known subject old new v is h done =
    served-plan (Some r) known h.0 (Shows (showing_of (options_of r) subject)) old new v h.1 h.2 (subst (λ x. IsShown (showing_of x subject) old new v) is done)

keeps-refusal : (p : Plan) (a : Answer) (s : Sinks) → IsRefusedBy p a → Keeps p s s (plainly a)
keeps-refusal (Refused answer) a s h = (ap plainly h, refl)
keeps-refusal (Does p g) a s h = absurd h
keeps-refusal (Shows x) a s h = inr (inl (a, h, refl, refl))
keeps-refusal (Runs b) a s h = absurd h

-- none was found
pub served-no_subject : (r : Request) (known : Known) (a : Answer) (s : Sinks) → FindsSubject r known (Err a) → IsServed (Some r) known s s (plainly a)
served-no_subject r known a s (inl unread) = served-unread (Some r) known s a unread
served-no_subject r known a s (inr h) =
    record { found = h.0; agrees = h.1; keeps = inr (keeps-refusal (plan (Some r) h.0) a s h.2) }

-- ---- bytes beyond their limit

too-long_by : (limit : ℕ) (too_long a : Answer) (bytes : List ℕ) (b : Bool) → nat_lt limit (length bytes) ≡ b → ◌≡◌ {A = Result (List ℕ) Answer} (if b then Err too_long else Ok bytes) (Err a)
    → (a ≡ too_long) × (limit < length bytes)
too-long_by limit too_long a bytes true is e = (cc, ltb-true limit (length bytes) is)
too-long_by limit too_long a bytes false is e = absurd (cc)

pub too-long : (limit : ℕ) (too_long a : Answer) (bytes : List ℕ) → bytes_in limit too_long bytes ≡ Err a → (a ≡ too_long) × (limit < length bytes)
too-long limit too_long a bytes e = too-long_by limit too_long a bytes (nat_lt limit (length bytes)) refl e

pub within : (limit : ℕ) (too_long : Answer) (bytes taken : List ℕ) → bytes_in limit too_long bytes ≡ Ok taken → bytes ≡ taken
within limit too_long bytes taken e = by (nat_lt limit (length bytes)) e
  where
    by : (b : Bool) → ◌≡◌ {A = Result (List ℕ) Answer} (if b then Err too_long else Ok bytes) (Ok taken) → bytes ≡ taken
    by true h = absurd (cc)
    by false h = cc

-- ---- what is found for a request

-- the answer refuses, where this is the plan
refused-by : (r : Request) (known : Known) (found : Found) (p : Plan) (a : Answer) → AgreesWith known found → plan (Some r) found ≡ p → IsRefusedBy p a → FindsSubject r known (Err a)
refused-by r known found p a agrees e h = inr (found, agrees, subst (λ q. IsRefusedBy q a) (sym e) h)

-- the image or the input was refused
program-none : (r : Request) (known : Known) (a : Answer) (next : Found → Image → List ℕ → Plan) → ((found : Found) → plan (Some r) found ≡ with_program r found (next found))
    → FindsProgram (not r.no_input) known (Err a) → FindsSubject r known (Err a)
program-none r known a next is h = refused (program-refused r known a h)
  where
    refused : IsUnread a ⊎ ((found : Found) × AgreesWith known found × ((next : Image → List ℕ → Plan) → with_program r found next ≡ Refused a)) → FindsSubject r known (Err a)
    refused (inl unread) = inl unread
    refused (inr k) = refused-by r known k.0 (Refused a) a k.1 (is k.0 ∙ k.2 (next k.0)) refl

-- a task that also reads the file of `--with`
module _ (r : Request) (known : Known) (next : Found → Image → List ℕ → Plan) (is : (found : Found) → plan (Some r) found ≡ with_program r found (next found)) (guest : LoadedGuest)
    (program : FindsProgram (not r.no_input) known (Ok guest)) where
  all_found : List ℕ → Found
  all_found bytes = record { file = program.0.0; input = program.1.0; beside = bytes; images = some_images known program.0.0 }

  both-plan : (bytes : List ℕ) → plan (Some r) (all_found bytes) ≡ next (all_found bytes) (image_of_loaded guest.loaded) guest.input
  unfolding all_found
  both-plan bytes = is (all_found bytes) ∙ with-both r (all_found bytes) (next (all_found bytes)) (image_of_loaded guest.loaded) guest.input program.0.2 program.1.2

  both-found : (bytes : List ℕ) → IfSome known.beside (λ all. bytes ≡ all) → AgreesWith known (all_found bytes)
  unfolding all_found
  both-found bytes agrees = record { file = program.0.1; input = program.1.1; beside = agrees; images = some_named known program.0.0 }

  -- the file of `--with` was read
  both-some : (bytes : List ℕ) (subject : Subject) → IfSome known.beside (λ all. bytes ≡ all)
      → next (all_found bytes) (image_of_loaded guest.loaded) guest.input ≡ Shows (showing_of (options_of r) subject) → FindsSubject r known (Ok subject)
  both-some bytes subject agrees e = (all_found bytes, both-found bytes agrees, both-plan bytes ∙ e)

  -- it was refused
  both-none : (bytes : List ℕ) (p : Plan) (a : Answer) → IfSome known.beside (λ all. bytes ≡ all) → next (all_found bytes) (image_of_loaded guest.loaded) guest.input ≡ p → IsRefusedBy p a → FindsSubject r known (Err a)
  both-none bytes p a agrees e h = refused-by r known (all_found bytes) p a (both-found bytes agrees) (both-plan bytes ∙ e) h

-- a program and the bytes that were read with it, as a subject
abbrev pub as_subject : (LoadedGuest → List ℕ → Subject) → Result (LoadedGuest × List ℕ) Answer → Result Subject Answer
as_subject make (Ok both) = Ok (make both.0 both.1)
as_subject make (Err answer) = Err answer

-- a journal
module _ (r : Request) (known : Known) (task : r.task ≡ Tasks.Check) where
  shown_journal : Image → List ℕ → List ℕ → Plan
  shown_journal i input journal = Shows (OfJournal i input (settings_of (options_of r)) journal)

  pub finds-journal : (x : Result (LoadedGuest × List ℕ) Answer) → FindsBoth journal_limit JournalTooLong r known x → FindsSubject r known (as_subject Journal x)
  unfolding shown_journal all_found
  finds-journal (Ok (guest, journal)) (program, read) =
      both-some r known (journal_plan r) (λ found. plan-by r found Tasks.Check task) guest program read.0 (Journal guest journal) read.1
      (ap (λ x. after x (shown_journal (image_of_loaded guest.loaded) guest.input)) read.2)
  finds-journal (Err a) (inl none) = program-none r known a (journal_plan r) (λ found. plan-by r found Tasks.Check task) none
  finds-journal (Err a) (inr (guest, program, inl unread)) = inl unread
  finds-journal (Err a) (inr (guest, program, inr read)) =
      both-none r known (journal_plan r) (λ found. plan-by r found Tasks.Check task) guest program read.0 (Refused a) a read.1
      (ap (λ x. after x (shown_journal (image_of_loaded guest.loaded) guest.input)) read.2) refl

-- a file of counts
module _ (r : Request) (known : Known) (task : r.task ≡ Tasks.At) where
  shown_states : Found → Image → List ℕ → Plan
  shown_states found i input = Shows (OfStates i input found.beside)

  states-plan : (found : Found) → plan (Some r) found ≡ with_program r found (shown_states found)
  unfolding shown_states
  states-plan found = plan-by r found Tasks.At task

  pub finds-states : (x : Result (LoadedGuest × List ℕ) Answer) → FindsBoth 27648 (BadCounts 0) r known x → FindsSubject r known (as_subject States x)
  unfolding shown_states all_found
  finds-states (Ok (guest, counts)) (program, read) =
      both-some r known shown_states states-plan guest program read.0 (States guest counts) read.1
      (ap (λ xs. Shows (OfStates (image_of_loaded guest.loaded) guest.input xs)) (within 27648 (BadCounts 0) read.0 counts read.2))
  finds-states (Err a) (inl none) = program-none r known a shown_states states-plan none
  finds-states (Err a) (inr (guest, program, inl unread)) = inl unread
  finds-states (Err a) (inr (guest, program, inr read)) =
      let long = too-long 27648 (BadCounts 0) a read.0 read.2 in
      both-none r known shown_states states-plan guest program read.0 (Shows (OfStates (image_of_loaded guest.loaded) guest.input read.0)) a read.1 refl
      (0, TooLong long.1 refl, long.0)

-- an image
pub finds-words : (r : Request) (known : Known) (l : Loaded) → r.task ≡ Tasks.List → Reads image_in known.file (Ok (image_of_loaded l)) → FindsSubject r known (Ok (Words l))
finds-words r known l task read =
    let found = found_file known read.0 in
    (found, agrees_file known read.0 read.1, plan-by r found Tasks.List task ∙ ap (λ x. after x (λ i. Shows (OfWords i))) read.2)

pub finds-no_words : (r : Request) (known : Known) (a : Answer) → r.task ≡ Tasks.List → Reads {A = Image} image_in known.file (Err a) → FindsSubject r known (Err a)
finds-no_words r known a task (inl unread) = inl unread
finds-no_words r known a task (inr read) =
    let found = found_file known read.0 in
    refused-by r known found (Refused a) a (agrees_file known read.0 read.1) (plan-by r found Tasks.List task ∙ ap (λ x. after x (λ i. Shows (OfWords i))) read.2) refl

-- a text of words
module _ (r : Request) (known : Known) (task : r.task ≡ Tasks.Pack) where
  pub finds-text : (text : List ℕ) → Reads (bytes_in 2097152 (BadText (record { line = 0; place = 0 }))) known.file (Ok text) → FindsSubject r known (Ok (Text text))
  finds-text text read =
      let same = within 2097152 (BadText (record { line = 0; place = 0 })) read.0 text read.2 in
      (found_file known read.0, agrees_file known read.0 read.1, plan-by r (found_file known read.0) Tasks.Pack task ∙ ap (λ xs. Shows (OfText xs)) same)

  pub finds-no_text : (a : Answer) → Reads {A = List ℕ} (bytes_in 2097152 (BadText (record { line = 0; place = 0 }))) known.file (Err a) → FindsSubject r known (Err a)
  finds-no_text a (inl unread) = inl unread
  finds-no_text a (inr read) =
      let long = too-long 2097152 (BadText (record { line = 0; place = 0 })) a read.0 read.2 in
      refused-by r known (found_file known read.0) (Shows (OfText read.0)) a (agrees_file known read.0 read.1) (plan-by r (found_file known read.0) Tasks.Pack task)
      (record { line = 0; place = 0 }, inl (record { bytes = long.1; told = refl }), long.0)
