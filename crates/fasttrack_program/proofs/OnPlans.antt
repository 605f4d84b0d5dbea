-- From what was read and done to the plan of the call
use Rattle.std.proofs.Common.{◌≡◌, ℕ, ◌≤◌, Bool, true, false, List, [], ◌∷◌, length, map, Option, Some, None, Result, Ok, Err, ◌⊎◌, inl, inr, refl, sym, ap, ◌∙◌, subst, arith}
use Rattle.std.specs.Prelude.{nat_lt, IsTrue, not, if◌then◌else◌}
use Rattle.std.specs.List.{AllZip}
use Rattle.std.proofs.lemmas.Bool.Decides.{nat_tests}
use Rattle.elf32_loader.specs.LoadedImage.{image_of_loaded}
use Rattle.elf32_loader.specs.declared.loaded.Loaded.{Loaded}
use Rattle.guest_model.specs.Image.{Image, image}
use Rattle.guest_streams.specs.GuestStreams.{Sinks}
use Rattle.job_listing.specs.Lists.{names_in}
use Rattle.program_words.specs.CommandLine.{Request}
use Rattle.program_words.specs.declared.request.Task.{Task}
use Rattle.program_words.specs.declared.request.Task.TheVariants as Tasks
use Rattle.program_words.specs.declared.request.Task.TheVariants.{Alone, Fast, Run, Trial, Explain, Bench, Check, Batch, At, Pack}
use Rattle.fasttrack_program.specs.declared.served.Served.{Served}
use Rattle.fasttrack_program.specs.declared.answer.Answer.{Answer}
use Rattle.fasttrack_program.specs.declared.answer.Answer.TheVariants.{Usage}
use Rattle.rv32_asm.specs.Generated.{generated}
use Rattle.fasttrack_program.specs.declared.guest.LoadedGuest.{LoadedGuest}
use Rattle.fasttrack_program.specs.declared.options.Options.{Options}
use Rattle.fasttrack_program.specs.Finding.{FindsProgram, FindsGuest}
use Rattle.fasttrack_program.specs.Plan.{Plan, Refused, Does, Found, options_of, runs_file, runs_guest, takes_file, takes_input, takes_beside, takes_more, takes_program, bytes_in, image_in, image_limit, input_in, input_limit, after, with_program, guest_plan, unless_bad, bench_image, bench_regions, plan_for, plan}
use Rattle.fasttrack_program.specs.Promise.{promise_of}
use Rattle.fasttrack_program.specs.Reading.{Agrees, AreNamed, Holds, Known, AgreesWith, IsUnread}
use Rattle.fasttrack_program.specs.Serving.{plainly, KeepsPromise, Keeps, IsServed}
use Rattle.fasttrack_program.specs.TopCall.{IsRequest}
use Rattle.fasttrack_program.specs.Tracks.{given_of}
use Rattle.fasttrack_program.proofs.OnBenches.{bench-loads}

-- ---- some bytes that are as is known

pub some_bytes : Option (List ℕ) → List ℕ
some_bytes None = []
some_bytes (Some bytes) = bytes

pub some_agree : (known : Option (List ℕ)) → Agrees known (some_bytes known)
unfolding some_bytes
some_agree None = tt
some_agree (Some bytes) = refl

-- the same of each file that a list names
images_of : (List ℕ → Option (List ℕ)) → Option (List (List ℕ)) → List (List ℕ)
images_of named None = []
images_of named (Some names) = map (λ name. some_bytes (named name)) names

each_agrees : (named : List ℕ → Option (List ℕ)) (names : List (List ℕ)) → AllZip (λ name bytes. Agrees (named name) bytes) names (map (λ name. some_bytes (named name)) names)
each_agrees named [] = tt
each_agrees named (name ∷ names) = (some_agree (named name), each_agrees named names)

images_agree : (named : List ℕ → Option (List ℕ)) (names : Option (List (List ℕ))) (all : List (List ℕ)) → names ≡ Some all → AllZip (λ name bytes. Agrees (named name) bytes) all (images_of named names)
unfolding images_of
images_agree named None all e = absurd (cc)
images_agree named (Some names) all e =
    let same : names ≡ all = cc in
    subst (λ (xs : List (List ℕ)). AllZip (λ name bytes. Agrees (named name) bytes) xs (map (λ name. some_bytes (named name)) names)) same (each_agrees named names)

-- those that a file names
pub some_images : Known → List ℕ → List (List ℕ)
some_images known file = images_of known.named (names_in file)

pub some_named : (known : Known) (file : List ℕ) → AreNamed known.named file (some_images known file)
unfolding some_images
some_named known file = λ names is. images_agree known.named (names_in file) names is

pub some_found : Known → Found
some_found known = record { file = some_bytes known.file; input = some_bytes known.input; beside = some_bytes known.beside; images = some_images known (some_bytes known.file) }

pub some_agrees : (known : Known) → AgreesWith known (some_found known)
unfolding some_found
some_agrees known = record { file = some_agree known.file; input = some_agree known.input; beside = some_agree known.beside; images = some_named known (some_bytes known.file) }

-- the same with these bytes in the file, and these in the input
abbrev pub found_both : Known → (file input : List ℕ) → Found
found_both known file input = record { file = file; input = input; beside = some_bytes known.beside; images = some_images known file }

pub agrees_both : (known : Known) (file input : List ℕ) → Agrees known.file file → Agrees known.input input → AgreesWith known (found_both known file input)
agrees_both known file input h k = record { file = h; input = k; beside = some_agree known.beside; images = some_named known file }

abbrev pub found_file : Known → List ℕ → Found
found_file known file = found_both known file (some_bytes known.input)

pub agrees_file : (known : Known) (file : List ℕ) → Agrees known.file file → AgreesWith known (found_file known file)
agrees_file known file h = agrees_both known file (some_bytes known.input) h (some_agree known.input)

-- ---- the plan of a task

pub plan-by : (r : Request) (found : Found) (task : Task) → r.task ≡ task → plan (Some r) found ≡ plan_for task r found
plan-by r found task e = ap (λ t. plan_for t r found) e

pub no_bench : (task : Task) → ((number : ℕ) → task ≡ Bench number → ⊥) → IsTrue (runs_guest task) → IsTrue (runs_file task)
no_bench Alone h k = refl
no_bench Fast h k = refl
no_bench Run h k = refl
no_bench Trial h k = refl
no_bench Explain h k = refl
no_bench (Bench number) h k = absurd (h number refl)
no_bench Check h k = absurd (cc)
no_bench Batch h k = absurd (cc)
no_bench At h k = absurd (cc)
no_bench Tasks.List h k = absurd (cc)
no_bench Pack h k = absurd (cc)

-- such a task reads a program, each task that does the input, and each task that does a file
pub file-takes : (task : Task) → IsTrue (runs_file task) → IsTrue (takes_program task)
file-takes Alone h = refl
file-takes Fast h = refl
file-takes Run h = refl
file-takes Trial h = refl
file-takes Explain h = refl
file-takes (Bench number) h = absurd (cc)
file-takes Check h = absurd (cc)
file-takes Batch h = absurd (cc)
file-takes At h = absurd (cc)
file-takes Tasks.List h = absurd (cc)
file-takes Pack h = absurd (cc)

pub program-takes : (task : Task) → IsTrue (takes_program task) → IsTrue (takes_input task)
program-takes Alone h = refl
program-takes Fast h = refl
program-takes Run h = refl
program-takes Trial h = refl
program-takes Explain h = refl
program-takes (Bench number) h = absurd (cc)
program-takes Check h = refl
program-takes Batch h = absurd (cc)
program-takes At h = refl
program-takes Tasks.List h = absurd (cc)
program-takes Pack h = absurd (cc)

-- the file of its program is not refused
pub holds-program : (task : Task) → IsTrue (takes_program task) → (file : List ℕ) (i : Image) → image_in file ≡ Ok i → Holds task file
holds-program Alone h file i loads = (i, loads)
holds-program Fast h file i loads = (i, loads)
holds-program Run h file i loads = (i, loads)
holds-program Trial h file i loads = (i, loads)
holds-program Explain h file i loads = (i, loads)
holds-program (Bench number) h file i loads = absurd (cc)
holds-program Check h file i loads = (i, loads)
holds-program Batch h file i loads = absurd (cc)
holds-program At h file i loads = (i, loads)
holds-program Tasks.List h file i loads = absurd (cc)
holds-program Pack h file i loads = absurd (cc)

pub input-takes : (task : Task) → IsTrue (takes_input task) → IsTrue (takes_file task)
input-takes Alone h = refl
input-takes Fast h = refl
input-takes Run h = refl
input-takes Trial h = refl
input-takes Explain h = refl
input-takes (Bench number) h = absurd (cc)
input-takes Check h = refl
input-takes Batch h = refl
input-takes At h = refl
input-takes Tasks.List h = absurd (cc)
input-takes Pack h = absurd (cc)

pub beside-takes : (task : Task) → IsTrue (takes_beside task) → IsTrue (takes_program task)
beside-takes Alone h = absurd (cc)
beside-takes Fast h = absurd (cc)
beside-takes Run h = absurd (cc)
beside-takes Trial h = absurd (cc)
beside-takes Explain h = absurd (cc)
beside-takes (Bench number) h = absurd (cc)
beside-takes Check h = refl
beside-takes Batch h = absurd (cc)
beside-takes At h = refl
beside-takes Tasks.List h = absurd (cc)
beside-takes Pack h = absurd (cc)

pub beside-more : (task : Task) → IsTrue (takes_beside task) → IsTrue (takes_more task)
beside-more Alone h = absurd (cc)
beside-more Fast h = absurd (cc)
beside-more Run h = absurd (cc)
beside-more Trial h = absurd (cc)
beside-more Explain h = absurd (cc)
beside-more (Bench number) h = absurd (cc)
beside-more Check h = refl
beside-more Batch h = absurd (cc)
beside-more At h = refl
beside-more Tasks.List h = absurd (cc)
beside-more Pack h = absurd (cc)

-- a task with tracks runs a guest
pub tracks-run : (task : Task) → IsTrue (promise_of task).has_tracks → IsTrue (runs_guest task)
tracks-run Alone h = refl
tracks-run Fast h = refl
tracks-run Run h = refl
tracks-run Trial h = refl
tracks-run Explain h = refl
tracks-run (Bench number) h = refl
tracks-run Check h = absurd (cc)
tracks-run Batch h = absurd (cc)
tracks-run At h = absurd (cc)
tracks-run Tasks.List h = absurd (cc)
tracks-run Pack h = absurd (cc)

file-plan_by : (r : Request) (found : Found) (task : Task) → IsTrue (runs_file task) → plan_for task r found ≡ with_program r found (guest_plan r)
file-plan_by r found Alone h = refl
file-plan_by r found Fast h = refl
file-plan_by r found Run h = refl
file-plan_by r found Trial h = refl
file-plan_by r found Explain h = refl
file-plan_by r found (Bench number) h = absurd (cc)
file-plan_by r found Check h = absurd (cc)
file-plan_by r found Batch h = absurd (cc)
file-plan_by r found At h = absurd (cc)
file-plan_by r found Tasks.List h = absurd (cc)
file-plan_by r found Pack h = absurd (cc)

-- the guest of an image file
pub file-plan : (r : Request) (found : Found) → IsTrue (runs_file r.task) → plan (Some r) found ≡ with_program r found (guest_plan r)
file-plan r found h = file-plan_by r found r.task h

-- what follows the program of an image file
module _ (r : Request) (found : Found) (next : Image → List ℕ → Plan) where
  pub with-both : (i : Image) (input : List ℕ) → image_in found.file ≡ Ok i → input_in (not r.no_input) found.input ≡ Ok input → with_program r found next ≡ next i input
  with-both i input e k = ap (λ x. after x (λ j. after (input_in (not r.no_input) found.input) (next j))) e ∙ ap (λ x. after x (next i)) k

  with-no_image : (a : Answer) → image_in found.file ≡ Err a → with_program r found next ≡ Refused a
  with-no_image a e = ap (λ x. after x (λ j. after (input_in (not r.no_input) found.input) (next j))) e

  with-no_input : (i : Image) (a : Answer) → image_in found.file ≡ Ok i → input_in (not r.no_input) found.input ≡ Err a → with_program r found next ≡ Refused a
  with-no_input i a e k = ap (λ x. after x (λ j. after (input_in (not r.no_input) found.input) (next j))) e ∙ ap (λ x. after x (next i)) k

-- ---- calls that are done

pub within-limit : (limit : ℕ) (too_long : Answer) (bytes : List ℕ) → length bytes ≤ limit → bytes_in limit too_long bytes ≡ Ok bytes
within-limit limit too_long bytes h =
    let short : nat_lt limit (length bytes) ≡ false = grind (arith, nat_tests) in
    rw short refl

pub whole_file : (file : List ℕ) (i : Image) → length file ≤ image_limit → image file ≡ Ok i → image_in file ≡ Ok i
whole_file file i h e =
    let short : nat_lt image_limit (length file) ≡ false = grind (arith, nat_tests) in
    rw (short, e) refl

pub given_input : (unread : Bool) (input : List ℕ) → (unread ≡ false → length input ≤ input_limit) → input_in (not unread) input ≡ Ok (if unread then [] else input)
given_input true input h = refl
given_input false input h = within-limit input_limit _ input (h refl)

pub good-runs : (r : Request) (found : Found) (i : Image) → IsTrue (runs_file r.task) → length found.file ≤ image_limit → image found.file ≡ Ok i → (r.no_input ≡ false → length found.input ≤ input_limit)
    → plan (Some r) found ≡ Does (promise_of r.task) (record { image = i; input = if r.no_input then [] else found.input; options = options_of r })
good-runs r found i runs short good few =
    file-plan r found runs
    ∙ with-both r found (guest_plan r) i (if r.no_input then [] else found.input) (whole_file found.file i short good) (given_input r.no_input found.input few)

bench-plan : (r : Request) (found : Found) (number : ℕ) (i : Image) → r.task ≡ Bench number → bench_image number ≡ Ok i → plan (Some r) found ≡ guest_plan r i []
bench-plan r found number i e loads = plan-by r found (Bench number) e ∙ ap (λ x. after x (λ (j : Image). guest_plan r j [])) loads

pub bench-runs : (r : Request) (found : Found) (number : ℕ) → r.task ≡ Bench number → (i : Image) × (plan (Some r) found ≡ Does (promise_of (Bench number)) (record { image = i; input = []; options = options_of r }))
bench-runs r found number e =
    let loads = bench-loads number in
    (loads.0, bench-plan r found number loads.0 e loads.1 ∙ ap (λ task. Does (promise_of task) (record { image = loads.0; input = []; options = options_of r })) e)

-- ---- calls that were served

-- a plan that was kept
pub served-plan : (r : Option Request) (known : Known) (found : Found) (p : Plan) (old new : Sinks) (v : Served) → AgreesWith known found → plan r found ≡ p → Keeps p old new v → IsServed r known old new v
served-plan r known found p old new v agrees is h = record { found = found; agrees = agrees; keeps = inr (subst (λ q. Keeps q old new v) (sym is) h) }

-- nothing was written, since a read failed or memory ran out
pub served-unread : (r : Option Request) (known : Known) (s : Sinks) (a : Answer) → IsUnread a → IsServed r known s s (plainly a)
served-unread r known s a (inl e) = record { found = some_found known; agrees = some_agrees known; keeps = inl (inl (ap plainly e), refl) }
served-unread r known s a (inr e) = record { found = some_found known; agrees = some_agrees known; keeps = inl (inr (ap plainly e), refl) }

-- the words ask for nothing
served-usage : (r : Option Request) (known : Known) (s : Sinks) → r ≡ None → IsServed r known s s (plainly Usage)
served-usage r known s e =
    served-plan r known (some_found known) (Refused Usage) s s (plainly Usage) (some_agrees known) (ap (λ x. plan x (some_found known)) e) (refl, refl)

-- the words ask for nothing, or memory ran out before they were read
pub served-refused : (r : Option Request) (known : Known) (s : Sinks) (a : Answer) → IsRequest r (Err a) → IsServed r known s s (plainly a)
served-refused r known s a (inl h) = subst (λ x. IsServed r known s s (plainly x)) (sym h.0) (served-usage r known s h.1)
served-refused r known s a (inr e) = served-unread r known s a (inr e)

-- ---- the guest that is found for a request

-- a guest whose task was done by the options of the request
pub served-guest : (r : Request) (o : Options) (known : Known) (guest : LoadedGuest) (old new : Sinks) (v : Served) → o ≡ options_of r → FindsGuest r known (Ok guest)
    → KeepsPromise (promise_of r.task) (given_of guest.loaded guest.input o) old new v → IsServed (Some r) known old new v
served-guest r o known guest old new v is h kept =
    served-plan (Some r) known h.0 (Does (promise_of r.task) (given_of guest.loaded guest.input (options_of r))) old new v h.1 h.2
    (subst (λ x. KeepsPromise (promise_of r.task) (given_of guest.loaded guest.input x) old new v) is kept)

-- none was found
pub served-none : (r : Request) (known : Known) (a : Answer) (s : Sinks) → FindsGuest r known (Err a) → IsServed (Some r) known s s (plainly a)
served-none r known a s (inl unread) = served-unread (Some r) known s a unread
served-none r known a s (inr h) = served-plan (Some r) known h.0 (Refused a) s s (plainly a) h.1 h.2 (refl, refl)

-- the image or the input was refused, or could not be read
pub program-refused : (r : Request) (known : Known) (a : Answer) → FindsProgram (not r.no_input) known (Err a)
    → IsUnread a ⊎ ((found : Found) × AgreesWith known found × ((next : Image → List ℕ → Plan) → with_program r found next ≡ Refused a))
program-refused r known a (inl (inl unread)) = inl unread
program-refused r known a (inl (inr h)) =
    inr (found_file known h.0, agrees_file known h.0 h.1, λ next. with-no_image r (found_file known h.0) next a h.2)
program-refused r known a (inr (i, file, inl unread)) = inl unread
program-refused r known a (inr (i, file, inr h)) =
    let found = found_both known file.0 h.0 in
    inr (found, agrees_both known file.0 h.0 file.1 h.1, λ next. with-no_input r found next i a file.2 h.2)

pub finds-guest : (r : Request) (known : Known) → IsTrue (runs_file r.task) → (x : Result LoadedGuest Answer) → FindsProgram (not r.no_input) known x → FindsGuest r known x
finds-guest r known runs (Ok guest) (file, input) =
    let found = found_both known file.0 input.0 in
    (found, agrees_both known file.0 input.0 file.1 input.1, file-plan r found runs ∙ with-both r found (guest_plan r) (image_of_loaded guest.loaded) guest.input file.2 input.2)
finds-guest r known runs (Err a) h = refused (program-refused r known a h)
  where
    refused : IsUnread a ⊎ ((found : Found) × AgreesWith known found × ((next : Image → List ℕ → Plan) → with_program r found next ≡ Refused a)) → FindsGuest r known (Err a)
    refused (inl unread) = inl unread
    refused (inr k) = inr (k.0, k.1, file-plan r k.0 runs ∙ k.2 (guest_plan r))

-- the guest of a bench
pub finds-bench : (r : Request) (known : Known) (number : ℕ) (l : Loaded) → r.task ≡ Bench number → image (generated number bench_regions) ≡ Ok (image_of_loaded l)
    → FindsGuest r known (Ok (record { loaded = l; input = [] }))
finds-bench r known number l e loads =
    (some_found known, some_agrees known, bench-plan r (some_found known) number (image_of_loaded l) e (ap unless_bad loads))
