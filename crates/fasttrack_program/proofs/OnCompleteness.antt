-- Where no count rose, a call did all that its plan says
use Rattle.std.proofs.Common.{◌≡◌, ◌≢◌, ℕ, ◌≤◌, Bool, true, false, List, [], ◌∷◌, ◌++◌, length, Ok, Err, Option, Some, None, ◌⊎◌, inl, inr, refl, sym, ap, ◌∙◌, subst, append-nil, arith}
use Rattle.std.specs.Prelude.{unwrap_or, not, IsTrue, if◌then◌else◌}
use Rattle.std.specs.List.{AllZip}
use Rattle.std.specs.Io.KnownBytes.{Appends}
use Rattle.std.proofs.KnownBytes.{Appends-nil}
use Rattle.speculation.specs.declared.history.Entry.{Entry}
use Rattle.speculation.specs.Run.{Mark, marked}
use Rattle.host_io.specs.Faults.{Rose, StayedCalm}
use Rattle.host_io.specs.declared.files.Files.{Ghosts as FilesRow}
use Rattle.host_io.specs.declared.source.Source.{Ghosts as SourceRow}
use Rattle.guest_model.specs.Image.{Image, image}
use Rattle.guest_streams.specs.GuestStreams.{Sinks, Gets, GetsAll, FailsAt}
use Rattle.guest_streams.proofs.OnStreams.{GetsAll-nothing}
use Rattle.program_words.specs.CommandLine.{Request}
use Rattle.program_words.specs.declared.request.Task.TheVariants as Tasks
use Rattle.program_words.specs.declared.request.Task.TheVariants.{Bench, Check, Batch as BatchTask, At, Pack}
use Rattle.fasttrack_program.specs.declared.served.Served.{Served}
use Rattle.fasttrack_program.specs.declared.served.Told.TheVariants.{Each}
use Rattle.fasttrack_program.specs.declared.answer.Answer.{Answer}
use Rattle.fasttrack_program.specs.declared.answer.Answer.TheVariants.{Shown, ReadFault, JournalTooLong, NoMemory}
use Rattle.fasttrack_program.specs.AnswerLine.{line_of, without_line, IsSaidFor, WritesLineOf, Concludes}
use Rattle.fasttrack_program.specs.Completeness.{line_text, DoesAll, ShowsAll, FollowsPlan, TellsAll, IsComplete}
use Rattle.fasttrack_program.specs.Plan.{Found, Plan, Refused, Does, Shows, Runs, batch_of, list_in, unless_none, runs_file, image_in, image_limit, input_in, input_limit, journal_in, journal_limit, after, guest_plan, journal_plan, options_of, plan}
use Rattle.job_listing.specs.Listing.{jobs_text}
use Rattle.job_listing.specs.Lists.{names_in}
use Rattle.fasttrack_program.specs.Jobs.{Batch}
use Rattle.fasttrack_program.specs.Promise.{Given, Promise, promise_of, settings_of, IsHistory}
use Rattle.fasttrack_program.specs.Reading.{Agrees, Known, AgreesWith, FileFails, InputFails, MoreFails}
use Rattle.fasttrack_program.specs.Showing.{Showing, OfJournal, OfStates, OfWords, OfText, Tells}
use Rattle.fasttrack_program.specs.Serving.{plainly, wholly, IsWritten as IsKept, IsShown, Keeps, KeepsBatch, IsStopped, IsServed}
use Rattle.fasttrack_program.proofs.OnPlans.{plan-by, file-plan, with-both, within-limit, whole_file, given_input, bench-runs}
use Rattle.fasttrack_program.proofs.OnRuns.{noted, behind_all}

-- a count that rose is not as before
calm-not_risen : (a b : ℕ) → StayedCalm a b → Rose a b → ⊥
calm-not_risen a b h rose = absurd (omega (arith, h.0, h.1, rose))

-- nor where it rose before its last value, or after
calm-not_between : (a b c : ℕ) → StayedCalm a c → Rose a b → (c ≡ b) ⊎ Rose b c → ⊥
calm-not_between a b c h rose (inl e) = absurd (omega (arith, h.0, h.1, rose, e))
calm-not_between a b c h rose (inr more) = absurd (omega (arith, h.0, h.1, rose, more))

-- ---- the line

-- what became of the count while a line was written
line-count : (mid new : Option (List ℕ)) (faults faults' : ℕ) (said result : Answer) (line : Option (List ℕ)) → WritesLineOf mid new faults faults' said result line → (faults' ≡ faults) ⊎ Rose faults faults'
line-count mid new faults faults' said result None h = inl h.1
line-count mid new faults faults' said result (Some line) (inl h) = inl h.1
line-count mid new faults faults' said result (Some line) (inr h) = inr h.3

-- the result of an answer that a lost line leaves as it is
line-result : (mid new : Option (List ℕ)) (faults faults' : ℕ) (said result : Answer) (line : Option (List ℕ)) → without_line said ≡ said → WritesLineOf mid new faults faults' said result line → result ≡ said
line-result mid new faults faults' said result None same h = h.2
line-result mid new faults faults' said result (Some line) same (inl h) = h.2
line-result mid new faults faults' said result (Some line) same (inr h) = h.4 ∙ same

concluded-no_memory : (mid new : Option (List ℕ)) (faults faults' : ℕ) (said result : Answer) → said ≡ NoMemory → WritesLineOf mid new faults faults' said result (line_of said) → result ≡ NoMemory
concluded-no_memory mid new faults faults' said result e h =
    line-result mid new faults faults' NoMemory result (line_of NoMemory) refl (subst (λ a. WritesLineOf mid new faults faults' a result (line_of a)) e h)

-- a failed read, or want of memory, is the result
concluded-same_by : (mid new : Option (List ℕ)) (faults faults' : ℕ) (answer said result : Answer) → without_line answer ≡ answer → IsSaidFor answer said → WritesLineOf mid new faults faults' said result (line_of said) → (result ≡ answer) ⊎ (result ≡ NoMemory)
concluded-same_by mid new faults faults' answer said result same (inl e) h =
    inl (line-result mid new faults faults' answer result (line_of answer) same (subst (λ a. WritesLineOf mid new faults faults' a result (line_of a)) e h))
concluded-same_by mid new faults faults' answer said result same (inr e) h = inr (concluded-no_memory mid new faults faults' said result e.0 h)

concluded-same : (mid new : Option (List ℕ)) (faults faults' : ℕ) (answer result : Answer) → without_line answer ≡ answer → Concludes mid new faults faults' answer result → (result ≡ answer) ⊎ (result ≡ NoMemory)
concluded-same mid new faults faults' answer result same c = concluded-same_by mid new faults faults' answer c.said result same c.for_answer c.writes

-- the line was written whole
record IsWritten (mid new : Option (List ℕ)) (faults faults' : ℕ) (answer result : Answer) : Type 0 where
  pub appends : Appends mid new (line_text answer)
  pub calm : faults' ≡ faults
  pub same : result ≡ answer

line-whole : (start : ℕ) (mid new : Option (List ℕ)) (faults faults' : ℕ) (said result : Answer) (line : Option (List ℕ)) → StayedCalm start faults' → faults ≡ start → WritesLineOf mid new faults faults' said result line
    → Appends mid new (unwrap_or line []) × (faults' ≡ faults) × (result ≡ said)
line-whole start mid new faults faults' said result None calm same h = (subst (λ o. Appends mid o []) (sym h.0) (Appends-nil mid), h.1, h.2)
line-whole start mid new faults faults' said result (Some line) calm same (inl h) = (h.0, h.1, h.2)
line-whole start mid new faults faults' said result (Some line) calm same (inr h) = absurd (calm-not_risen start faults' calm (subst (λ n. Rose n faults') same h.3))

concluded-whole_by : (start : ℕ) (mid new : Option (List ℕ)) (faults faults' : ℕ) (answer said result : Answer) → StayedCalm start faults' → faults ≡ start → IsSaidFor answer said
    → WritesLineOf mid new faults faults' said result (line_of said) → (result ≡ NoMemory) ⊎ IsWritten mid new faults faults' answer result
concluded-whole_by start mid new faults faults' answer said result calm same (inr e) h = inl (concluded-no_memory mid new faults faults' said result e.0 h)
concluded-whole_by start mid new faults faults' answer said result calm same (inl e) h =
    let own = subst (λ a. WritesLineOf mid new faults faults' a result (line_of a)) e h in
    let all = line-whole start mid new faults faults' answer result (line_of answer) calm same own in
    inr (record { appends = all.0; calm = all.1; same = all.2 })

concluded-whole : (start : ℕ) (mid new : Option (List ℕ)) (faults faults' : ℕ) (answer result : Answer) → StayedCalm start faults' → faults ≡ start → Concludes mid new faults faults' answer result
    → (result ≡ NoMemory) ⊎ IsWritten mid new faults faults' answer result
concluded-whole start mid new faults faults' answer result calm same c = concluded-whole_by start mid new faults faults' answer c.said result calm same c.for_answer c.writes

or-else : {A B C : Type 0} → (B → C) → A ⊎ B → A ⊎ C
or-else f (inl a) = inl a
or-else f (inr b) = inr (f b)

either-same : {A : Type 0} → A ⊎ A → A
either-same (inl a) = a
either-same (inr a) = a

other-than : {A B : Type 0} → (A → ⊥) → A ⊎ B → B
other-than other (inl a) = absurd (other a)
other-than other (inr b) = b

-- ---- the plan

module _ (old mid new : Sinks) (result : Answer) (out : new.out ≡ mid.out) (out_faults : new.out_faults ≡ mid.out_faults)
    (out_calm : StayedCalm old.out_faults new.out_faults) (notes_calm : StayedCalm old.notes_faults new.notes_faults) where
  -- what was written, and the line behind it
  with-line : (output : List Mark) (answer : Answer) → GetsAll old mid output → IsWritten mid.notes new.notes mid.notes_faults new.notes_faults answer result → Gets old new (output ++ marked 2 (line_text result))
  with-line output answer got w =
      let all = behind_all old mid new.notes new.notes_faults output (line_text answer) got (w.appends, w.calm) in
      let sinks : noted mid new.notes new.notes_faults ≡ new = ap (λ x. record new { out = x; out_faults = mid.out_faults }) (sym out) ∙ ap (λ n. record new { out_faults = n }) (sym out_faults) in
      subst (λ a. Gets old new (output ++ marked 2 (line_text a))) (sym w.same) (subst (λ s. Gets old s (output ++ marked 2 (line_text answer))) sinks all.gets)

  followed-refusal : (a : Answer) → mid ≡ old → Concludes mid.notes new.notes mid.notes_faults new.notes_faults a result → (result ≡ NoMemory) ⊎ FollowsPlan (Refused a) old new result
  followed-refusal a same line =
      or-else (λ w. (w.same, with-line [] a (subst (λ s. GetsAll old s []) (sym same) (GetsAll-nothing old)) w))
      (concluded-whole old.notes_faults mid.notes new.notes mid.notes_faults new.notes_faults a result notes_calm (ap (λ (s : Sinks). s.notes_faults) same) line)

  -- a sink failed
  not-failed : (answer : Answer) (rest : List Mark) → Concludes mid.notes new.notes mid.notes_faults new.notes_faults answer result → FailsAt old mid rest → ⊥
  not-failed answer rest line (inl h) = calm-not_risen old.out_faults mid.out_faults (subst (StayedCalm old.out_faults) out_faults out_calm) h.0
  not-failed answer rest line (inr h) =
      calm-not_between old.notes_faults mid.notes_faults new.notes_faults notes_calm h.0 (line-count mid.notes new.notes mid.notes_faults new.notes_faults line.said result (line_of line.said) line.writes)

  -- memory ran out, or a read failed
  module _ (v : Served) (line : Concludes mid.notes new.notes mid.notes_faults new.notes_faults v.answer result) where
    line-of : (w : Served) → v ≡ w → Concludes mid.notes new.notes mid.notes_faults new.notes_faults w.answer result
    line-of w e = subst (λ (x : Served). Concludes mid.notes new.notes mid.notes_faults new.notes_faults x.answer result) e line

    no-memory : v ≡ plainly NoMemory → result ≡ NoMemory
    no-memory e = either-same (concluded-same mid.notes new.notes mid.notes_faults new.notes_faults NoMemory result refl (line-of (plainly NoMemory) e))

    stopped : result ≢ ReadFault → IsStopped old mid v → result ≡ NoMemory
    stopped read (inl e, same) = other-than read (concluded-same mid.notes new.notes mid.notes_faults new.notes_faults ReadFault result refl (line-of (plainly ReadFault) e))
    stopped read (inr e, same) = no-memory e

    module _ (p : Promise) (g : Given) (entries : List Entry) (history : IsHistory p.has_tracks g entries) where
      followed-promise : IsKept (p.writes g entries) (wholly p g entries) old mid v → (result ≡ NoMemory) ⊎ DoesAll p g old new result
      followed-promise (inl h) =
          or-else (λ w. record { entries = entries; history = history; answers = w.same; gets = with-line (p.writes g entries) (p.answer g) h.1 w })
          (concluded-whole old.notes_faults mid.notes new.notes mid.notes_faults new.notes_faults (p.answer g) result notes_calm h.1.calm.on_notes (line-of (wholly p g entries) h.0))
      followed-promise (inr (inl h)) = absurd (not-failed v.answer h.1.rest line h.1.fails)
      followed-promise (inr (inr h)) = inl (no-memory h.0)

    -- a text that was shown whole
    followed-text : (x : Showing) (text : List ℕ) → Tells x (Ok text) → IsKept (marked 1 text) (plainly Shown) old mid v → (result ≡ NoMemory) ⊎ ShowsAll x old new result
    followed-text x text tells (inl h) =
        or-else (λ w. inl (text, tells, w.same, subst (Gets old new) (append-nil (marked 1 text)) (subst (λ a. Gets old new (marked 1 text ++ marked 2 (line_text a))) w.same (with-line (marked 1 text) Shown h.1 w))))
        (concluded-whole old.notes_faults mid.notes new.notes mid.notes_faults new.notes_faults Shown result notes_calm h.1.calm.on_notes (line-of (plainly Shown) h.0))
    followed-text x text tells (inr (inl h)) = absurd (not-failed v.answer h.1.rest line h.1.fails)
    followed-text x text tells (inr (inr h)) = inl (no-memory h.0)

    -- what was read is refused
    refused-text : (x : Showing) (answer : Answer) → Tells x (Err answer) → (result ≡ NoMemory) ⊎ FollowsPlan (Refused answer) old new result → (result ≡ NoMemory) ⊎ ShowsAll x old new result
    refused-text x answer tells done = or-else (λ h. inr (subst (λ a. Tells x (Err a)) (sym h.0) tells, h.1)) done

    followed-shown : (x : Showing) → IsShown x old mid v → (result ≡ NoMemory) ⊎ ShowsAll x old new result
    followed-shown x (inl h) = followed-text x h.0 h.1 h.2
    followed-shown x (inr (inl h)) = refused-text x h.0 h.1 (followed-refusal h.0 h.3 (line-of (plainly h.0) h.2))
    followed-shown x (inr (inr h)) = inl (no-memory h.0)

    -- the reports of all jobs were shown
    followed-batch : (b : Batch) → KeepsBatch b old mid v → (result ≡ NoMemory) ⊎ TellsAll b old new result
    followed-batch b k = by k.kept
      where
        by : IsKept (marked 1 (jobs_text k.reports.items)) (record { answer = Shown; told = Each k.reports }) old mid v → (result ≡ NoMemory) ⊎ TellsAll b old new result
        by (inl h) =
            or-else (λ w. record {
              reports = k.reports.items;
              are_reports = k.are_reports;
              answers = w.same;
              gets = subst (Gets old new) (append-nil (marked 1 (jobs_text k.reports.items)))
                  (subst (λ a. Gets old new (marked 1 (jobs_text k.reports.items) ++ marked 2 (line_text a))) w.same (with-line (marked 1 (jobs_text k.reports.items)) Shown h.1 w));
            })
            (concluded-whole old.notes_faults mid.notes new.notes mid.notes_faults new.notes_faults Shown result notes_calm h.1.calm.on_notes (line-of (record { answer = Shown; told = Each k.reports }) h.0))
        by (inr (inl h)) = absurd (not-failed v.answer h.1.rest line h.1.fails)
        by (inr (inr h)) = inl (no-memory h.0)

    followed-plan : (q : Plan) → Keeps q old mid v → (result ≡ NoMemory) ⊎ FollowsPlan q old new result
    followed-plan (Refused a) k = followed-refusal a k.1 (line-of (plainly a) k.0)
    followed-plan (Does p g) k = followed-promise p g k.entries k.history k.kept
    followed-plan (Shows x) k = followed-shown x k
    followed-plan (Runs b) k = followed-batch b k

    followed : (q : Plan) → result ≢ ReadFault → IsStopped old mid v ⊎ Keeps q old mid v → (result ≡ NoMemory) ⊎ FollowsPlan q old new result
    followed q read (inl h) = inl (stopped read h)
    followed q read (inr k) = followed-plan q k

-- a call in which nothing failed
pub completed : (request : Option Request) (known : Known) (old mid new : Sinks) (v : Served) (result : Answer) → IsServed request known old mid v
    → new.out ≡ mid.out → new.out_faults ≡ mid.out_faults → Concludes mid.notes new.notes mid.notes_faults new.notes_faults v.answer result
    → StayedCalm old.out_faults new.out_faults → StayedCalm old.notes_faults new.notes_faults → result ≢ ReadFault → IsComplete request known old new result
completed request known old mid new v result h out out_faults line out_calm notes_calm read =
    or-else (λ does. record { found = h.found; agrees = h.agrees; follows = does })
    (followed old mid new result out out_faults out_calm notes_calm v line (plan request h.found) read h.keeps)

-- a read that failed was counted
pub read-failed : {F I : Type 0} (f : FilesRow F) (i : SourceRow I) (request : Option Request) (files files' : F) (input input' : I)
    → StayedCalm (f.faults files) (f.faults files') → StayedCalm (i.faults input) (i.faults input') → FileFails f i request files files' input input' ⊎ (InputFails f i request files files' input input' ⊎ MoreFails f i request files files' input input') → ⊥
read-failed f i request files files' input input' calm calm' (inl h) = calm-not_risen (f.faults files) (f.faults files') calm h.risen
read-failed f i request files files' input input' calm calm' (inr (inl h)) = calm-not_risen (i.faults input) (i.faults input') calm' h.risen
read-failed f i request files files' input input' calm calm' (inr (inr h)) = calm-not_risen (f.faults files) (f.faults files') calm h.risen

-- ---- calls that are done whole

given-same : (unread : Bool) (known : Option (List ℕ)) (given input : List ℕ) → Agrees known given → (unread ≡ false → (known ≡ Some input) × (length input ≤ input_limit))
    → ((unread ≡ false → length given ≤ input_limit) × ◌≡◌ {A = List ℕ} (if unread then [] else given) (if unread then [] else input))
given-same true known given input t h = (λ e. cc, refl)
given-same false known given input t h =
    let same : given ≡ input = subst (λ o. Agrees o given) (h refl).0 t in
    (λ e. subst (λ xs. length xs ≤ input_limit) (sym same) (h refl).1, same)

-- the file, the input and the file of `--with` that a call found, where they are known
module _ (known : Known) (found : Found) (agrees : AgreesWith known found) where
  found-file : (file : List ℕ) → known.file ≡ Some file → found.file ≡ file
  found-file file e = subst (λ o. Agrees o found.file) e agrees.file

  found-beside : (beside : List ℕ) → known.beside ≡ Some beside → found.beside ≡ beside
  found-beside beside e = subst (λ o. Agrees o found.beside) e agrees.beside

  found-image : (file : List ℕ) (i : Image) → known.file ≡ Some file → length file ≤ image_limit → image file ≡ Ok i → image_in found.file ≡ Ok i
  found-image file i e short good = ap image_in (found-file file e) ∙ whole_file file i short good

  found-input : (unread : Bool) (input : List ℕ) → (unread ≡ false → (known.input ≡ Some input) × (length input ≤ input_limit)) → input_in (not unread) found.input ≡ Ok (if unread then [] else input)
  found-input unread input few =
      let given = given-same unread known.input found.input input agrees.input few in
      given_input unread found.input given.0 ∙ ap Ok given.1

pub good-done : (request : Request) (known : Known) (file input : List ℕ) (i : Image) (old new : Sinks) (answer : Answer) → IsComplete (Some request) known old new answer
    → IsTrue (runs_file request.task) → known.file ≡ Some file → length file ≤ image_limit → image file ≡ Ok i → (request.no_input ≡ false → (known.input ≡ Some input) × (length input ≤ input_limit))
    → (answer ≡ NoMemory) ⊎ DoesAll (promise_of request.task) (record { image = i; input = if request.no_input then [] else input; options = options_of request }) old new answer
good-done request known file input i old new answer (inl e) runs is short good few = inl e
good-done request known file input i old new answer (inr d) runs is short good few =
    let plan-is = file-plan request d.found runs
    ∙ with-both request d.found (guest_plan request) i (if request.no_input then [] else input) (found-image known d.found d.agrees file i is short good) (found-input known d.found d.agrees request.no_input input few) in
    inr (subst (λ q. FollowsPlan q old new answer) plan-is d.follows)

pub bench-done : (request : Request) (known : Known) (number : ℕ) (old new : Sinks) (answer : Answer) → IsComplete (Some request) known old new answer
    → request.task ≡ Bench number → (answer ≡ NoMemory) ⊎ ((i : Image) × DoesAll (promise_of (Bench number)) (record { image = i; input = []; options = options_of request }) old new answer)
bench-done request known number old new answer (inl e) is = inl e
bench-done request known number old new answer (inr d) is =
    let runs = bench-runs request d.found number is in
    inr (runs.0, subst (λ q. FollowsPlan q old new answer) runs.1 d.follows)

-- ---- texts that are shown whole

-- a task that shows a text of a program
module _ (request : Request) (known : Known) (file input : List ℕ) (i : Image) (is : known.file ≡ Some file) (short : length file ≤ image_limit) (good : image file ≡ Ok i)
    (few : request.no_input ≡ false → (known.input ≡ Some input) × (length input ≤ input_limit)) (beside : List ℕ) (old new : Sinks) (answer : Answer) where
  abbrev given : List ℕ
  given = if request.no_input then [] else input

  pub journal-done : IsComplete (Some request) known old new answer → request.task ≡ Check → known.beside ≡ Some beside → length beside ≤ journal_limit
      → (answer ≡ NoMemory) ⊎ ShowsAll (OfJournal i given (settings_of (options_of request)) beside) old new answer
  journal-done (inl e) task with within = inl e
  journal-done (inr d) task with within =
      let plan-is = plan-by request d.found Check task
      ∙ with-both request d.found (journal_plan request d.found) i given (found-image known d.found d.agrees file i is short good) (found-input known d.found d.agrees request.no_input input few)
      ∙ ap (λ x. after x (λ journal. Shows (OfJournal i given (settings_of (options_of request)) journal)))
      (ap journal_in (found-beside known d.found d.agrees beside with) ∙ within-limit journal_limit JournalTooLong beside within) in
      inr (subst (λ q. FollowsPlan q old new answer) plan-is d.follows)

  pub states-done : IsComplete (Some request) known old new answer → request.task ≡ At → known.beside ≡ Some beside → (answer ≡ NoMemory) ⊎ ShowsAll (OfStates i given beside) old new answer
  states-done (inl e) task with = inl e
  states-done (inr d) task with =
      let plan-is = plan-by request d.found At task
      ∙ with-both request d.found (λ j taken. Shows (OfStates j taken d.found.beside)) i given (found-image known d.found d.agrees file i is short good) (found-input known d.found d.agrees request.no_input input few)
      ∙ ap (λ xs. Shows (OfStates i given xs)) (found-beside known d.found d.agrees beside with) in
      inr (subst (λ q. FollowsPlan q old new answer) plan-is d.follows)

module _ (request : Request) (known : Known) (file : List ℕ) (is : known.file ≡ Some file) (old new : Sinks) (answer : Answer) where
  pub words-done : (i : Image) → IsComplete (Some request) known old new answer → request.task ≡ Tasks.List → length file ≤ image_limit → image file ≡ Ok i → (answer ≡ NoMemory) ⊎ ShowsAll (OfWords i) old new answer
  words-done i (inl e) task short good = inl e
  words-done i (inr d) task short good =
      let plan-is = plan-by request d.found Tasks.List task ∙ ap (λ x. after x (λ j. Shows (OfWords j))) (found-image known d.found d.agrees file i is short good) in
      inr (subst (λ q. FollowsPlan q old new answer) plan-is d.follows)

  pub text-done : IsComplete (Some request) known old new answer → request.task ≡ Pack → (answer ≡ NoMemory) ⊎ ShowsAll (OfText file) old new answer
  text-done (inl e) task = inl e
  text-done (inr d) task =
      let plan-is = plan-by request d.found Pack task ∙ ap (λ xs. Shows (OfText xs)) (found-file known d.found d.agrees file is) in
      inr (subst (λ q. FollowsPlan q old new answer) plan-is d.follows)

-- ---- batches that are done whole

-- a batch of these names, whose images are all known
module _ (request : Request) (known : Known) (list input : List ℕ) (names images : List (List ℕ)) (is : known.file ≡ Some list) (named : names_in list ≡ Some names)
    (few : request.no_input ≡ false → (known.input ≡ Some input) × (length input ≤ input_limit))
    (all : AllZip (λ name bytes. known.named name ≡ Some bytes) names images) where
  same-images : (ns given theirs : List (List ℕ)) → AllZip (λ name bytes. known.named name ≡ Some bytes) ns given → AllZip (λ name bytes. Agrees (known.named name) bytes) ns theirs → theirs ≡ given
  same-images [] [] [] h k = refl
  same-images [] [] (y ∷ ys) h k = absurd k
  same-images [] (x ∷ xs) ys h k = absurd h
  same-images (n ∷ ns) [] ys h k = absurd h
  same-images (n ∷ ns) (x ∷ xs) [] h k = absurd k
  same-images (n ∷ ns) (x ∷ xs) (y ∷ ys) h k =
      let first : y ≡ x = subst (λ (o : Option (List ℕ)). Agrees o y) h.0 k.0 in
      ap (λ z. z ∷ ys) first ∙ ap (λ zs. x ∷ zs) (same-images ns xs ys h.1 k.1)

  pub batch-done : (old new : Sinks) (answer : Answer) → IsComplete (Some request) known old new answer → request.task ≡ BatchTask
      → (answer ≡ NoMemory) ⊎ TellsAll (batch_of request images (if request.no_input then [] else input)) old new answer
  batch-done old new answer (inl e) task = inl e
  batch-done old new answer (inr d) task =
      let given : List ℕ = if request.no_input then [] else input in
      let file : d.found.file ≡ list = found-file known d.found d.agrees list is in
      let names-are : names_in d.found.file ≡ Some names = ap names_in file ∙ named in
      let listed : list_in d.found.file ≡ Ok names = ap unless_none names-are in
      let images-are : d.found.images ≡ images = same-images names images d.found.images all (d.agrees.images names names-are) in
      let plan-is : plan (Some request) d.found ≡ Runs (batch_of request images given) =
      plan-by request d.found BatchTask task
      ∙ ap (λ x. after x (λ (ns : List (List ℕ)). after (input_in (not request.no_input) d.found.input) (λ taken. Runs (batch_of request d.found.images taken)))) listed
      ∙ ap (λ x. after x (λ taken. Runs (batch_of request d.found.images taken))) (found-input known d.found d.agrees request.no_input input few)
      ∙ ap (λ xs. Runs (batch_of request xs given)) images-are in
      inr (subst (λ q. FollowsPlan q old new answer) plan-is d.follows)
