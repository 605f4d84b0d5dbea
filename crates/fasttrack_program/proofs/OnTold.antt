-- The histories that a call hands out: no more than its task may
use Rattle.std.proofs.Common.{◌≡◌, ℕ, ◌+◌, ◌≤◌, Bool, true, false, List, [], ◌∷◌, length, Option, Some, None, Result, Ok, Err, ◌⊎◌, inl, inr, refl, sym, subst, arith}
use Rattle.std.specs.Prelude.{not, if◌then◌else◌}
use Rattle.std.specs.List.{AllZip}
use Rattle.std.proofs.Math.ListN.{length-map}
use Rattle.speculation.specs.declared.history.Entry.{Entry}
use Rattle.speculation.specs.Run.{Mark, marked}
use Rattle.guest_model.specs.Image.{Image}
use Rattle.guest_streams.specs.GuestStreams.{Sinks}
use Rattle.job_listing.specs.Lists.{names_in}
use Rattle.job_listing.specs.Listing.{jobs_text}
use Rattle.job_listing.specs.declared.report.JobReport.{JobReport}
use Rattle.job_listing.proofs.OnLists.{names-few}
use Rattle.program_words.specs.CommandLine.{Request}
use Rattle.program_words.specs.declared.request.Task.{Task}
use Rattle.program_words.specs.declared.request.Task.TheVariants as Tasks
use Rattle.program_words.specs.declared.request.Task.TheVariants.{Alone, Fast, Run, Trial, Explain, Bench, Check, Batch as BatchTask, At, Pack}
use Rattle.fasttrack_program.specs.declared.answer.Answer.{Answer}
use Rattle.fasttrack_program.specs.declared.answer.Answer.TheVariants.{Shown}
use Rattle.fasttrack_program.specs.declared.served.Served.{Served}
use Rattle.fasttrack_program.specs.declared.served.Told.TheVariants.{Nothing, One, Each}
use Rattle.fasttrack_program.specs.Jobs.{IsReportOf, history_in, histories_of_jobs}
use Rattle.fasttrack_program.specs.Plan.{Found, Plan, Refused, Does, Shows, Runs, after, batch_of, bench_image, image_in, input_in, journal_in, list_in, plan, plan_for}
use Rattle.fasttrack_program.specs.Reading.{Known, AgreesWith, Agrees}
use Rattle.fasttrack_program.specs.Serving.{plainly, wholly, IsStopped, IsWritten, Keeps, IsServed}
use Rattle.fasttrack_program.specs.TopCall.{histories_in, most_histories}
use Rattle.fasttrack_program.proofs.OnJobs.{named-by, as-many, left-one, left-none}

-- no more than so many histories go with what was served
abbrev pub Tells : ℕ → Served → Type 0
Tells most v = length (histories_in v.told) ≤ most

-- how many a plan may hand out at most
abbrev Allows : ℕ → Plan → Type 0
Allows most (Refused a) = Unit {0}
Allows most (Does p g) = length (histories_in (if p.has_tracks then One [] else Nothing)) ≤ most
Allows most (Shows x) = Unit {0}
Allows most (Runs b) = length b.jobs ≤ most

-- ---- what was served

tells-as : (most : ℕ) (v w : Served) → v ≡ w → Tells most w → Tells most v
tells-as most v w e h = subst (Tells most) (sym e) h

tells-plainly : (most : ℕ) (v : Served) (a : Answer) → v ≡ plainly a → Tells most v
tells-plainly most v a e = tells-as most v (plainly a) e (omega arith)

tells-written : (most : ℕ) (output : List Mark) (whole : Served) (old new : Sinks) (v : Served) → Tells most whole → IsWritten output whole old new v → Tells most v
tells-written most output whole old new v h (inl w) = tells-as most v whole w.0 h
tells-written most output whole old new v h (inr (inl w)) = tells-plainly most v _ w.0
tells-written most output whole old new v h (inr (inr w)) = tells-plainly most v _ w.0

tells-wholly : (most : ℕ) (has : Bool) (a : Answer) (entries : List Entry) → length (histories_in (if has then One [] else Nothing)) ≤ most
    → length (histories_in (if has then One entries else Nothing)) ≤ most
tells-wholly most true a entries h = h
tells-wholly most false a entries h = h

-- no more histories than jobs
few-histories : (R : Result Image Answer → JobReport → Type 0) (jobs : List (Result Image Answer)) (reports : List JobReport) → AllZip R jobs reports → length (histories_of_jobs reports) ≤ length jobs
few-histories R [] [] h = omega arith
few-histories R [] (x ∷ xs) h = absurd h
few-histories R (j ∷ js) [] h = absurd h
few-histories R (j ∷ js) (x ∷ xs) h = by (history_in x) refl (few-histories R js xs h.1)
  where
    by : (o : Option (List Entry)) → history_in x ≡ o → length (histories_of_jobs xs) ≤ length js → length (histories_of_jobs (x ∷ xs)) ≤ length (j ∷ js)
    by None is less = (let none = left-none x xs is in omega (arith, less, none))
    by (Some entries) is less = (let one = left-one x xs entries is in omega (arith, less, one))

tells-kept : (most : ℕ) (p : Plan) (old new : Sinks) (v : Served) → Allows most p → Keeps p old new v → Tells most v
tells-kept most (Refused a) old new v h k = tells-plainly most v a k.0
tells-kept most (Does p g) old new v h k =
    tells-written most (p.writes g k.entries) (wholly p g k.entries) old new v (tells-wholly most p.has_tracks (p.answer g) k.entries h) k.kept
tells-kept most (Shows x) old new v h (inl k) = tells-written most (marked 1 k.0) (plainly Shown) old new v (omega arith) k.2
tells-kept most (Shows x) old new v h (inr (inl k)) = tells-plainly most v k.0 k.2
tells-kept most (Shows x) old new v h (inr (inr k)) = tells-plainly most v _ k.0
tells-kept most (Runs b) old new v h k =
    let few = few-histories (IsReportOf b) b.jobs k.reports.items k.are_reports in
    tells-written most (marked 1 (jobs_text k.reports.items)) (record { answer = Shown; told = Each k.reports }) old new v (omega (arith, few, h)) k.kept

-- ---- what a plan allows

allows-after : {A : Type 0} (most : ℕ) (x : Result A Answer) (next : A → Plan) → ((a : A) → x ≡ Ok a → Allows most (next a)) → Allows most (after x next)
allows-after most (Ok a) next h = h a refl
allows-after most (Err answer) next h = tt

allows-program : (most : ℕ) (r : Request) (found : Found) (next : Image → List ℕ → Plan) → ((i : Image) (input : List ℕ) → Allows most (next i input))
    → Allows most (after (image_in found.file) (λ i. after (input_in (not r.no_input) found.input) (next i)))
allows-program most r found next h =
    allows-after most (image_in found.file) (λ i. after (input_in (not r.no_input) found.input) (next i)) (λ i is. allows-after most (input_in (not r.no_input) found.input) (next i) (λ input it. h i input))

allows-batch : (r : Request) (known : Known) (found : Found) → AgreesWith known found
    → Allows 16 (after (list_in found.file) (λ names. after (input_in (not r.no_input) found.input) (λ input. Runs (batch_of r found.images input))))
allows-batch r known found agrees =
    allows-after 16 (list_in found.file) (λ names. after (input_in (not r.no_input) found.input) (λ input. Runs (batch_of r found.images input)))
    (λ names is. allows-after 16 (input_in (not r.no_input) found.input) (λ input. Runs (batch_of r found.images input))
    (λ input it.
    let named : names_in found.file ≡ Some names = named-by found.file names is in
    let few = names-few found.file names named in
    let same = as-many (λ name bytes. Agrees (known.named name) bytes) names found.images (agrees.images names named) in
    let mapped = length-map found.images image_in in
    omega (arith, few, same, mapped)))

allows-task : (task : Task) (r : Request) (known : Known) (found : Found) → r.task ≡ task → AgreesWith known found → Allows (most_histories task) (plan_for task r found)
allows-task Alone r known found e agrees = allows-program 0 r found _ (λ i input. rw e (omega arith))
allows-task Fast r known found e agrees = allows-program 0 r found _ (λ i input. rw e (omega arith))
allows-task Run r known found e agrees = allows-program 1 r found _ (λ i input. rw e (omega arith))
allows-task Trial r known found e agrees = allows-program 0 r found _ (λ i input. rw e (omega arith))
allows-task Explain r known found e agrees = allows-program 0 r found _ (λ i input. rw e (omega arith))
allows-task (Bench number) r known found e agrees = allows-after 1 (bench_image number) _ (λ i is. rw e (omega arith))
allows-task Check r known found e agrees = allows-program 0 r found _ (λ i input. allows-after 0 (journal_in found.beside) _ (λ journal is. tt))
allows-task BatchTask r known found e agrees = allows-batch r known found agrees
allows-task At r known found e agrees = allows-program 0 r found _ (λ i input. tt)
allows-task Tasks.List r known found e agrees = allows-after 0 (image_in found.file) _ (λ i is. tt)
allows-task Pack r known found e agrees = tt

-- a call hands out no more histories than its task may
pub told-few : (r : Request) (known : Known) (old new : Sinks) (v : Served) → IsServed (Some r) known old new v → length (histories_in v.told) ≤ most_histories r.task
told-few r known old new v h = by h.keeps
  where
    by : IsStopped old new v ⊎ Keeps (plan (Some r) h.found) old new v → length (histories_in v.told) ≤ most_histories r.task
    by (inl (inl e, same)) = tells-plainly (most_histories r.task) v _ e
    by (inl (inr e, same)) = tells-plainly (most_histories r.task) v _ e
    by (inr k) = tells-kept (most_histories r.task) (plan (Some r) h.found) old new v (allows-task r.task r known h.found refl h.agrees) k

-- so there is room for them
pub told-fits : (r : Request) (known : Known) (old new : Sinks) (v : Served) (len room : ℕ) → IsServed (Some r) known old new v → len + most_histories r.task ≤ room → len + length (histories_in v.told) ≤ room
told-fits r known old new v len room h fits = (let few = told-few r known old new v h in omega (arith, few, fits))
