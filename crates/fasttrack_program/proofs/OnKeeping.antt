-- Promises that are kept whole or in part
use Rattle.std.proofs.Common.{◌≡◌, List, [], ◌++◌, Err, inl, inr, refl, sym, ap, ◌∙◌, subst, append_assoc}
use Rattle.speculation.specs.declared.history.Entry.{Entry}
use Rattle.speculation.specs.Run.{Mark, marked}
use Rattle.guest_model.specs.declared.end.End.{End}
use Rattle.guest_model.specs.declared.end.End.TheVariants as E
use Rattle.guest_streams.specs.GuestStreams.{Sinks, GetsAll, GetsPart, StopsShort, end_of}
use Rattle.guest_streams.specs.declared.fault.OutputFault.{OutputFault}
use Rattle.guest_streams.specs.declared.fault.OutputFault.TheVariants as F
use Rattle.guest_streams.proofs.OnStreams.{GetsAll-nothing, StopsShort-amid, GetsPart-of}
use Rattle.program_words.specs.declared.request.Task.{Task}
use Rattle.program_words.specs.declared.request.Task.TheVariants as Tasks
use Rattle.program_words.specs.declared.request.Task.TheVariants.{Alone, Fast, Run, Trial, Explain, Bench, Check, Batch as BatchTask, At, Pack}
use Rattle.fasttrack_program.specs.declared.answer.Answer.{Answer}
use Rattle.fasttrack_program.specs.declared.answer.Answer.TheVariants.{Shown, WriteFault, NoMemory}
use Rattle.fasttrack_program.specs.declared.served.Served.{Served}
use Rattle.fasttrack_program.specs.declared.served.Told.TheVariants.{Each}
use Rattle.fasttrack_program.specs.Answers.{answer_of, answer_of_fault}
use Rattle.job_listing.specs.Listing.{jobs_text}
use Rattle.fasttrack_program.specs.Jobs.{Batch}
use Rattle.fasttrack_program.specs.Promise.{Given, Promise, alone_on, fast_on, promise_of, IsHistory}
use Rattle.fasttrack_program.specs.Reading.{IsLate}
use Rattle.fasttrack_program.specs.Serving.{plainly, wholly, IsWritten, IsShown, KeepsPromise, IsRun}
use Rattle.fasttrack_program.specs.Showing.{Showing, OfJournal, OfStates, OfWords, OfText, Tells}

-- an output that broke off
abbrev pub BreaksOff : OutputFault → Sinks → Sinks → List Mark → Type 0
BreaksOff F.Write old new output = StopsShort old new output
BreaksOff F.NoMemory old new output = GetsPart old new output

-- nothing was written
pub GetsPart-nothing : (s : Sinks) (output : List Mark) → GetsPart s s output
GetsPart-nothing s output = GetsPart-of s s [] output (GetsAll-nothing s)

-- an output that broke off, with more behind it
pub BreaksOff-longer : (e : OutputFault) (s t : Sinks) (output more : List Mark) → BreaksOff e s t output → BreaksOff e s t (output ++ more)
BreaksOff-longer F.Write s t output more h = StopsShort-amid s s t [] output more (GetsAll-nothing s) h
BreaksOff-longer F.NoMemory s t output more h = record {
  got = h.got;
  rest = h.rest ++ more;
  parts = sym (append_assoc h.got h.rest more) ∙ ap (λ ms. ms ++ more) h.parts;
  gets = h.gets;
  calm = h.calm;
}

-- ---- a promise

module _ (p : Promise) (g : Given) (entries : List Entry) (history : IsHistory p.has_tracks g entries) (old new : Sinks) where
  pub kept-whole : GetsAll old new (p.writes g entries) → KeepsPromise p g old new (wholly p g entries)
  kept-whole h = record { entries = entries; history = history; kept = inl (refl, h) }

  pub kept-part : (e : OutputFault) → BreaksOff e old new (p.writes g entries) → KeepsPromise p g old new (plainly (answer_of_fault e))
  kept-part F.Write h = record { entries = entries; history = history; kept = inr (inl (refl, h)) }
  kept-part F.NoMemory h = record { entries = entries; history = history; kept = inr (inr (refl, h)) }

-- ---- what a task answers

-- a read fault is the answer of no task, nor is any answer that comes before the input

late-end : (e : End) → IsLate (answer_of e)
late-end (E.Exit code) = (λ is. cc, λ early. early)
late-end (E.Trap trap pc) = (λ is. cc, λ early. early)
late-end E.Spent = (λ is. cc, λ early. early)

late-task : (task : Task) (g : Given) → IsLate ((promise_of task).answer g)
late-task Alone g = late-end (end_of (alone_on g).end)
late-task Fast g = late-end (end_of (fast_on g).end)
late-task Run g = late-end (end_of (alone_on g).end)
late-task Trial g = (λ is. cc, λ early. early)
late-task Explain g = (λ is. cc, λ early. early)
late-task (Bench number) g = (λ is. cc, λ early. early)
late-task Check g = (λ is. cc, λ early. early)
late-task BatchTask g = (λ is. cc, λ early. early)
late-task At g = (λ is. cc, λ early. early)
late-task Tasks.List g = (λ is. cc, λ early. early)
late-task Pack g = (λ is. cc, λ early. early)

late-as : (v w : Served) → v ≡ w → IsLate w.answer → IsLate v.answer
late-as v w e late = subst (λ (x : Served). IsLate x.answer) (sym e) late

late-written : (output : List Mark) (whole : Served) (old new : Sinks) (v : Served) → IsLate whole.answer → IsWritten output whole old new v → IsLate v.answer
late-written output whole old new v late (inl h) = late-as v whole h.0 late
late-written output whole old new v late (inr (inl h)) = late-as v (plainly WriteFault) h.0 (λ is. cc, λ early. early)
late-written output whole old new v late (inr (inr h)) = late-as v (plainly NoMemory) h.0 (λ is. cc, λ early. early)

pub late-kept : (task : Task) (g : Given) (old new : Sinks) (v : Served) → KeepsPromise (promise_of task) g old new v → IsLate v.answer
late-kept task g old new v k =
    let p = promise_of task in
    late-written (p.writes g k.entries) (wholly p g k.entries) old new v (late-task task g) k.kept

late-told : (x : Showing) (answer : Answer) → Tells x (Err answer) → IsLate answer
late-told (OfJournal i input b journal) answer h = subst IsLate (sym h.answer_is) (λ is. cc, λ early. early)
late-told (OfStates i input counts) answer h = subst IsLate (sym h.2) (λ is. cc, λ early. early)
late-told (OfWords i) answer h = absurd h
late-told (OfText text) answer h = subst IsLate (sym h.2) (λ is. cc, λ early. early)

pub late-shown : (x : Showing) (old new : Sinks) (v : Served) → IsShown x old new v → IsLate v.answer
late-shown x old new v (inl h) = late-written (marked 1 h.0) (plainly Shown) old new v (λ is. cc, λ early. early) h.2
late-shown x old new v (inr (inl h)) = late-as v (plainly h.0) h.2 (late-told x h.0 h.1)
late-shown x old new v (inr (inr h)) = late-as v (plainly NoMemory) h.0 (λ is. cc, λ early. early)

pub late-run : (b : Batch) (old new : Sinks) (v : Served) → IsRun b old new v → IsLate v.answer
late-run b old new v (inl h) = late-as v (plainly NoMemory) h.0 (λ is. cc, λ early. early)
late-run b old new v (inr k) = late-written (marked 1 (jobs_text k.reports.items)) (record { answer = Shown; told = Each k.reports }) old new v (λ is. cc, λ early. early) k.kept
