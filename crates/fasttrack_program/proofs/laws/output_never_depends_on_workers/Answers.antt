use Rattle.std.proofs.Common.{◌≡◌, ℕ, false, List, ◌++◌, refl, ap}
use Rattle.std.specs.Prelude.{IsTrue}
use Rattle.speculation.specs.declared.history.Entry.{Entry}
use Rattle.speculation.specs.Record.{output_of}
use Rattle.speculation.specs.Run.{marked}
use Rattle.program_words.specs.declared.request.Task.{Task}
use Rattle.program_words.specs.declared.request.Task.TheVariants as Tasks
use Rattle.program_words.specs.declared.request.Task.TheVariants.{Alone, Fast, Run, Trial, Explain, Bench, Check, Batch, At, Pack}
use Rattle.program_words.specs.CommandLine.{Request}
use Rattle.fasttrack_program.specs.Plan.{Found, shows, plan_for}
use Rattle.fasttrack_program.specs.Promise.{Given, alone_on, promise_of, texts_behind}
use Rattle.fasttrack_program.proofs.laws.output_never_depends_on_workers.Goals as goal

-- the same task with so many workers
abbrev with_workers : Given → ℕ → Given
with_workers g workers = record g { options = record g.options { workers = workers } }

texts : (g : Given) (entries others : List Entry) → g.options.journal ≡ false → texts_behind g entries ≡ texts_behind g others
texts g entries others h = rw h refl

pub returns-clause-writes : goal.returns-clause-writes
returns-clause-writes c = by_task
  where
    by_task : (task : Task) (g : Given) (workers : ℕ) (entries others : List Entry) → g.options.journal ≡ false → (promise_of task).writes (with_workers g workers) entries ≡ (promise_of task).writes g others
    by_task Alone g workers entries others h = refl
    by_task Fast g workers entries others h = refl
    by_task Run g workers entries others h = ap (λ (text : List ℕ). output_of (alone_on g) ++ marked 2 text) (texts g entries others h)
    by_task Trial g workers entries others h = refl
    by_task Explain g workers entries others h = refl
    by_task (Bench number) g workers entries others h = refl
    by_task Check g workers entries others h = refl
    by_task Batch g workers entries others h = refl
    by_task At g workers entries others h = refl
    by_task Tasks.List g workers entries others h = refl
    by_task Pack g workers entries others h = refl

pub returns-clause-answers : goal.returns-clause-answers
returns-clause-answers c = by_task
  where
    by_task : (task : Task) (g : Given) (workers : ℕ) → (promise_of task).answer (with_workers g workers) ≡ (promise_of task).answer g
    by_task Alone g workers = refl
    by_task Fast g workers = refl
    by_task Run g workers = refl
    by_task Trial g workers = refl
    by_task Explain g workers = refl
    by_task (Bench number) g workers = refl
    by_task Check g workers = refl
    by_task Batch g workers = refl
    by_task At g workers = refl
    by_task Tasks.List g workers = refl
    by_task Pack g workers = refl

pub returns-clause-texts : goal.returns-clause-texts
returns-clause-texts c = λ request found workers shown. by_task request found workers request.task shown
  where
    by_task : (r : Request) (found : Found) (workers : ℕ) (task : Task) → IsTrue (shows task) → plan_for task (record r { workers = workers }) found ≡ plan_for task r found
    by_task r found workers Check h = refl
    by_task r found workers At h = refl
    by_task r found workers Tasks.List h = refl
    by_task r found workers Pack h = refl
    by_task r found workers Alone h = absurd (cc)
    by_task r found workers Fast h = absurd (cc)
    by_task r found workers Run h = absurd (cc)
    by_task r found workers Trial h = absurd (cc)
    by_task r found workers Explain h = absurd (cc)
    by_task r found workers (Bench number) h = absurd (cc)
    by_task r found workers Batch h = absurd (cc)
