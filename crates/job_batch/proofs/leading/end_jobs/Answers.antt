use Rattle.std.proofs.Common.{◌≡◌, List, [], ◌∷◌, ◌++◌, length, sym, ap, ◌∙◌, subst, append_assoc, arith}
use Rattle.std.specs.Prelude.{All}
use Rattle.std.specs.Vec.Iter.{into_iter_items}
use Rattle.job_batch.specs.declared.leading.LedJob.{LedJob}
use Rattle.job_batch.specs.Parts.{HasSeats}
use Rattle.job_batch.proofs.Lists.{All-behind}
use Rattle.job_batch.proofs.Places.{ends-more}
use Rattle.job_batch.proofs.leading.end_jobs.Goals as goal

pub loop-job-preserved : goal.loop-job-preserved
loop-job-preserved g c =
    let at = c.loop-job in
    let steps : into_iter_items at.job-iterator ≡ c.in-Some.job ∷ into_iter_items c.next.new.self = c.in-Some.ensures.steps.0 in
    let whole : at.yielded ++ c.in-Some.job ∷ into_iter_items c.next.new.self ≡ c.args.jobs.items = ap (λ (js : List LedJob). at.yielded ++ js) (sym steps) ∙ at.invariant.left in
    record {
      left = append_assoc at.yielded (c.in-Some.job ∷ []) _ ∙ whole;
      few =
          let was = at.invariant.few in
          let gone = c.in-Some.ensures.steps.1 in
          let short = ap length steps in
          omega arith;
      ended = λ workers seats.
          ends-more workers at.yielded c.in-Some.job at.ends.items c.push.new.self.items c.end_job-end.result c.in_ok-push.ensures.items (at.invariant.ended workers seats)
          (c.end_job-end.ensures workers (All-behind (HasSeats workers) at.yielded c.in-Some.job (into_iter_items c.next.new.self) (subst (All (HasSeats workers)) (sym whole) seats)));
    }
