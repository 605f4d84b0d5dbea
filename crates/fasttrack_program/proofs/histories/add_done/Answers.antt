use Rattle.std.proofs.Common.{◌≡◌, List, None, Some, [], ◌∷◌, ◌++◌, length, sym, ap, ◌∙◌, append_assoc, arith}
use Rattle.std.specs.Vec.Iter.{into_iter_items}
use Rattle.job_listing.specs.declared.report.JobReport.{JobReport}
use Rattle.fasttrack_program.specs.Jobs.{history_in, histories_of_jobs}
use Rattle.fasttrack_program.proofs.OnJobs.{added-one, added-none, left-one, left-none}
use Rattle.fasttrack_program.proofs.histories.add_done.Goals as goal

pub loop-report-preserved-in-Some-history_of : goal.loop-report-preserved-in-Some-history_of
loop-report-preserved-in-Some-history_of c =
    let at = c.loop-report in
    let rest = into_iter_items c.next.new.self in
    let steps : into_iter_items at.report-iterator ≡ c.in-Some.report ∷ rest = c.in-Some.ensures.steps.0 in
    let is : history_in c.in-Some.report ≡ Some c.in-Some-history_of.entries = sym c.history_of.ensures ∙ c.in-Some-history_of.is in
    record {
      left = append_assoc at.yielded (c.in-Some.report ∷ []) _ ∙ ap (λ (xs : List JobReport). at.yielded ++ xs) (sym steps) ∙ at.invariant.left;
      few =
          let was = at.invariant.few in
          let gone = c.in-Some.ensures.steps.1 in
          let short = ap length steps in
          omega arith;
      added = added-one c.args.histories.now.items at.histories.items c.push_reserved.new.self.items at.yielded c.in-Some.report at.invariant.added c.in-Some-history_of.entries is c.push_reserved.ensures.items;
      room =
          let was = at.invariant.room in
          let short = ap (λ xs. length (histories_of_jobs xs)) steps in
          let one = left-one c.in-Some.report rest c.in-Some-history_of.entries is in
          let len = c.push_reserved.ensures.len in
          let capacity = c.push_reserved.ensures.capacity in
          omega (arith, was, short, one, len, capacity);
    }

pub loop-report-preserved : goal.loop-report-preserved
loop-report-preserved c =
    let at = c.loop-report in
    let rest = into_iter_items c.next.new.self in
    let steps : into_iter_items at.report-iterator ≡ c.in-Some.report ∷ rest = c.in-Some.ensures.steps.0 in
    let is : history_in c.in-Some.report ≡ None = sym c.history_of.ensures ∙ c.in_default.is in
    record {
      left = append_assoc at.yielded (c.in-Some.report ∷ []) _ ∙ ap (λ (xs : List JobReport). at.yielded ++ xs) (sym steps) ∙ at.invariant.left;
      few =
          let was = at.invariant.few in
          let gone = c.in-Some.ensures.steps.1 in
          let short = ap length steps in
          omega arith;
      added = added-none c.args.histories.now.items at.histories.items at.histories.items at.yielded c.in-Some.report at.invariant.added is;
      room =
          let was = at.invariant.room in
          let short = ap (λ xs. length (histories_of_jobs xs)) steps in
          let none = left-none c.in-Some.report rest is in
          omega (arith, was, short, none);
    }
