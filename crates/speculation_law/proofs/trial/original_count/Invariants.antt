use Rattle.speculation_law.proofs.TrialLoops.{OriginalAt}
use Rattle.speculation_law.proofs.trial.original_count.Given as goal

abbrev pub invariant-loop-done : goal.invariant-loop-done
invariant-loop-done l = OriginalAt l.program l.fn.start l.done l.state
