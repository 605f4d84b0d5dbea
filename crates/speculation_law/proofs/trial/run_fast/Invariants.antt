use Rattle.speculation_law.proofs.TrialLoops.{FastAt}
use Rattle.speculation_law.proofs.trial.run_fast.Given as goal

abbrev pub invariant-loop-done : goal.invariant-loop-done
invariant-loop-done l = FastAt l.program l.fn.start l.done l.state
