use Rattle.speculation.proofs.ToyRuns.{StandsAt}
use Rattle.speculation.proofs.toy.run.Given as goal

abbrev pub invariant-loop-done : goal.invariant-loop-done
invariant-loop-done l = StandsAt l.program l.fn.start l.done l.state
