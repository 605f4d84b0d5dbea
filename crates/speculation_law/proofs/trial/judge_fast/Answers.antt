use Rattle.std.proofs.Common.{None, Some}
use Rattle.speculation_law.proofs.TrialLoops.{judged-closed}
use Rattle.speculation_law.proofs.trial.judge_fast.Goals as goal

pub returns-in-None : goal.returns-in-None
returns-in-None c = judged-closed c.args.program.now c.args.start c.args.original c.in-Closed.fast c.run.result.last c.in-Closed.state None c.in-Closed.ensures c.run.ensures.last c.in-None.ensures

pub returns-in-Some : goal.returns-in-Some
returns-in-Some c =
    judged-closed c.args.program.now c.args.start c.args.original c.in-Closed.fast c.run.result.last c.in-Closed.state (Some c.in-Some.difference) c.in-Closed.ensures c.run.ensures.last c.in-Some.ensures
