use Rattle.std.proofs.Common.{arith}
use Rattle.speculation_law.proofs.TrialLoops.{original-next, original-spent}
use Rattle.speculation_law.proofs.trial.original_count.Goals as goal

pub loop-done-preserved : goal.loop-done-preserved
loop-done-preserved c =
    original-next c.args.program.now c.args.start c.loop-done.done c.loop-done.state c.in-Next.next c.in-Next.field-1 c.loop-done.invariant c.in-Next.ensures c.if-at_end.ensures

pub returns : goal.returns
returns c = original-spent c.args.program.now c.args.start c.args.limit c.loop-done.done c.loop-done.state (omega arith) c.loop-done.invariant
