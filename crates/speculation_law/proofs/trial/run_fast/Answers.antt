use Rattle.std.proofs.Common.{arith}
use Rattle.speculation_law.proofs.TrialLoops.{fast-first, fast-closed_first, fast-closed}
use Rattle.speculation_law.proofs.trial.run_fast.Goals as goal

pub returns-then-at_end : goal.returns-then-at_end
returns-then-at_end c = fast-closed_first c.args.program.now c.args.start c.args.limit c.answer_one-state.result c.requires.some c.answer_one-state.ensures c.if-at_end.ensures

pub loop-done-init : goal.loop-done-init
loop-done-init c = fast-first c.args.program.now c.args.start c.answer_one-state.result c.answer_one-state.ensures c.if-at_end.ensures

pub returns-then-at_end-2 : goal.returns-then-at_end-2
returns-then-at_end-2 c =
    fast-closed c.args.program.now c.args.start c.args.limit c.loop-done.done c.loop-done.state c.in-Next.next c.in-Next.field-1 (omega arith) (omega arith) c.loop-done.invariant c.in-Next.ensures c.if-at_end-2.ensures
