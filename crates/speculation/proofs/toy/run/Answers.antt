use Rattle.std.proofs.Common.{arith}
use Rattle.speculation.proofs.ToyRuns.{tells-spent}
use Rattle.speculation.proofs.toy.run.Goals as goal

pub returns : goal.returns
returns c = tells-spent c.args.program.now c.args.start c.args.limit c.loop-done.done c.loop-done.state c.loop-done.invariant (omega arith) (omega arith)
