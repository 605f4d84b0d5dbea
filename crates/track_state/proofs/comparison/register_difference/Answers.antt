use Rattle.std.proofs.Common.{arith}
use Rattle.track_state.proofs.OnComparison.{register-none, register-some}
use Rattle.track_state.proofs.comparison.register_difference.Goals as goal

pub returns-then-get : goal.returns-then-get
returns-then-get c = register-some c.args.f.now c.args.g.now c.loop-r.r (omega arith) (λ e. absurd (omega (arith, c.get.ensures.value, c.get-in-loop-r.ensures.value))) c.loop-r.invariant.agrees

pub returns : goal.returns
returns c = register-none c.args.f.now c.args.g.now c.loop-r.r c.loop-r.invariant.agrees (omega arith)
