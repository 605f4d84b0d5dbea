use Rattle.std.proofs.Common.{◌≡◌, ◌+◌, ◌≤◌, ap, arith}
use Rattle.worker_gate.specs.Seats.{BoardPass, seen_of}
use Rattle.worker_gate.proofs.Concluding.{led-conducts, concludes-conducts}
use Rattle.worker_gate.proofs.conducting.conduct.Goals as goal

pub returns-in-Ok-clause-conducts : goal.returns-in-Ok-clause-conducts
returns-in-Ok-clause-conducts g c =
    let same : c.go_together.new.pass.stock ≡ c.passes_for-passes.new.pass.stock = ap (λ (p : BoardPass). p.stock) c.go_together.ensures.pass in
    let below : c.go_together.new.pass.stock ≤ c.args.workers + 1 = omega (arith, c.passes_for-passes.ensures.stock, same) in
    concludes-conducts c.args.workers c.go_together.new.pass.stock (seen_of c.go_together.new.pass) (seen_of c.conclude.new.pass) _ _ _ c.conclude.result below
    c.conclude.ensures.known c.in-Ok.ensures.led c.conclude.ensures.concludes

pub returns-clause-conducts : goal.returns-clause-conducts
returns-clause-conducts g c =
    rw c.answer_to.ensures (led-conducts c.args.workers (seen_of c.go_together.new.pass) _ _ c.in-Err.fault c.go_together.ensures.known c.in-Err.ensures.led)
