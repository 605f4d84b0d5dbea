use Rattle.std.proofs.Common.{ap}
use Rattle.worker_gate.specs.Seats.{seen_of, own_loans}
use Rattle.worker_gate.proofs.Concluding.{led-first}
use Rattle.worker_gate.proofs.Working.{pass-first, pass-then}
use Rattle.worker_gate.proofs.conducting.lead.Goals as goal

pub loop-init : goal.loop-init
loop-init g c = record {
  later = pass-first c.args.pass.now;
  none = ap (own_loans c.args.pass.now.seat) c.requires.seen;
  led = led-first (seen_of c.args.pass.now) _ c.requires.seen;
}

pub loop-preserved-in-Ok-Worked : goal.loop-preserved-in-Ok-Worked
loop-preserved-in-Ok-Worked g c = record {
  later = pass-then c.args.pass.now c.loop.pass c.lead_round.new.pass c.loop.invariant.later c.lead_round.ensures.pass;
  none = c.lead_round.ensures.none;
  led = c.in-Ok-Worked.ensures.led _ c.loop.invariant.led;
}

pub loop-preserved : goal.loop-preserved
loop-preserved g c = record {
  later = pass-then c.args.pass.now c.loop.pass c.lead_round.new.pass c.loop.invariant.later c.lead_round.ensures.pass;
  none = c.lead_round.ensures.none;
  led = c.in-Ok-Idle.ensures.led _ c.loop.invariant.led;
}

pub returns-in-Ok-Over-clause-led : goal.returns-in-Ok-Over-clause-led
returns-in-Ok-Over-clause-led g c = c.in-Ok-Over.ensures.led _ c.loop.invariant.led

pub returns-in-Err-clause-led : goal.returns-in-Err-clause-led
returns-in-Err-clause-led g c = c.in-Err.ensures.led _ c.loop.invariant.led
