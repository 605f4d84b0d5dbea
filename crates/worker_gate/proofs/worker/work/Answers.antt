use Rattle.worker_gate.specs.Seats.{seen_of}
use Rattle.worker_gate.proofs.Working.{pass-first, pass-then, works-first, works-worked, works-on, works-halted}
use Rattle.worker_gate.proofs.worker.work.Goals as goal

pub loop-init : goal.loop-init
loop-init g c = record { later = pass-first c.args.pass.now; none = c.requires.none; works = works-first c.args.pass.now.seat (seen_of c.args.pass.now) }

pub loop-preserved-in-Worked : goal.loop-preserved-in-Worked
loop-preserved-in-Worked g c = record {
  later = pass-then c.args.pass.now c.loop.pass c.round.new.pass c.loop.invariant.later c.round.ensures.pass;
  none = c.round.ensures.none;
  works = works-worked c.args.pass.now c.loop.pass c.round.new.pass c.loop.invariant.later c.loop.invariant.works c.in-Worked.ensures.round;
}

pub loop-preserved : goal.loop-preserved
loop-preserved g c = record {
  later = pass-then c.args.pass.now c.loop.pass c.round.new.pass c.loop.invariant.later c.round.ensures.pass;
  none = c.round.ensures.none;
  works = works-on c.args.pass.now c.loop.pass c.round.new.pass c.loop.invariant.later c.loop.invariant.works c.in-Idle.ensures.round.0;
}

pub returns-in-Over-clause-work : goal.returns-in-Over-clause-work
returns-in-Over-clause-work g c =
    (works-on c.args.pass.now c.loop.pass c.round.new.pass c.loop.invariant.later c.loop.invariant.works c.in-Over.ensures.round.0, c.in-Over.ensures.round.1)

pub returns-in-NoMemory-clause-work : goal.returns-in-NoMemory-clause-work
returns-in-NoMemory-clause-work g c = works-halted c.args.pass.now c.loop.pass c.round.new.pass c.loop.invariant.later c.loop.invariant.works c.in-NoMemory.ensures.round
