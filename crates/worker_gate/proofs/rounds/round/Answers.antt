use Rattle.worker_gate.specs.declared.kinds.Round.TheVariants as R
use Rattle.worker_gate.specs.Rounds.{HaltedFirst}
use Rattle.worker_gate.specs.Seats.{seen_of}
use Rattle.worker_gate.proofs.OwnLoans.{round-none}
use Rattle.worker_gate.proofs.Working.{pass-then, none-later, round-worked, round-halted}
use Rattle.worker_gate.proofs.rounds.round.Goals as goal

pub returns-in-Ok-clause-round : goal.returns-in-Ok-clause-round
returns-in-Ok-clause-round g c =
    round-worked c.args.pass.now c.begin.new.pass c.run.new.pass c.begin.ensures.pass c.in-Lent.loan.name c.in-Lent.ensures.found.0 c.in-Ok.ensures.ended

pub returns-in-Ok-clause-none : goal.returns-in-Ok-clause-none
returns-in-Ok-clause-none g c =
    let worked = round-worked c.args.pass.now c.begin.new.pass c.run.new.pass c.begin.ensures.pass c.in-Lent.loan.name c.in-Lent.ensures.found.0 c.in-Ok.ensures.ended in
    none-later c.args.pass.now c.run.new.pass (pass-then c.args.pass.now c.begin.new.pass c.run.new.pass c.begin.ensures.pass c.run.ensures.pass)
    (round-none c.args.pass.now.seat (seen_of c.args.pass.now) (seen_of c.run.new.pass) R.Worked c.requires.none worked)

pub returns-in-Err-clause-round : goal.returns-in-Err-clause-round
returns-in-Err-clause-round g c =
    round-halted c.args.pass.now c.begin.new.pass c.run.new.pass c.begin.ensures.pass c.in-Lent.loan.name c.in-Lent.ensures.found.0 c.in-Err.ensures.ended

pub returns-in-Err-clause-none : goal.returns-in-Err-clause-none
returns-in-Err-clause-none g c =
    let halted = round-halted c.args.pass.now c.begin.new.pass c.run.new.pass c.begin.ensures.pass c.in-Lent.loan.name c.in-Lent.ensures.found.0 c.in-Err.ensures.ended in
    none-later c.args.pass.now c.run.new.pass (pass-then c.args.pass.now c.begin.new.pass c.run.new.pass c.begin.ensures.pass c.run.ensures.pass)
    (round-none c.args.pass.now.seat (seen_of c.args.pass.now) (seen_of c.run.new.pass) R.NoMemory c.requires.none halted)

pub returns-in-Nothing-clause-none : goal.returns-in-Nothing-clause-none
returns-in-Nothing-clause-none g c =
    none-later c.args.pass.now c.begin.new.pass c.begin.ensures.pass
    (round-none c.args.pass.now.seat (seen_of c.args.pass.now) (seen_of c.begin.new.pass) R.Idle c.requires.none c.in-Nothing.ensures.found)

pub returns-in-Over-clause-none : goal.returns-in-Over-clause-none
returns-in-Over-clause-none g c =
    none-later c.args.pass.now c.begin.new.pass c.begin.ensures.pass
    (round-none c.args.pass.now.seat (seen_of c.args.pass.now) (seen_of c.begin.new.pass) R.Over c.requires.none c.in-Over.ensures.found)

pub returns-in-NoMemory-clause-round : goal.returns-in-NoMemory-clause-round
returns-in-NoMemory-clause-round g c = HaltedFirst c.in-NoMemory.ensures.found

pub returns-in-NoMemory-clause-none : goal.returns-in-NoMemory-clause-none
returns-in-NoMemory-clause-none g c =
    none-later c.args.pass.now c.begin.new.pass c.begin.ensures.pass
    (round-none c.args.pass.now.seat (seen_of c.args.pass.now) (seen_of c.begin.new.pass) R.NoMemory c.requires.none (HaltedFirst c.in-NoMemory.ensures.found))
