use Rattle.worker_gate.proofs.OnActs.{alone-then, alone-halt}
use Rattle.worker_gate.proofs.Leading.{closed-over, takes-none}
use Rattle.worker_gate.proofs.releases.close.Goals as goal

pub returns-in-Ok-clause-over : goal.returns-in-Ok-clause-over
returns-in-Ok-clause-over c = closed-over c.take_outcome.new.board c.in-Ok.closed.outcome c.in-Ok.ensures.takes.1

pub returns-in-Err-clause-closes : goal.returns-in-Err-clause-closes
returns-in-Err-clause-closes c =
    let lost = c.in-Err.ensures.takes in
    takes-none lost.0 c.args.board.now c.take_outcome.new.board c.halt.new.self c.in-Err.field-0 lost.1 c.halt.ensures.entry c.halt.ensures.known

pub returns-in-Err-clause-alone : goal.returns-in-Err-clause-alone
returns-in-Err-clause-alone c =
    alone-then 0 c.args.board.now c.take_outcome.new.board c.halt.new.self c.take_outcome.ensures.alone (alone-halt 0 c.take_outcome.new.board c.halt.new.self c.halt.ensures.entry)
