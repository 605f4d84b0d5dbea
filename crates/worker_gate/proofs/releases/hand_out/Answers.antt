use Rattle.worker_gate.proofs.OnActs.{alone-then, alone-settle, alone-halt}
use Rattle.worker_gate.proofs.Leading.{hands-taken, hands-gave_up, alone-taken}
use Rattle.worker_gate.proofs.releases.hand_out.Goals as goal

pub returns-in-Ok-clause-hands : goal.returns-in-Ok-clause-hands
returns-in-Ok-clause-hands c = (hands-taken c.args.board.now c.take_verified.new.board c.in-Ok.bytes c.in-Ok.ensures.taken c.take_verified.ensures.known, c.over-over.ensures.result)

pub returns-in-Ok-clause-alone : goal.returns-in-Ok-clause-alone
returns-in-Ok-clause-alone c = alone-taken c.args.board.now c.take_verified.new.board c.in-Ok.bytes c.in-Ok.ensures.taken

pub returns-in-Err-clause-hands : goal.returns-in-Err-clause-hands
returns-in-Err-clause-hands c =
    (hands-gave_up c.args.board.now c.take_verified.new.board c.halt.new.self c.in-Err.ensures.taken c.halt.ensures.entry c.halt.ensures.known, c.halt.ensures.over)

pub returns-in-Err-clause-alone : goal.returns-in-Err-clause-alone
returns-in-Err-clause-alone c =
    let some = c.in-Err.ensures.taken in
    alone-then 0 c.args.board.now c.take_verified.new.board c.halt.new.self
    (alone-settle 0 some.0 c.args.board.now c.take_verified.new.board some.1) (alone-halt 0 c.take_verified.new.board c.halt.new.self c.halt.ensures.entry)
