use Rattle.worker_gate.proofs.OnTurns.{IsTurn, may-leave, known-left, found-left}
use Rattle.worker_gate.proofs.turns.begin.Goals as goal

pub leave-requires-clause-value : goal.leave-requires-clause-value
leave-requires-clause-value g c =
    let turn : IsTurn c.args.pass.now c.enter-turn.new.pass c.seat-seat.result c.enter-turn.result c.get.result.now c.take-found.new.board =
    record { own = c.seat-seat.ensures; entered = c.enter-turn.ensures.pass; extends = c.enter-turn.ensures.value; lent = c.get.ensures.value; alone = c.take-found.ensures.alone } in
    may-leave c.args.pass.now c.enter-turn.new.pass c.enter-turn.new.pass c.seat-seat.result c.enter-turn.result c.get.result.now c.take-found.new.board turn

pub returns-clause-found : goal.returns-clause-found
returns-clause-found g c =
    let turn : IsTurn c.args.pass.now c.enter-turn.new.pass c.seat-seat.result c.enter-turn.result c.get.result.now c.take-found.new.board =
    record { own = c.seat-seat.ensures; entered = c.enter-turn.ensures.pass; extends = c.enter-turn.ensures.value; lent = c.get.ensures.value; alone = c.take-found.ensures.alone } in
    found-left c.args.pass.now c.enter-turn.new.pass c.leave.new.pass c.seat-seat.result c.enter-turn.result c.get.result.now c.take-found.new.board turn c.leave.ensures c.take-found.result c.take-found.ensures.found

pub returns-clause-known : goal.returns-clause-known
returns-clause-known g c =
    let turn : IsTurn c.args.pass.now c.enter-turn.new.pass c.seat-seat.result c.enter-turn.result c.get.result.now c.take-found.new.board =
    record { own = c.seat-seat.ensures; entered = c.enter-turn.ensures.pass; extends = c.enter-turn.ensures.value; lent = c.get.ensures.value; alone = c.take-found.ensures.alone } in
    known-left c.args.pass.now c.enter-turn.new.pass c.leave.new.pass c.seat-seat.result c.enter-turn.result c.get.result.now c.take-found.new.board turn c.leave.ensures c.take-found.ensures.known
