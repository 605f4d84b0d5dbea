use Rattle.worker_gate.proofs.OnTurns.{IsTurn, may-leave, known-left, home-there, end-left}
use Rattle.worker_gate.proofs.turns.end.Goals as goal

pub give-ended-requires-clause-home : goal.give-ended-requires-clause-home
give-ended-requires-clause-home g c =
    home-there c.args.pass.now c.seat-seat.result c.enter-turn.result c.get-board.result.now c.seat-seat.ensures c.enter-turn.ensures.value c.get-board.ensures.value c.requires.known c.entries_are_legal.ensures c.args.loan c.requires.home

pub leave-requires-clause-value : goal.leave-requires-clause-value
leave-requires-clause-value g c =
    let turn : IsTurn c.args.pass.now c.enter-turn.new.pass c.seat-seat.result c.enter-turn.result c.get-board.result.now c.give-ended.new.board =
    record { own = c.seat-seat.ensures; entered = c.enter-turn.ensures.pass; extends = c.enter-turn.ensures.value; lent = c.get-board.ensures.value; alone = c.give-ended.ensures.alone } in
    may-leave c.args.pass.now c.enter-turn.new.pass c.enter-turn.new.pass c.seat-seat.result c.enter-turn.result c.get-board.result.now c.give-ended.new.board turn

pub returns-clause-ended : goal.returns-clause-ended
returns-clause-ended g c =
    let turn : IsTurn c.args.pass.now c.enter-turn.new.pass c.seat-seat.result c.enter-turn.result c.get-board.result.now c.give-ended.new.board =
    record { own = c.seat-seat.ensures; entered = c.enter-turn.ensures.pass; extends = c.enter-turn.ensures.value; lent = c.get-board.ensures.value; alone = c.give-ended.ensures.alone } in
    end-left c.args.pass.now c.enter-turn.new.pass c.leave.new.pass c.seat-seat.result c.enter-turn.result c.get-board.result.now c.give-ended.new.board turn c.leave.ensures c.args.loan.name c.give-ended.result c.give-ended.ensures.ended

pub returns-clause-known : goal.returns-clause-known
returns-clause-known g c =
    let turn : IsTurn c.args.pass.now c.enter-turn.new.pass c.seat-seat.result c.enter-turn.result c.get-board.result.now c.give-ended.new.board =
    record { own = c.seat-seat.ensures; entered = c.enter-turn.ensures.pass; extends = c.enter-turn.ensures.value; lent = c.get-board.ensures.value; alone = c.give-ended.ensures.alone } in
    known-left c.args.pass.now c.enter-turn.new.pass c.leave.new.pass c.seat-seat.result c.enter-turn.result c.get-board.result.now c.give-ended.new.board turn c.leave.ensures c.give-ended.ensures.known
