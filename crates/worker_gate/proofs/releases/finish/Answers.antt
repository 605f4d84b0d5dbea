use Rattle.std.proofs.Common.{sym}
use Rattle.worker_gate.proofs.OnTurns.{IsTurn, may-leave, known-left}
use Rattle.worker_gate.proofs.Leading.{turn-closes, turn-over}
use Rattle.worker_gate.proofs.releases.finish.Goals as goal

pub leave-requires-clause-value : goal.leave-requires-clause-value
leave-requires-clause-value g c =
    let turn : IsTurn c.args.pass.now c.enter-turn.new.pass 0 c.enter-turn.result c.get.result.now c.close-closed.new.board =
    record { own = sym c.requires.seat; entered = c.enter-turn.ensures.pass; extends = c.enter-turn.ensures.value; lent = c.get.ensures.value; alone = c.close-closed.ensures.alone } in
    may-leave c.args.pass.now c.enter-turn.new.pass c.enter-turn.new.pass 0 c.enter-turn.result c.get.result.now c.close-closed.new.board turn

pub returns-clause-closes : goal.returns-clause-closes
returns-clause-closes g c =
    let turn : IsTurn c.args.pass.now c.enter-turn.new.pass 0 c.enter-turn.result c.get.result.now c.close-closed.new.board =
    record { own = sym c.requires.seat; entered = c.enter-turn.ensures.pass; extends = c.enter-turn.ensures.value; lent = c.get.ensures.value; alone = c.close-closed.ensures.alone } in
    turn-closes c.args.pass.now c.enter-turn.new.pass c.leave.new.pass c.enter-turn.result c.get.result.now c.close-closed.new.board turn c.leave.ensures c.close-closed.ensures.known c.close-closed.result c.requires.stock c.close-closed.ensures.closes

pub returns-clause-over : goal.returns-clause-over
returns-clause-over g c =
    let turn : IsTurn c.args.pass.now c.enter-turn.new.pass 0 c.enter-turn.result c.get.result.now c.close-closed.new.board =
    record { own = sym c.requires.seat; entered = c.enter-turn.ensures.pass; extends = c.enter-turn.ensures.value; lent = c.get.ensures.value; alone = c.close-closed.ensures.alone } in
    turn-over c.args.pass.now c.enter-turn.new.pass c.leave.new.pass c.enter-turn.result c.get.result.now c.close-closed.new.board turn c.leave.ensures c.close-closed.ensures.known c.close-closed.ensures.over

pub returns-clause-known : goal.returns-clause-known
returns-clause-known g c =
    let turn : IsTurn c.args.pass.now c.enter-turn.new.pass 0 c.enter-turn.result c.get.result.now c.close-closed.new.board =
    record { own = sym c.requires.seat; entered = c.enter-turn.ensures.pass; extends = c.enter-turn.ensures.value; lent = c.get.ensures.value; alone = c.close-closed.ensures.alone } in
    known-left c.args.pass.now c.enter-turn.new.pass c.leave.new.pass 0 c.enter-turn.result c.get.result.now c.close-closed.new.board turn c.leave.ensures c.close-closed.ensures.known
