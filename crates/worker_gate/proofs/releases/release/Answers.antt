use Rattle.std.proofs.Common.{sym}
use Rattle.worker_gate.proofs.OnTurns.{IsTurn, may-leave, known-left}
use Rattle.worker_gate.proofs.Leading.{turn-releases}
use Rattle.worker_gate.proofs.releases.release.Goals as goal

pub leave-requires-clause-value : goal.leave-requires-clause-value
leave-requires-clause-value g c =
    let turn : IsTurn c.args.pass.now c.enter-turn.new.pass 0 c.enter-turn.result c.get.result.now c.hand_out-verified.new.board =
    record { own = sym c.requires.seat; entered = c.enter-turn.ensures.pass; extends = c.enter-turn.ensures.value; lent = c.get.ensures.value; alone = c.hand_out-verified.ensures.alone } in
    may-leave c.args.pass.now c.enter-turn.new.pass c.enter-turn.new.pass 0 c.enter-turn.result c.get.result.now c.hand_out-verified.new.board turn

pub returns-clause-hands : goal.returns-clause-hands
returns-clause-hands g c =
    let turn : IsTurn c.args.pass.now c.enter-turn.new.pass 0 c.enter-turn.result c.get.result.now c.hand_out-verified.new.board =
    record { own = sym c.requires.seat; entered = c.enter-turn.ensures.pass; extends = c.enter-turn.ensures.value; lent = c.get.ensures.value; alone = c.hand_out-verified.ensures.alone } in
    turn-releases c.args.pass.now c.enter-turn.new.pass c.leave.new.pass c.enter-turn.result c.get.result.now c.hand_out-verified.new.board turn c.leave.ensures c.hand_out-verified.ensures.known c.hand_out-verified.result c.hand_out-verified.ensures.hands

pub returns-clause-known : goal.returns-clause-known
returns-clause-known g c =
    let turn : IsTurn c.args.pass.now c.enter-turn.new.pass 0 c.enter-turn.result c.get.result.now c.hand_out-verified.new.board =
    record { own = sym c.requires.seat; entered = c.enter-turn.ensures.pass; extends = c.enter-turn.ensures.value; lent = c.get.ensures.value; alone = c.hand_out-verified.ensures.alone } in
    known-left c.args.pass.now c.enter-turn.new.pass c.leave.new.pass 0 c.enter-turn.result c.get.result.now c.hand_out-verified.new.board turn c.leave.ensures c.hand_out-verified.ensures.known
