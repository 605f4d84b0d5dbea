use Rattle.std.proofs.Common.{sym}
use Rattle.worker_gate.proofs.OnActs.{alone-halt}
use Rattle.worker_gate.proofs.OnTurns.{IsTurn, may-leave, known-left}
use Rattle.worker_gate.proofs.Leading.{turn-halts, turn-over}
use Rattle.worker_gate.proofs.releases.halt.Goals as goal

pub leave-requires-clause-value : goal.leave-requires-clause-value
leave-requires-clause-value g c =
    let turn : IsTurn c.args.pass.now c.enter-turn.new.pass 0 c.enter-turn.result c.get.result.now c.halt.new.self =
    record { own = sym c.requires.seat; entered = c.enter-turn.ensures.pass; extends = c.enter-turn.ensures.value; lent = c.get.ensures.value; alone = alone-halt 0 c.get.result.now c.halt.new.self c.halt.ensures.entry } in
    may-leave c.args.pass.now c.enter-turn.new.pass c.enter-turn.new.pass 0 c.enter-turn.result c.get.result.now c.halt.new.self turn

pub returns-clause-hands : goal.returns-clause-hands
returns-clause-hands g c =
    let turn : IsTurn c.args.pass.now c.enter-turn.new.pass 0 c.enter-turn.result c.get.result.now c.halt.new.self =
    record { own = sym c.requires.seat; entered = c.enter-turn.ensures.pass; extends = c.enter-turn.ensures.value; lent = c.get.ensures.value; alone = alone-halt 0 c.get.result.now c.halt.new.self c.halt.ensures.entry } in
    turn-halts c.args.pass.now c.enter-turn.new.pass c.leave.new.pass c.enter-turn.result c.get.result.now c.halt.new.self turn c.leave.ensures c.halt.ensures.known c.halt.ensures.entry

pub returns-clause-over : goal.returns-clause-over
returns-clause-over g c =
    let turn : IsTurn c.args.pass.now c.enter-turn.new.pass 0 c.enter-turn.result c.get.result.now c.halt.new.self =
    record { own = sym c.requires.seat; entered = c.enter-turn.ensures.pass; extends = c.enter-turn.ensures.value; lent = c.get.ensures.value; alone = alone-halt 0 c.get.result.now c.halt.new.self c.halt.ensures.entry } in
    turn-over c.args.pass.now c.enter-turn.new.pass c.leave.new.pass c.enter-turn.result c.get.result.now c.halt.new.self turn c.leave.ensures c.halt.ensures.known c.halt.ensures.over

pub returns-clause-known : goal.returns-clause-known
returns-clause-known g c =
    let turn : IsTurn c.args.pass.now c.enter-turn.new.pass 0 c.enter-turn.result c.get.result.now c.halt.new.self =
    record { own = sym c.requires.seat; entered = c.enter-turn.ensures.pass; extends = c.enter-turn.ensures.value; lent = c.get.ensures.value; alone = alone-halt 0 c.get.result.now c.halt.new.self c.halt.ensures.entry } in
    known-left c.args.pass.now c.enter-turn.new.pass c.leave.new.pass 0 c.enter-turn.result c.get.result.now c.halt.new.self turn c.leave.ensures c.halt.ensures.known
