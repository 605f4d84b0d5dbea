use Rattle.serial_run.proofs.OnRounds.{by-extends}
use Rattle.serial_run.proofs.OnOutcomes.{underway-first, extends-same, on-whole, failed-conducts, failed-same, failed-after}
use Rattle.serial_run.proofs.serial.conduct_serial.Goals as goal

pub go_rounds-requires : goal.go_rounds-requires
go_rounds-requires g c = underway-first c.args.board.now c.requires.fresh

pub returns-in-Ok-clause-conducts : goal.returns-in-Ok-clause-conducts
returns-in-Ok-clause-conducts g c =
    let rounds = c.in-Ok.ensures.rounds in
    on-whole c.args.board.now c.go_rounds.new.board _ _ c.in-Ok.outcome c.requires.fresh rounds.0 rounds.1 rounds.2 c.go_rounds.ensures.known

pub returns-in-Ok-clause-same : goal.returns-in-Ok-clause-same
returns-in-Ok-clause-same g c =
    let on = c.in-Ok.ensures.rounds.0 in
    extends-same c.args.board.now c.go_rounds.new.board (by-extends on.count c.args.board.now c.go_rounds.new.board on.by)

pub returns-in-Err-clause-conducts : goal.returns-in-Err-clause-conducts
returns-in-Err-clause-conducts g c =
    rw c.answer_to.ensures (failed-conducts c.args.board.now c.go_rounds.new.board c.halt.new.self _ _ c.requires.fresh c.go_rounds.ensures.known c.halt.ensures.entry c.in-Err.fault c.in-Err.ensures.rounds)

pub returns-in-Err-clause-same : goal.returns-in-Err-clause-same
returns-in-Err-clause-same g c =
    failed-same c.args.board.now c.go_rounds.new.board c.halt.new.self _ _ c.requires.fresh c.go_rounds.ensures.known c.halt.ensures.entry c.in-Err.fault c.in-Err.ensures.rounds

pub returns-in-Err-clause-failure : goal.returns-in-Err-clause-failure
returns-in-Err-clause-failure g c =
    rw c.answer_to.ensures (failed-after c.args.board.now c.go_rounds.new.board c.halt.new.self _ _ c.requires.fresh c.go_rounds.ensures.known c.halt.ensures.entry c.in-Err.fault c.in-Err.ensures.rounds)
