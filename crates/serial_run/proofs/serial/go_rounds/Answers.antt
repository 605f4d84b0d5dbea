use Rattle.std.proofs.lemmas.Result.{err_from_is_err_and}
use Rattle.serial_run.proofs.OnOutcomes.{on-first, on-breaks, rounds-fall, rounds-on, rounds-end, rounds-refused}
use Rattle.serial_run.proofs.serial.go_rounds.Goals as goal

pub loop-init : goal.loop-init
loop-init g c = on-first c.args.board.now _ c.requires

pub loop-smaller : goal.loop-smaller
loop-smaller g c = rounds-fall c.args.board.now c.loop.board c.go_round.new.board _ _ _ c.loop.invariant c.in_ok-go_round.field-0 c.in_ok-go_round.ensures.round c.go_round.ensures.known c.if-branch.true

pub loop-preserved : goal.loop-preserved
loop-preserved g c = rounds-on c.args.board.now c.loop.board c.go_round.new.board _ _ _ c.loop.invariant c.in_ok-go_round.field-0 c.in_ok-go_round.ensures.round c.go_round.ensures.known c.if-branch.true

pub returns-in_err-go_round-clause-rounds : goal.returns-in_err-go_round-clause-rounds
returns-in_err-go_round-clause-rounds g c =
    let fault = err_from_is_err_and c.from_residual.result c.from_residual.ensures.1 in
    rw (fault.1, fault.2) (on-breaks c.args.board.now c.loop.board c.go_round.new.board _ _ _ c.in_err-go_round.field-0.0 c.loop.invariant c.in_err-go_round.ensures.round)

pub returns-in-Ok-clause-rounds : goal.returns-in-Ok-clause-rounds
returns-in-Ok-clause-rounds g c =
    let end = rounds-end c.args.board.now c.loop.board c.go_round.new.board _ _ _ c.loop.invariant c.in_ok-go_round.field-0 c.in_ok-go_round.ensures.round c.go_round.ensures.known c.if-branch.false in
    (end.0, end.1, c.in-Ok.ensures)

pub returns-in-Err-clause-rounds : goal.returns-in-Err-clause-rounds
returns-in-Err-clause-rounds g c = rounds-refused c.args.board.now c.loop.board c.go_round.new.board _ _ _ c.loop.invariant c.in_ok-go_round.field-0 c.in_ok-go_round.ensures.round c.go_round.ensures.known c.if-branch.false
