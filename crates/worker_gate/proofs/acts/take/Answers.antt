use Rattle.std.proofs.Common.{sym, ◌∙◌}
use Rattle.worker_gate.proofs.OnActs.{alone-then, alone-same, alone-halt, alone-lent, found-lent, found-nothing, found-halted}
use Rattle.worker_gate.proofs.acts.take.Goals as goal

pub returns-in-Ok-Some-clause-found : goal.returns-in-Ok-Some-clause-found
returns-in-Ok-Some-clause-found c =
    let lent = rw c.in-Ok-Some.field-0-is at c.in-Ok-Some.ensures.loan in
    found-lent c.args.seat c.args.board.now c.settle.new.board c.lend.new.self c.in-Ok-Some.loan c.in-Ok.ensures.settled lent

pub returns-in-Ok-Some-clause-alone : goal.returns-in-Ok-Some-clause-alone
returns-in-Ok-Some-clause-alone c =
    alone-then c.args.seat c.args.board.now c.settle.new.board c.lend.new.self c.settle.ensures.alone
    (alone-lent c.args.seat c.settle.new.board c.lend.new.self c.in-Ok-Some.field-0 c.in-Ok-Some.ensures.loan)

pub returns-in-Ok-None-clause-found : goal.returns-in-Ok-None-clause-found
returns-in-Ok-None-clause-found c =
    let lent = rw c.in-Ok-None.field-0-is at c.in-Ok-None.ensures.loan in
    found-nothing c.args.seat c.args.board.now c.settle.new.board c.lend.new.self c.in-Ok.ensures.settled (sym c.over.ensures.result ∙ c.if-over.false) lent

pub returns-in-Ok-None-clause-alone : goal.returns-in-Ok-None-clause-alone
returns-in-Ok-None-clause-alone c =
    alone-then c.args.seat c.args.board.now c.settle.new.board c.lend.new.self c.settle.ensures.alone
    (alone-lent c.args.seat c.settle.new.board c.lend.new.self c.in-Ok-None.field-0 c.in-Ok-None.ensures.loan)

pub returns-in-Err-clause-found : goal.returns-in-Err-clause-found
returns-in-Err-clause-found c =
    found-halted c.args.seat c.args.board.now c.settle.new.board c.lend.new.self c.halt.new.self c.in-Ok.ensures.settled (sym c.over.ensures.result ∙ c.if-over.false)
    c.in-Err.ensures.loan c.halt.ensures.entry c.halt.ensures.over

pub returns-in-Err-clause-alone : goal.returns-in-Err-clause-alone
returns-in-Err-clause-alone c =
    alone-then c.args.seat c.args.board.now c.settle.new.board c.halt.new.self c.settle.ensures.alone
    (alone-then c.args.seat c.settle.new.board c.lend.new.self c.halt.new.self (alone-same c.args.seat c.settle.new.board c.lend.new.self c.in-Err.ensures.loan)
    (alone-halt c.args.seat c.lend.new.self c.halt.new.self c.halt.ensures.entry))
