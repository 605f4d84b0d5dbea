use Rattle.std.proofs.Common.{sym, ◌∙◌}
use Rattle.worker_gate.proofs.OnActs.{alone-then, alone-settle, alone-halt, settled-done, settled-over, settled-halted}
use Rattle.worker_gate.proofs.acts.settle.Goals as goal

pub returns-in_default-clause-settled : goal.returns-in_default-clause-settled
returns-in_default-clause-settled c = settled-done c.args.seat c.in_default.field-0 c.args.board.now c.settle.new.self c.in_default.ensures.ok.0 c.in_default.ensures.ok.1

pub returns-in_default-clause-alone : goal.returns-in_default-clause-alone
returns-in_default-clause-alone c = alone-settle c.args.seat c.in_default.field-0 c.args.board.now c.settle.new.self c.in_default.ensures.ok.0

pub returns-then-over-clause-settled : goal.returns-then-over-clause-settled
returns-then-over-clause-settled c =
    let some = c.in-Err.ensures.err in
    settled-over c.args.seat some.0 c.args.board.now c.settle.new.self some.1 (sym c.over.ensures.result ∙ c.if-over.true)

pub returns-then-over-clause-alone : goal.returns-then-over-clause-alone
returns-then-over-clause-alone c =
    let some = c.in-Err.ensures.err in
    alone-settle c.args.seat some.0 c.args.board.now c.settle.new.self some.1

pub returns-clause-settled : goal.returns-clause-settled
returns-clause-settled c =
    let some = c.in-Err.ensures.err in
    settled-halted c.args.seat some.0 c.args.board.now c.settle.new.self c.halt.new.self some.1 (sym c.over.ensures.result ∙ c.if-over.false) c.halt.ensures.entry c.halt.ensures.over

pub returns-clause-alone : goal.returns-clause-alone
returns-clause-alone c =
    let some = c.in-Err.ensures.err in
    alone-then c.args.seat c.args.board.now c.settle.new.self c.halt.new.self
    (alone-settle c.args.seat some.0 c.args.board.now c.settle.new.self some.1) (alone-halt c.args.seat c.settle.new.self c.halt.new.self c.halt.ensures.entry)
