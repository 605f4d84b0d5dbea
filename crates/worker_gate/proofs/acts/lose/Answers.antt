use Rattle.std.proofs.Common.{sym, ◌∙◌}
use Rattle.worker_gate.specs.Rounds.{HasEnded, HaltedByEnd}
use Rattle.worker_gate.proofs.OnActs.{alone-then, alone-gone, gone-halted, gone-over, gone-dropped, end-settled}
use Rattle.worker_gate.proofs.acts.lose.Goals as goal
use Rattle.worker_gate.proofs.acts.lose.Goals.{else-not-was_over-via-then-not-was_over+else-over, else-not-was_over-via-else-not-was_over}

pub returns-then-over-clause-ended : goal.returns-then-over-clause-ended
returns-then-over-clause-ended c =
    HaltedByEnd (gone-halted c.args.seat c.args.board.now c.give_up.new.self c.args.loan.name c.requires.known c.requires.lent c.give_up.ensures.entry
    (sym c.over-was_over.ensures.result ∙ c.if-not-was_over.true) (sym c.over.ensures.result ∙ c.if-over.true))

pub returns-then-over-clause-alone : goal.returns-then-over-clause-alone
returns-then-over-clause-alone c = alone-gone c.args.seat c.args.board.now c.give_up.new.self c.args.loan.name c.requires.known c.requires.lent c.give_up.ensures.entry

pub returns-clause-ended : goal.returns-clause-ended
returns-clause-ended c =
    let ended : HasEnded c.args.seat c.args.loan.name c.args.board.now c.give_up.new.self =
    elim c.else-not-was_over.branch [
      | else-not-was_over-via-then-not-was_over+else-over w ↦
          gone-dropped c.args.seat c.args.board.now c.give_up.new.self c.args.loan.name c.requires.known c.requires.lent c.give_up.ensures.entry
          c.give_up.ensures.over (sym w.over.ensures.result ∙ w.if-over.false)
      | else-not-was_over-via-else-not-was_over w ↦
          gone-over c.args.seat c.args.board.now c.give_up.new.self c.args.loan.name c.requires.known c.requires.lent c.give_up.ensures.entry
          (sym c.over-was_over.ensures.result ∙ w.if-not-was_over.false)
    ] in
    end-settled c.args.seat c.args.loan.name c.args.board.now c.give_up.new.self c.settle.new.board c.settle.result ended c.settle.ensures.settled

pub returns-clause-alone : goal.returns-clause-alone
returns-clause-alone c =
    alone-then c.args.seat c.args.board.now c.give_up.new.self c.settle.new.board
    (alone-gone c.args.seat c.args.board.now c.give_up.new.self c.args.loan.name c.requires.known c.requires.lent c.give_up.ensures.entry) c.settle.ensures.alone
