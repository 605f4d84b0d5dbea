use Rattle.worker_gate.proofs.OnActs.{alone-then, alone-back, back-ended, end-settled}
use Rattle.worker_gate.proofs.acts.give.Goals as goal

pub returns-clause-ended : goal.returns-clause-ended
returns-clause-ended c =
    end-settled c.args.seat c.args.loan.name c.args.board.now c.back.new.self c.settle.new.board c.settle.result
    (back-ended c.args.seat c.args.board.now c.back.new.self c.args.loan.name c.requires.known c.requires.home.lent c.back.result c.back.ensures.returned) c.settle.ensures.settled

pub returns-clause-alone : goal.returns-clause-alone
returns-clause-alone c =
    alone-then c.args.seat c.args.board.now c.back.new.self c.settle.new.board
    (alone-back c.args.seat c.args.board.now c.back.new.self c.args.loan.name c.requires.known c.requires.home.lent c.back.result c.back.ensures.returned) c.settle.ensures.alone
