use Rattle.track_board.proofs.Others.{lent-out, run-home}
use Rattle.track_board.proofs.loan_laws.loans_come_home.Goals as goal

pub returns-clause-out : goal.returns-clause-out
returns-clause-out c = λ v w seat loan h. lent-out v w seat loan h

pub returns-clause-home : goal.returns-clause-home
returns-clause-home c = λ v seat loan ran n out name count run. run-home v seat loan ran n out name count run
