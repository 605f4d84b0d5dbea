use Rattle.track_board.proofs.Others.{out-stays, home-stays, lent-stays}
use Rattle.track_board.proofs.loan_laws.loans_stay_lent.Goals as goal

pub returns-clause-out : goal.returns-clause-out
returns-clause-out c = λ v w seat loan known after h out. out-stays v w seat loan known after h out

pub returns-clause-home : goal.returns-clause-home
returns-clause-home c = λ v w seat loan known after h out. home-stays v w seat loan known after h out

pub returns-clause-lent : goal.returns-clause-lent
returns-clause-lent c = λ v w seat n known after h lent. lent-stays v w seat n known after h lent
