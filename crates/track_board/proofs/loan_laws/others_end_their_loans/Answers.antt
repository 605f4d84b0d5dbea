use Rattle.track_board.proofs.Others.{others-back, others-gone}
use Rattle.track_board.proofs.loan_laws.others_end_their_loans.Goals as goal

pub returns-clause-back : goal.returns-clause-back
returns-clause-back c = λ seat other v w n result known differ lent h. others-back seat other v w n result known differ lent h

pub returns-clause-gone : goal.returns-clause-gone
returns-clause-gone c = λ seat other v w n known differ lent h. others-gone seat other v w n known differ lent h
