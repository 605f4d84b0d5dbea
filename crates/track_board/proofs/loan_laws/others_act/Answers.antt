use Rattle.track_board.proofs.Others.{others-settle, others-release, others-lend, others-halt, others-then}
use Rattle.track_board.proofs.loan_laws.others_act.Goals as goal

pub returns-clause-settle : goal.returns-clause-settle
returns-clause-settle c = λ seat n v w h. others-settle seat n v w h

pub returns-clause-release : goal.returns-clause-release
returns-clause-release c = λ seat v w bytes differ h. others-release seat v w bytes differ h

pub returns-clause-lend : goal.returns-clause-lend
returns-clause-lend c = λ seat other v w loan differ h. others-lend seat other v w loan differ h

pub returns-clause-halt : goal.returns-clause-halt
returns-clause-halt c = λ seat other v w differ h. others-halt seat other v w differ h

pub returns-clause-after : goal.returns-clause-after
returns-clause-after c = λ seat u v w a b. others-then seat u v w a b
