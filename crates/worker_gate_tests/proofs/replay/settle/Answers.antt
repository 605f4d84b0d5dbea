use Rattle.std.proofs.Common.{suc}
use Rattle.track_board.proofs.Others.{others-settle}
use Rattle.worker_gate_tests.proofs.replay.settle.Goals as goal

pub returns-in_err-settle-clause-others : goal.returns-in_err-settle-clause-others
returns-in_err-settle-clause-others c = λ seat. others-settle (suc seat) c.in_err-settle.ensures.err.0 c.args.board.now c.settle.new.self c.in_err-settle.ensures.err.1

pub returns-clause-others : goal.returns-clause-others
returns-clause-others c = λ seat. others-settle (suc seat) c.in_ok-settle.field-0 c.args.board.now c.settle.new.self c.in_ok-settle.ensures.ok.0
