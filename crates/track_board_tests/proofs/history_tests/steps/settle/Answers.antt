use Rattle.std.proofs.Common.{suc, arith}
use Rattle.track_board.proofs.Others.{others-settle, others-none, others-then, others-release}
use Rattle.track_board_tests.proofs.history_tests.steps.settle.Goals as goal

pub returns-in_err-settle-clause-others : goal.returns-in_err-settle-clause-others
returns-in_err-settle-clause-others c = λ seat. others-settle (suc seat) c.in_err-settle.ensures.err.0 c.args.board.now c.settle.new.self c.in_err-settle.ensures.err.1

pub returns-in_err-chunks-clause-others : goal.returns-in_err-chunks-clause-others
returns-in_err-chunks-clause-others c = λ seat. others-then (suc seat) c.args.board.now c.settle.new.self c.release.new.self
    (others-settle (suc seat) c.in_ok-settle.field-0 c.args.board.now c.settle.new.self c.in_ok-settle.ensures.ok.0)
    (others-none (suc seat) c.settle.new.self c.release.new.self c.in_err-chunks.ensures.bytes)

pub returns-clause-others : goal.returns-clause-others
returns-clause-others c = λ seat. others-then (suc seat) c.args.board.now c.settle.new.self c.release.new.self
    (others-settle (suc seat) c.in_ok-settle.field-0 c.args.board.now c.settle.new.self c.in_ok-settle.ensures.ok.0)
    (others-release (suc seat) c.settle.new.self c.release.new.self c.in_ok-chunks.chunks (λ same. omega (arith, same)) c.in_ok-chunks.ensures.bytes.1)
