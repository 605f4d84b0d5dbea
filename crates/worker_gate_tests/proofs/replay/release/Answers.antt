use Rattle.std.proofs.Common.{suc, arith}
use Rattle.track_board.proofs.Others.{others-none, others-release}
use Rattle.worker_gate_tests.proofs.replay.release.Goals as goal

pub returns-in_err-release-clause-others : goal.returns-in_err-release-clause-others
returns-in_err-release-clause-others c = λ seat. others-none (suc seat) c.args.board.now c.release.new.self c.in_err-release.ensures.bytes

pub returns-clause-others : goal.returns-clause-others
returns-clause-others c = λ seat. others-release (suc seat) c.args.board.now c.release.new.self c.in_ok-release.field-0 (λ same. omega (arith, same)) c.in_ok-release.ensures.bytes.1
