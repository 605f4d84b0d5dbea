use Rattle.std.proofs.Common.{sym, ◌∙◌}
use Rattle.std.proofs.lemmas.Result.{err_from_is_err_and}
use Rattle.worker_gate.proofs.Leading.{hands-released, none-left}
use Rattle.worker_gate.proofs.releases.take_outcome.Goals as goal

pub returns-in_err-outcome-clause-takes : goal.returns-in_err-outcome-clause-takes
returns-in_err-outcome-clause-takes c =
    let failed = err_from_is_err_and c.from_residual-in_err-outcome.result c.from_residual-in_err-outcome.ensures.1 in
    rw failed.1 (c.in_ok-bytes.bytes, hands-released c.args.board.now c.release.new.self c.in_ok-bytes.bytes c.in_ok-bytes.ensures.bytes.0 c.in_ok-bytes.ensures.bytes.1 c.release.ensures.known)

pub returns-then-is_some-clause-takes : goal.returns-then-is_some-clause-takes
returns-then-is_some-clause-takes c = (
  hands-released c.args.board.now c.release.new.self c.in_ok-bytes.bytes c.in_ok-bytes.ensures.bytes.0 c.in_ok-bytes.ensures.bytes.1 c.release.ensures.known,
  record {
    outcome = c.in_ok-outcome.ensures;
    finished = sym c.is_some.ensures ∙ c.if-is_some.true;
    released = none-left c.args.board.now c.release.new.self c.in_ok-bytes.bytes c.in_ok-bytes.ensures.bytes.0 c.in_ok-bytes.ensures.bytes.1 c.release.ensures.known;
  },
)

pub returns-else-is_some-clause-takes : goal.returns-else-is_some-clause-takes
returns-else-is_some-clause-takes c =
    (c.in_ok-bytes.bytes, hands-released c.args.board.now c.release.new.self c.in_ok-bytes.bytes c.in_ok-bytes.ensures.bytes.0 c.in_ok-bytes.ensures.bytes.1 c.release.ensures.known)
