use Rattle.std.proofs.Common.{◌≡◌}
use Rattle.worker_gate.specs.Seats.{seen_of, own_loans}
use Rattle.worker_gate.specs.Rounds.{Works}
use Rattle.worker_gate.proofs.worker.work.Given as goal

abbrev pub invariant-loop : goal.invariant-loop
invariant-loop g l = record {
  later : l.pass ≡ record l.fn.pass { seen = l.pass.seen };
  none : own_loans l.pass.seat l.pass.seen ≡ 0;
  works : Works l.fn.pass.seat (seen_of l.fn.pass) (seen_of l.pass);
}
