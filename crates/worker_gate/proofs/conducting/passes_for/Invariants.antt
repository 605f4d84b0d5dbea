use Rattle.std.proofs.Common.{◌≡◌, ◌+◌}
use Rattle.std.specs.Prelude.{All}
use Rattle.worker_gate.specs.Seats.{IsReady}
use Rattle.worker_gate.proofs.conducting.passes_for.Given as goal

abbrev pub invariant-loop : goal.invariant-loop
invariant-loop l = record {
  given : l.pass ≡ record l.fn.pass { stock = l.counter + 1 };
  ready : All (IsReady l.lock) l.passes.items;
}
