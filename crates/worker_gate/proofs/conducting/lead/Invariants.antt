use Rattle.std.proofs.Common.{◌≡◌}
use Rattle.guest_streams.specs.GuestStreams.{GetsAll, sinks_of}
use Rattle.track_board.specs.Value.{core_of}
use Rattle.worker_gate.specs.Seats.{seen_of, own_loans}
use Rattle.worker_gate.proofs.conducting.lead.Given as goal

abbrev pub invariant-loop : goal.invariant-loop
invariant-loop g l = record {
  later : l.pass ≡ record l.fn.pass { seen = l.pass.seen };
  none : own_loans l.pass.seat l.pass.seen ≡ 0;
  led : GetsAll (sinks_of g.O.Sink g.N.Sink l.fn.out l.fn.notes) (sinks_of g.O.Sink g.N.Sink l.out l.notes) (core_of (seen_of l.pass)).released;
}
