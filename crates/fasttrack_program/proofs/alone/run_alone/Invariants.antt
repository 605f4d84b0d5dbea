use Rattle.std.proofs.Common.{◌≤◌, length}
use Rattle.guest_model.specs.Flat.{flat_bytes}
use Rattle.guest_model.specs.MachineState.{flat}
use Rattle.guest_model.specs.Rv32.{rv32}
use Rattle.guest_streams.proofs.OnStreams.{SoFar}
use Rattle.guest_streams.specs.GuestStreams.{sinks_of}
use Rattle.fasttrack_program.proofs.alone.run_alone.Given as goal

abbrev pub invariant-loop-done : goal.invariant-loop-done
invariant-loop-done g l = record {
  so_far : SoFar (rv32 l.input) (flat flat_bytes l.fn.state) l._done (flat flat_bytes l.state)
      (sinks_of g.O.Sink g.N.Sink l.fn.out l.fn.notes)
      (sinks_of g.O.Sink g.N.Sink l.out l.notes);
  place : l.state.place ≤ length l.input;
}
