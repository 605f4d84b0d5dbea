use Rattle.std.proofs.Common.{◌≤◌, length}
use Rattle.guest_model.specs.Flat.{flat_bytes}
use Rattle.guest_model.specs.MachineState.{flat}
use Rattle.guest_streams.proofs.OnStreams.{SoFar}
use Rattle.guest_streams.specs.GuestStreams.{sinks_of}
use Rattle.fasttrack_program.specs.FastProgram.{fast_rv32, outside}
use Rattle.fasttrack_program.proofs.fast.run_fast.Given as goal

abbrev pub invariant-loop-done : goal.invariant-loop-done
invariant-loop-done g l = record {
  so_far : SoFar (fast_rv32 l.input) (outside (flat flat_bytes l.fn.state)) l._done (record { state = flat flat_bytes l.state; inside = l.inside })
      (sinks_of g.O.Sink g.N.Sink l.fn.out l.fn.notes)
      (sinks_of g.O.Sink g.N.Sink l.out l.notes);
  place : l.state.place ≤ length l.input;
}
