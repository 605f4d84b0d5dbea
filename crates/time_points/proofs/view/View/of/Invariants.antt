use Rattle.std.proofs.Common.{◌≡◌, ◌+◌, ◌≤◌, length}
use Rattle.speculation.specs.Run.{fresh, go}
use Rattle.guest_model.specs.Rv32.{rv32}
use Rattle.track_state.specs.Kept.{flat_state}
use Rattle.time_points.proofs.view.View.of.Given as goal

abbrev pub invariant-loop-taken : goal.invariant-loop-taken
invariant-loop-taken g l = record {
  at : go (rv32 l.input) (fresh (flat_state l.fn.start)) l.taken ≡ fresh (flat_state l.state);
  place : l.state.place ≤ length l.input;
  steps : l.steps ≡ l.fn.steps + l.taken;
}
