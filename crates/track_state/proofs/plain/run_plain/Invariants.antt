use Rattle.std.proofs.Common.{◌≡◌, ◌-◌, ◌≤◌, length}
use Rattle.speculation.specs.Run.{fresh, go}
use Rattle.guest_model.specs.Rv32.{rv32}
use Rattle.track_state.specs.Kept.{flat_state}
use Rattle.track_state.proofs.plain.run_plain.Given as goal

abbrev pub invariant-parts : goal.invariant-parts
invariant-parts l = record {
  at : go (rv32 l.input) (fresh (flat_state l.fn.state)) l.taken ≡ fresh (flat_state l.state);
  place : l.state.place ≤ length l.input;
  within : l.taken ≤ l.limit;
}

abbrev pub decreases-parts : goal.decreases-parts
decreases-parts l = l.limit - l.taken
