use Rattle.std.proofs.Common.{◌-◌, ◌≤◌, length}
use Rattle.track_state.specs.Kept.{flat_state}
use Rattle.track_state.specs.Progress.{KeepsPages}
use Rattle.track_state.proofs.OnProgress.{SoFar}
use Rattle.track_state.proofs.progress.advance.Given as goal

abbrev pub invariant-parts : goal.invariant-parts
invariant-parts l = record {
  so_far : SoFar l.input l.kind (flat_state l.fn.state) l.own l.fn.held l.taken (flat_state l.state) l.held;
  place : l.state.place ≤ length l.input;
  kept : KeepsPages l.fn.state.memory l.state.memory;
  within : l.taken ≤ l.limit;
}

abbrev pub decreases-parts : goal.decreases-parts
decreases-parts l = l.limit - l.taken
