use Rattle.std.proofs.Common.{◌-◌, ◌≤◌, length}
use Rattle.track_state.specs.Kept.{flat_state}
use Rattle.track_state.specs.Progress.{KeepsPages}
use Rattle.track_state.specs.Quiet.{QuietSteps}
use Rattle.track_state.proofs.quiet.run_quietly.Given as goal

abbrev pub invariant-pages : goal.invariant-pages
invariant-pages l = record {
  ran : QuietSteps l.input (flat_state l.fn.state) l.taken (flat_state l.state);
  place : l.state.place ≤ length l.input;
  kept : KeepsPages l.fn.state.memory l.state.memory;
  within : l.taken ≤ l.limit;
}

abbrev pub decreases-pages : goal.decreases-pages
decreases-pages l = l.limit - l.taken
