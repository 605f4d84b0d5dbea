use Rattle.std.proofs.Common.{◌-◌}
use Rattle.track_state.specs.Views.{view_of}
use Rattle.region_trial.specs.Reached.{RunsOn}
use Rattle.region_trial.proofs.running.reach.Given as goal

abbrev pub invariant-loop-reached : goal.invariant-loop-reached
invariant-loop-reached l = RunsOn l.input (view_of l.fn.track) (view_of l.track) l.limit

abbrev pub decreases-loop-reached : goal.decreases-loop-reached
decreases-loop-reached l = l.limit - (view_of l.track).own
