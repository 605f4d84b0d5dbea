use Rattle.std.proofs.Common.{[], sym, subst}
use Rattle.speculation.specs.declared.tracks.Kind.TheVariants.{Segment}
use Rattle.track_state.specs.Views.{view_of}
use Rattle.track_state.specs.Runs.{RunsOver}
use Rattle.track_state.proofs.OnTracks.{runs_from}
use Rattle.track_state.proofs.tests.go_on.Goals as goal

pub returns : goal.returns
returns c = subst (RunsOver []) (sym c.in_ok-go_on.ensures.segment) (runs_from [] Segment (view_of c.args.track.now) c.requires)
