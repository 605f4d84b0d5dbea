use Rattle.std.proofs.Common.{[], sym, subst, arith}
use Rattle.speculation.specs.declared.tracks.Kind.TheVariants.{Segment}
use Rattle.track_state.specs.Kept.{flat_state}
use Rattle.track_state.specs.Runs.{RunsOver}
use Rattle.track_state.proofs.OnTracks.{runs_begun}
use Rattle.track_state.proofs.tests.segment.Goals as goal

pub returns : goal.returns
returns c = subst (RunsOver []) (sym c.in_ok-begin.ensures.begun) (runs_begun [] Segment (flat_state c.in_ok-start.start) c.args.budget (omega (arith, c.in_ok-start.ensures)))
