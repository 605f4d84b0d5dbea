use Rattle.std.proofs.Common.{[], sym, subst}
use Rattle.speculation.specs.declared.tracks.Kind.TheVariants.{Normal, Fast}
use Rattle.track_state.specs.Views.{view_of}
use Rattle.track_state.specs.Runs.{RunsOver}
use Rattle.track_state.proofs.OnTracks.{runs_from}
use Rattle.track_state.proofs.tests.versions.Goals as goal

pub returns-clause-normal : goal.returns-clause-normal
returns-clause-normal c = subst (RunsOver []) (sym c.in_ok-forked.ensures.normal) (runs_from [] Normal (view_of c.run.new.track) c.in_ok-run.ensures.runs)

pub returns-clause-fast : goal.returns-clause-fast
returns-clause-fast c = subst (RunsOver []) (sym c.in_ok-forked.ensures.fast) (runs_from [] Fast (view_of c.run.new.track) c.in_ok-run.ensures.runs)
