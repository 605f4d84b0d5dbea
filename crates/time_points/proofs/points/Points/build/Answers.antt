use Rattle.std.proofs.Common.{map}
use Rattle.track_state.specs.Kept.{flat_state}
use Rattle.time_points.specs.Points.{view_of}
use Rattle.time_points.proofs.OnSaved.{saved-few}
use Rattle.time_points.proofs.points.Points.build.Goals as goal

pub returns-clause-few : goal.returns-clause-few
unfolding view_of
returns-clause-few c =
    saved-few c.args.input.now (flat_state c.args.start) c.args.every c.args.greatest (map flat_state c.in_ok-saved.saved.items) c.in_ok-saved.ensures c.requires.spacing c.requires.few
