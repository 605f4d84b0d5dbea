use Rattle.track_state.proofs.OnTracks.{is_track}
use Rattle.track_state.proofs.laws.tracks_keep_their_starts.Goals as goal

pub returns-clause-tracks : goal.returns-clause-tracks
returns-clause-tracks c = λ t. is_track t
