-- What contracts see of a track that is out
use Rattle.std.specs.Prelude.{ℕ, List}
use Rattle.speculation.specs.declared.tracks.Name.{Name}
use Rattle.track_state.specs.declared.track.Track.{Track}

-- its name, the track, and the input that it runs over
pub record LoanView : Type 0 where
  pub name : Name
  pub track : Track
  pub input : List ℕ
