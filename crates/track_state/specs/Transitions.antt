-- What a track becomes at its boundary
use Rattle.std.specs.Prelude.{◌≡◌, ℕ, List, [], Some}
use Rattle.speculation.specs.declared.tracks.Kind.{Kind}
use Rattle.speculation.specs.declared.tracks.Kind.TheVariants.{Normal, Fast, Segment}
use Rattle.speculation.specs.Run.{Piece}
use Rattle.paged_image.specs.Image.{written_of}
use Rattle.track_state.specs.declared.stop.Stop.TheVariants.{Boundary}
use Rattle.track_state.specs.declared.track.Track.{Track}
use Rattle.track_state.specs.declared.track.transitions.Forked.{Forked}
use Rattle.track_state.specs.declared.track.transitions.Crossed.{Crossed}
use Rattle.track_state.specs.Kept.{flat_state, KeepsStart}
use Rattle.track_state.specs.Views.{TrackView, view_of, state_of, begun, stop_of}

-- a track of this kind stands at its boundary
pub record IsAtBoundary (expected : Kind) (t : TrackView) : Type 0 where
  pub kind : t.kind ≡ expected
  pub stop : stop_of t ≡ Some Boundary

-- no page was written since the track's start
abbrev pub HasWrittenNothing : Track → Type 0
HasWrittenNothing t = written_of (state_of t).memory ≡ []

-- contracts see the track as before, and its write set is the same
pub record IsUnchanged (old new : Track) : Type 0 where
  pub view : view_of new ≡ view_of old
  pub written : written_of (state_of new).memory ≡ written_of (state_of old).memory

-- A segment at an opening call becomes the region's fast version. Both versions start there, with no page written.
pub record IsForked (old new : Track) (f : Forked) : Type 0 where
  pub steps : f.steps ≡ (view_of old).own
  pub held : f.held ≡ (view_of old).held
  pub fast : view_of new ≡ begun Fast (view_of old).state (view_of old).budget
  pub normal : view_of f.normal ≡ begun Normal (view_of old).state (view_of old).budget
  pub fast_pages : HasWrittenNothing new
  pub normal_pages : HasWrittenNothing f.normal

-- A fast version at the closing call becomes the segment behind the region. The end state has the pages that the fast
-- version wrote.
pub record IsCrossed (old new : Track) (c : Crossed) : Type 0 where
  pub steps : c.steps ≡ (view_of old).own
  pub state : flat_state c.end.value ≡ (view_of old).state
  pub kept : KeepsStart (view_of old).start c.end.value
  pub written : written_of c.end.value.memory ≡ written_of (state_of old).memory
  pub segment : view_of new ≡ begun Segment (view_of old).state (view_of old).budget
  pub pages : HasWrittenNothing new

-- An original at the closing call becomes the segment behind the region, and gives away its count and its pieces.
pub record GoesOn (old new : Track) (given : ℕ × List Piece) : Type 0 where
  pub steps : given.0 ≡ (view_of old).own
  pub held : given.1 ≡ (view_of old).held
  pub segment : view_of new ≡ begun Segment (view_of old).state (view_of old).budget
  pub pages : HasWrittenNothing new
