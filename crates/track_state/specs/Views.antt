-- What contracts see of a track
use Rattle.std.specs.Prelude.{◌≡◌, ℕ, ◌≤◌, Bool, true, false, List, [], Option, Some, None, nat_eq}
use Rattle.speculation.specs.declared.tracks.Kind.{Kind}
use Rattle.speculation.specs.Run.{Piece}
use Rattle.speculation.specs.Tracks.{meets}
use Rattle.speculation.specs.Core.{Track as CoreTrack}
use Rattle.guest_model.specs.MachineState.{MachineState}
use Rattle.guest_model.specs.Rv32.{rv32}
use Rattle.guest_model.specs.declared.end.End.{End}
use Rattle.guest_model.specs.declared.state.State.{State}
use Rattle.paged_image.specs.declared.image.PagedImage.{PagedImage}
use Rattle.track_state.specs.declared.stop.Stop.{Stop}
use Rattle.track_state.specs.declared.stop.Stop.TheVariants.{Boundary, Ended, Budget}
use Rattle.track_state.specs.declared.track.Track.{Track}
use Rattle.track_state.specs.Kept.{flat_state, flat_start, KeepsStart, StartsAtCall}

-- A track without its pages: its kind, the state in which it started, the state in which it is, the instructions that it
-- has taken, the pieces that it holds, the end that it met, and how many instructions it may take in all.
pub record TrackView : Type 0 where
  pub kind : Kind
  pub start : MachineState
  pub state : MachineState
  pub own : ℕ
  pub held : List Piece
  pub end : Option End
  pub budget : ℕ

unfoldable pub view_of : Track → TrackView
view_of t = record {
  kind = t.kind;
  start = flat_start t.start;
  state = flat_state t.state;
  own = t.own;
  held = t.held;
  end = t.end;
  budget = t.budget;
}

-- the state in which it is, with its pages
unfoldable pub state_of : Track → State PagedImage
state_of t = t.state

-- the track of the theory
abbrev pub core_track : TrackView → CoreTrack MachineState
core_track t = record { kind = t.kind; start = t.start; own = t.own; held = t.held }

-- a track that has taken no instruction yet
abbrev pub begun : Kind → MachineState → ℕ → TrackView
begun kind s budget = record { kind = kind; start = s; state = s; own = 0; held = []; end = None; budget = budget }

-- The track stands at its boundary; no input bears on that.
abbrev pub is_at_boundary : TrackView → Bool
is_at_boundary t = meets (rv32 []) t.kind t.own t.state t.end

-- by whether it is at its boundary, its end, and whether it has taken all that it may
abbrev pub stop_by : Bool → Option End → Bool → Option Stop
stop_by true end spent = Some Boundary
stop_by false (Some e) spent = Some (Ended e)
stop_by false None true = Some Budget
stop_by false None false = None

-- why a track is run no further
abbrev pub stop_of : TrackView → Option Stop
stop_of t = stop_by (is_at_boundary t) t.end (nat_eq t.own t.budget)

-- what holds of every track
pub record IsTrack (t : Track) : Type 0 where
  pub state : flat_state (state_of t) ≡ (view_of t).state
  pub kept : KeepsStart (view_of t).start (state_of t)
  pub call : StartsAtCall (view_of t).kind (view_of t).start
  pub within : (view_of t).own ≤ (view_of t).budget
