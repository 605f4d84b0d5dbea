-- Tracks that run over an input
use Rattle.std.specs.Prelude.{◌≡◌, ℕ, suc, ◌<◌, ◌≤◌, Bool, ◌||◌, List, ◌++◌, length, Some, None, is_some, unwrap_or, nat_eq, nat_le}
use Rattle.speculation.specs.Run.{Piece}
use Rattle.speculation.specs.Tracks.{point, first_from}
use Rattle.speculation.specs.Core.{Track as CoreTrack, track_point, at_boundary, held_size, most_held}
use Rattle.speculation.specs.Events.{new_pieces, run_on}
use Rattle.guest_model.specs.MachineState.{MachineState}
use Rattle.guest_model.specs.Rv32.{rv32}
use Rattle.guest_model.specs.declared.end.End.{End}
use Rattle.track_state.specs.Views.{TrackView, core_track}

-- the instruction that met the end is the last one of the `own`
pub record IsLast (input : List ℕ) (t : TrackView) : Type 0 where
  pub before : ℕ
  pub count : t.own ≡ suc before
  pub going : (point (rv32 input) t.kind t.start before).end ≡ None

-- The track is where `own` instructions with this input lead from its start. What it holds is the rest of what they
-- wrote, as far as that wasn't given away; a fast version holds nothing.
pub record RunsOver (input : List ℕ) (t : TrackView) : Type 0 where
  pub began : t.start.place ≤ length input
  pub at : point (rv32 input) t.kind t.start t.own ≡ record { state = t.state; end = t.end }
  pub place : t.state.place ≤ length input
  pub last : (e : End) → t.end ≡ Some e → IsLast input t
  pub held : (given : List Piece) × (given ++ t.held ≡ new_pieces (rv32 input) t.kind t.start 0 t.own)

-- a track of the theory is run no further, within this budget
abbrev pub has_stop_within : List ℕ → ℕ → CoreTrack MachineState → Bool
has_stop_within input budget t = at_boundary (rv32 input) t || (is_some (track_point (rv32 input) t).end || nat_eq t.own budget)

-- run on by j instructions, the track has a stop, or holds as many bytes as it may
abbrev pub rests_after : List ℕ → TrackView → ℕ → Bool
rests_after input t j =
    has_stop_within input t.budget (run_on (rv32 input) (core_track t) j)
    || nat_le most_held (held_size (run_on (rv32 input) (core_track t) j).held)

-- The least number of instructions after which the track rests, at most k. With k = most_slice it is the theory's slice.
unfoldable pub run_length : List ℕ → TrackView → ℕ → ℕ
run_length input t k = unwrap_or (first_from (rests_after input t) 0 k) k

-- y is x, run on by n instructions
pub record RanOn (input : List ℕ) (x y : TrackView) (n : ℕ) : Type 0 where
  pub is : core_track y ≡ run_on (rv32 input) (core_track x) n
  pub runs : RunsOver input y
  pub budget : y.budget ≡ x.budget

-- y is x, run on by whole instructions, fewer than a run of at most k has
pub record RanShort (input : List ℕ) (x y : TrackView) (k : ℕ) : Type 0 where
  pub taken : ℕ
  pub short : taken < run_length input x k
  pub ran : RanOn input x y taken
