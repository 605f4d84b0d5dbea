-- How far a track comes within a number of instructions
use Rattle.std.specs.Prelude.{◌≡◌, ℕ, ◌≤◌, true, List, [], Some}
use Rattle.speculation.specs.declared.tracks.Kind.TheVariants.{Normal}
use Rattle.speculation.specs.Tracks.{boundary}
use Rattle.speculation_law.specs.Facts.{NoStop, Unstopped}
use Rattle.guest_model.specs.Rv32.{rv32}
use Rattle.rv32_law.specs.GuestStates.{IsGuestState}
use Rattle.track_state.specs.Views.{TrackView}
use Rattle.track_state.specs.Runs.{RunsOver}
use Rattle.region_trial.specs.declared.running.Reached.{Reached}
use Rattle.region_trial.specs.declared.running.Reached.TheVariants.{Boundary, Ended, Limit}

-- The track has taken at most `limit` instructions, met nothing before the last of them, and holds no output.
pub record IsUnderWay (input : List ℕ) (t : TrackView) (limit : ℕ) : Type 0 where
  pub start : IsGuestState input t.start
  pub runs : RunsOver input t
  pub least : Unstopped (rv32 input) t.kind t.start t.own
  pub within : t.own ≤ limit
  pub budget : limit ≤ t.budget
  pub held : t.held ≡ []

-- where it stands
abbrev pub StandsAt : List ℕ → TrackView → ℕ → Reached → Type 0
StandsAt input t limit Boundary = boundary (rv32 input) t.kind t.start t.own ≡ true
StandsAt input t limit (Ended e) = t.end ≡ Some e
StandsAt input t limit Limit = (t.own ≡ limit) × NoStop (rv32 input) t.kind t.start t.own

-- y is x, run on within the limit
pub record RunsOn (input : List ℕ) (x y : TrackView) (limit : ℕ) : Type 0 where
  pub kind : y.kind ≡ x.kind
  pub start : y.start ≡ x.start
  pub budget : y.budget ≡ x.budget
  pub way : IsUnderWay input y limit

-- the original of a region, at the closing call for the first time
pub record IsClosed (input : List ℕ) (t : TrackView) : Type 0 where
  pub kind : t.kind ≡ Normal
  pub start : IsGuestState input t.start
  pub runs : RunsOver input t
  pub least : Unstopped (rv32 input) Normal t.start t.own
  pub here : boundary (rv32 input) Normal t.start t.own ≡ true
  pub within : t.own ≤ t.budget
