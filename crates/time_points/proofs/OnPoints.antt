-- The view of a count, from the last saved state before it.
use Rattle.std.proofs.Common.{◌≡◌, ℕ, ◌+◌, ◌-◌, ◌*◌, ◌<◌, ◌≤◌, List, length, map, Some, get_or, Vec, Global, vec_len, sym, ap, ◌∙◌, arith}
use Rattle.std.specs.Prelude.{slice_get, slice_set, option_map}
use Rattle.std.proofs.Math.Seq.{map-set_same}
use Rattle.std.proofs.lemmas.List.{length-map}
use Rattle.std.proofs.lemmas.Option.{slice_get-map, slice_get_read}
use Rattle.speculation.specs.Record.{run}
use Rattle.guest_model.specs.MachineState.{MachineState}
use Rattle.guest_model.specs.Rv32.{rv32}
use Rattle.guest_model.specs.declared.end.End.{End}
use Rattle.guest_model.specs.declared.state.State.{State}
use Rattle.paged_image.specs.declared.image.PagedImage.{PagedImage}
use Rattle.track_state.specs.Kept.{flat_state}
use Rattle.time_points.specs.Saved.{AreSaved}
use Rattle.time_points.specs.View.{IsViewOf}
use Rattle.time_points.proofs.OnSaved.{saved-at, saved-place, saved-ends}
use Rattle.time_points.proofs.OnViews.{view-behind, count-upto}

-- a state with the same content, in the place of one of the list, changes nothing of what the list stands for
pub same-states : (xs : List (State PagedImage)) (k : ℕ) (x y : State PagedImage) → x ≡ get_or xs k x → flat_state y ≡ flat_state x → map flat_state (slice_set xs k y) ≡ map flat_state xs
same-states xs k x y at same = map-set_same flat_state xs k y x (same ∙ ap flat_state at)

-- t is the state of point k, the last one that is saved up to `count`
pub record IsLastPoint (input : List ℕ) (start : MachineState) (every greatest count : ℕ) (saved : List MachineState) (k : ℕ) (t : MachineState) : Type 0 where
  pub points : AreSaved input start every greatest saved
  pub found : slice_get saved k ≡ Some t
  pub within : count ≤ greatest
  pub before : k * every ≤ count
  pub last : (k + 1) * every ≤ count → length saved ≤ k + 1

pub last-point : (input : List ℕ) (start : MachineState) (every greatest count : ℕ) (v : Vec (State PagedImage) Global) (k : ℕ) (x t : State PagedImage) → AreSaved input start every greatest (map flat_state v.items) → k < vec_len v → x ≡ get_or v.items k x → flat_state t ≡ flat_state x
    → count ≤ greatest → k * every ≤ count → ((k + 1) * every ≤ count → vec_len v ≤ k + 1) → IsLastPoint input start every greatest count (map flat_state v.items) k (flat_state t)
last-point input start every greatest count v k x t saved low at same within before last = record {
  points = saved;
  found = slice_get-map flat_state v.items k ∙ ap (option_map flat_state) (slice_get_read v.items (vec_len v) k x v.ok.0 low at) ∙ ap Some (sym same);
  within = within;
  before = before;
  last = λ more. omega (arith, length-map v.items flat_state, v.ok.0, last more);
}

module _ (input : List ℕ) (start : MachineState) (every greatest count : ℕ) (saved : List MachineState) (k : ℕ) (t : MachineState) (h : IsLastPoint input start every greatest count saved k t) where
  pub point-place : t.place ≤ length input
  point-place = saved-place input start every greatest saved h.points k t h.found

  -- the instructions from the point on
  pub point-count : (run (rv32 input) t (count - k * every)).count ≤ every
  point-count = count-upto input t every (count - k * every) (λ more. saved-ends input start every greatest saved h.points k t h.found count h.within h.last (omega (arith, h.before)))

  pub point-view : (state : State PagedImage) (n : ℕ) (end : End) → IsViewOf input t (count - k * every) (record { state = state; taken = n; end = end })
      → IsViewOf input start count (record { state = state; taken = k * every + n; end = end })
  point-view state n end v =
      let whole : k * every + (count - k * every) ≡ count = omega (arith, h.before) in
      view-behind input start t (k * every) (count - k * every) count (saved-at input start every greatest saved h.points k t h.found) whole state n end v
