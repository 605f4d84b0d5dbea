-- States that were saved at the points of a run.
use Rattle.std.proofs.Common.{◌≡◌, ◌≢◌, ℕ, zero, suc, ◌+◌, ◌*◌, ◌/◌, ◌<◌, ◌≤◌, true, false, List, [], ◌∷◌, ◌++◌, length, map, Option, Some, None, is_some, refl, sym, ap, ◌∙◌, subst, inl, inr, ◌⊎◌, arith}
use Rattle.std.specs.Prelude.{slice_get}
use Rattle.std.proofs.Math.Nat.{le-div_iff_mul-le, mul-le-mul_right}
use Rattle.std.proofs.lemmas.Bool.{cases_lt}
use Rattle.std.proofs.lemmas.List.{length_push, map-append}
use Rattle.std.proofs.lemmas.Option.{slice_get_within}
use Rattle.speculation.specs.Run.{Point, fresh, go}
use Rattle.speculation.specs.Record.{run}
use Rattle.speculation.proofs.Runs.{go-add, going-below}
use Rattle.speculation.proofs.Records.{end-alone, last-alone}
use Rattle.guest_model.specs.MachineState.{MachineState}
use Rattle.guest_model.specs.Rv32.{rv32}
use Rattle.guest_model.specs.declared.end.End.{End}
use Rattle.guest_model.specs.declared.state.State.{State}
use Rattle.paged_image.specs.declared.image.PagedImage.{PagedImage}
use Rattle.track_state.specs.Kept.{flat_state}
use Rattle.time_points.specs.Saved.{IsPoint, IsStateAt, AreSaved}

-- what stands in a list behind which y was put
push-get : {A : Type 0} (xs : List A) (y x : A) (k : ℕ) → slice_get (xs ++ y ∷ []) k ≡ Some x → (slice_get xs k ≡ Some x) ⊎ ((k ≡ length xs) × (x ≡ y))
push-get [] y x zero h = inr (refl, cc)
push-get [] y x (suc k) h = absurd (cc)
push-get (z ∷ xs) y x zero h = inl h
push-get (z ∷ xs) y x (suc k) h = elim (push-get xs y x k h) [ inl old ↦ inl old | inr new ↦ inr (ap suc new.0, new.1) ]

none_of : {A : Type 0} (o : Option A) → is_some o ≡ false → o ≡ None
none_of None h = refl
none_of (Some x) h = absurd (cc)

module _ (input : List ℕ) (start : MachineState) (every greatest : ℕ) where
  -- The states at 0, every, and so on up to n times every are saved, and after these instructions the program, which still
  -- runs, is in state t.
  pub record SavedSoFar (n : ℕ) (t : MachineState) (saved : List MachineState) : Type 0 where
    pub count : length saved ≡ n + 1
    pub at : go (rv32 input) (fresh start) (n * every) ≡ fresh t
    pub place : t.place ≤ length input
    pub points : (k : ℕ) → k < length saved → IsPoint input start greatest (k * every)
    pub states : (k : ℕ) (s : MachineState) → slice_get saved k ≡ Some s → IsStateAt input start (k * every) s

  point-at : (n : ℕ) (t : MachineState) → go (rv32 input) (fresh start) n ≡ fresh t → n ≤ greatest → IsPoint input start greatest n
  point-at n t at le = record {
    upto = le;
    runs = end-alone (rv32 input) start n ∙ ap (λ (q : Point MachineState End). q.end) at;
  }

  state-at : (n : ℕ) (t s : MachineState) → go (rv32 input) (fresh start) n ≡ fresh t → s ≡ t → t.place ≤ length input → IsStateAt input start n s
  state-at n t s at same place = record {
    state = same ∙ sym (last-alone (rv32 input) start n ∙ ap (λ (q : Point MachineState End). q.state) at);
    place = subst (λ (u : MachineState). u.place ≤ length input) (sym same) place;
  }

  -- a state more
  saved-more : (n : ℕ) (t s : MachineState) (saved : List MachineState) → length saved ≡ n → go (rv32 input) (fresh start) (n * every) ≡ fresh t → t.place ≤ length input → n * every ≤ greatest → s ≡ t
      → ((k : ℕ) → k < length saved → IsPoint input start greatest (k * every)) → ((k : ℕ) (u : MachineState) → slice_get saved k ≡ Some u → IsStateAt input start (k * every) u) → SavedSoFar n t (saved ++ s ∷ [])
  saved-more n t s saved count at place le same points states = record {
    count = length_push saved s ∙ ap (λ k. k + 1) count;
    at = at;
    place = place;
    points = λ k within. elim (cases_lt k n) [
      | inl low ↦ points k (omega arith)
      | inr high ↦ (let last : n ≡ k = omega (arith, length_push saved s) in subst (λ i. IsPoint input start greatest (i * every)) last (point-at (n * every) t at le))
    ];
    states = λ k u here. elim (push-get saved s u k here) [
      | inl old ↦ states k u old
      | inr new ↦ (let last : n ≡ k = sym count ∙ sym new.0 in subst (λ i. IsStateAt input start (i * every) u) last (state-at (n * every) t u at (new.1 ∙ same) place))
    ];
  }

  go-first : go (rv32 input) (fresh start) (0 * every) ≡ fresh start
  unfolding go
  go-first = let none : 0 * every ≡ 0 = omega arith in ap (go (rv32 input) (fresh start)) none

  no-states : (k : ℕ) (u : MachineState) → slice_get {X = MachineState} [] k ≡ Some u → IsStateAt input start (k * every) u
  no-states k u h = absurd (cc)

  -- the next point was reached, and its state is saved
  saved-reached : (n : ℕ) (t u s : MachineState) (saved : List MachineState) → SavedSoFar n t saved → go (rv32 input) (fresh t) every ≡ fresh u → u.place ≤ length input → 0 < every → n < greatest / every → s ≡ u
      → SavedSoFar (n + 1) u (saved ++ s ∷ [])
  saved-reached n t u s saved h on place some less same =
      let next : (n + 1) * every ≡ n * every + every = omega arith in
      saved-more (n + 1) u s saved h.count
      (ap (go (rv32 input) (fresh start)) next ∙ go-add (rv32 input) (fresh start) (n * every) every ∙ ap (λ (q : Point MachineState End). go (rv32 input) q every) h.at ∙ on)
      place ((le-div_iff_mul-le {k = every} {x = n + 1} {y = greatest} some).0 (omega arith)) same h.points h.states

  -- ---- states over pages

  saved-push : (n : ℕ) (t : MachineState) (xs zs : List (State PagedImage)) (y : State PagedImage) → zs ≡ xs ++ y ∷ [] → SavedSoFar n t (map flat_state xs ++ flat_state y ∷ []) → SavedSoFar n t (map flat_state zs)
  saved-push n t xs zs y e h = subst (λ ss. SavedSoFar n t ss) (sym (ap (map flat_state) e ∙ map-append flat_state xs (y ∷ []))) h

  -- the start is saved
  pub saved-first : (t : MachineState) (y : State PagedImage) (xs zs : List (State PagedImage)) → start.place ≤ length input → t ≡ start → flat_state y ≡ start → xs ≡ [] → zs ≡ xs ++ y ∷ [] → SavedSoFar 0 t (map flat_state zs)
  saved-first t y xs zs place now same none items =
      saved-push 0 t [] zs y (items ∙ ap (λ ys. ys ++ y ∷ []) none)
      (saved-more 0 t (flat_state y) [] refl (go-first ∙ ap (λ (u : MachineState). fresh u) (sym now)) (subst (λ (u : MachineState). u.place ≤ length input) (sym now) place) (omega arith) (same ∙ sym now) (λ k within. absurd (omega arith)) no-states)

  -- the next point was reached, and its state is saved
  pub saved-next : (n : ℕ) (t u v : MachineState) (o : Option End) (y : State PagedImage) (xs zs : List (State PagedImage)) → SavedSoFar n t (map flat_state xs) → go (rv32 input) (fresh t) every ≡ record { state = u; end = o } → is_some o ≡ false → u.place ≤ length input
      → 0 < every → n < greatest / every → v ≡ u → flat_state y ≡ u → zs ≡ xs ++ y ∷ [] → SavedSoFar (n + 1) v (map flat_state zs)
  saved-next n t u v o y xs zs h ran going place some less now same items =
      let on : go (rv32 input) (fresh t) every ≡ fresh v = ran ∙ ap (λ q. record { state = u; end = q }) (none_of o going) ∙ ap (λ (w : MachineState). fresh w) (sym now) in
      saved-push (n + 1) v xs zs y items
      (saved-reached n t v (flat_state y) (map flat_state xs) h on (subst (λ (w : MachineState). w.place ≤ length input) (sym now) place) some less (same ∙ sym now))

  -- all points up to the greatest count are saved
  pub saved-all : (n : ℕ) (t : MachineState) (saved : List MachineState) → SavedSoFar n t saved → 0 < every → n ≡ greatest / every → AreSaved input start every greatest saved
  saved-all n t saved h some last = record {
    points = h.points;
    states = h.states;
    all = λ k point. omega (arith, (le-div_iff_mul-le {k = every} {x = k} {y = greatest} some).1 point.upto, h.count);
  }

  -- the program ends before the next point, or there
  saved-end : (n : ℕ) (t u : MachineState) (e : End) (saved : List MachineState) → SavedSoFar n t saved → go (rv32 input) (fresh t) every ≡ record { state = u; end = Some e } → AreSaved input start every greatest saved
  saved-end n t u e saved h ends = record {
    points = h.points;
    states = h.states;
    all = λ k point. elim (cases_lt k (n + 1)) [
      | inl low ↦ omega (arith, h.count)
      | inr high ↦ absurd (
          let next : (n + 1) * every ≡ n * every + every = omega arith in
          let met : go (rv32 input) (fresh start) ((n + 1) * every) ≡ record { state = u; end = Some e }
          = ap (go (rv32 input) (fresh start)) next ∙ go-add (rv32 input) (fresh start) (n * every) every ∙ ap (λ (q : Point MachineState End). go (rv32 input) q every) h.at ∙ ends in
          let going : (go (rv32 input) (fresh start) ((n + 1) * every)).end ≡ None
          = going-below (rv32 input) (fresh start) ((n + 1) * every) (k * every) (mul-le-mul_right every high) (sym (end-alone (rv32 input) start (k * every)) ∙ point.runs) in
          let ended : (go (rv32 input) (fresh start) ((n + 1) * every)).end ≡ Some e = ap (λ (q : Point MachineState End). q.end) met in
          cc)
    ];
  }

  pub saved-ended : (n : ℕ) (t u : MachineState) (o : Option End) (saved : List MachineState) → SavedSoFar n t saved → go (rv32 input) (fresh t) every ≡ record { state = u; end = o } → is_some o ≡ true → AreSaved input start every greatest saved
  saved-ended n t u None saved h ends met = absurd (cc)
  saved-ended n t u (Some e) saved h ends met = saved-end n t u e saved h ends

  -- no more than 65 are saved where the greatest count is at most 64 times `every`
  pub saved-few : (saved : List MachineState) → AreSaved input start every greatest saved → 0 < every → greatest ≤ 64 * every → length saved ≤ 65
  saved-few saved h some le = elim (cases_lt 65 (length saved)) [
    | inl more ↦ absurd (omega (arith, (h.points 65 more).upto))
    | inr few ↦ few
  ]

  -- ---- a view from a saved state

  first-point : IsPoint input start greatest (0 * every)
  first-point = point-at (0 * every) start go-first (omega arith)

  -- the start is among the saved states
  pub saved-some : (saved : List MachineState) → AreSaved input start every greatest saved → 0 < length saved
  saved-some saved h = h.all 0 first-point

  module _ (saved : List MachineState) (h : AreSaved input start every greatest saved) (k : ℕ) (s : MachineState) (here : slice_get saved k ≡ Some s) where
    -- the program reaches a saved state
    pub saved-at : go (rv32 input) (fresh start) (k * every) ≡ fresh s
    saved-at =
        let state : (go (rv32 input) (fresh start) (k * every)).state ≡ s = sym (last-alone (rv32 input) start (k * every)) ∙ sym (h.states k s here).state in
        let end : (go (rv32 input) (fresh start) (k * every)).end ≡ None = sym (end-alone (rv32 input) start (k * every)) ∙ (h.points k (slice_get_within saved k s here)).runs in
        λ i. record { state = state i; end = end i }

    pub saved-place : s.place ≤ length input
    saved-place = (h.states k s here).place

    -- behind the last saved state the program ends within `every` instructions, if the next point is asked for
    pub saved-ends : (count : ℕ) → count ≤ greatest → ((k + 1) * every ≤ count → length saved ≤ k + 1) → (k + 1) * every ≤ count → (run (rv32 input) s every).end ≢ None
    saved-ends count le last more none =
        let next : (k + 1) * every ≡ k * every + every = omega arith in
        let going : (run (rv32 input) start ((k + 1) * every)).end ≡ None
        = end-alone (rv32 input) start ((k + 1) * every) ∙ ap (λ (q : Point MachineState End). q.end) (ap (go (rv32 input) (fresh start)) next ∙ go-add (rv32 input) (fresh start) (k * every) every ∙ ap (λ (q : Point MachineState End). go (rv32 input) q every) saved-at)
        ∙ sym (end-alone (rv32 input) s every) ∙ none in
        let more_saved : k + 1 < length saved = h.all (k + 1) (record { upto = omega arith; runs = going }) in
        omega (arith, last more)
