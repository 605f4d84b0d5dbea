-- Views of a count, by the points of the run.
use Rattle.std.proofs.Common.{◌≡◌, ◌≢◌, ℕ, suc, ◌+◌, ◌-◌, ◌<◌, ◌≤◌, false, List, Option, Some, None, unwrap_or, refl, sym, ap, ◌∙◌, inl, inr, add-one, arith}
use Rattle.std.proofs.lemmas.Bool.{cases_lt}
use Rattle.speculation.specs.Machine.{Ends}
use Rattle.speculation.specs.Run.{Point, fresh, go, taken}
use Rattle.speculation.specs.Record.{run}
use Rattle.speculation.proofs.Runs.{go-add, go-ends, taken-add, taken-stays, taken-going, taken-ends, taken-le}
use Rattle.speculation.proofs.Records.{end-alone, last-alone, count-alone}
use Rattle.guest_model.specs.MachineState.{MachineState}
use Rattle.guest_model.specs.Rv32.{rv32}
use Rattle.guest_model.specs.Step.{step}
use Rattle.guest_model.specs.declared.end.End.{End}
use Rattle.guest_model.specs.declared.end.End.TheVariants.{Spent}
use Rattle.guest_model.specs.declared.state.State.{State}
use Rattle.paged_image.specs.declared.image.PagedImage.{PagedImage}
use Rattle.track_state.specs.Kept.{flat_state}
use Rattle.track_state.proofs.OnPlain.{go-met, go-spent}
use Rattle.time_points.specs.View.{IsViewOf}
use Rattle.time_points.specs.declared.view.View.{View}

module _ (input : List ℕ) (s : MachineState) where
  -- where the program still runs, one instruction more is taken
  pub count-more : (n count : ℕ) (t : MachineState) → go (rv32 input) (fresh s) n ≡ fresh t → n < count → n + 1 ≤ (run (rv32 input) s count).count
  count-more n count t here less =
      let rest = count - suc n in
      let whole : count ≡ suc n + rest = omega arith in
      let taken_is : taken (rv32 input) (fresh s) count ≡ suc n + taken (rv32 input) (go (rv32 input) (fresh s) (suc n)) rest
      = ap (taken (rv32 input) (fresh s)) whole ∙ taken-add (rv32 input) (fresh s) (suc n) rest ∙ ap (λ k. k + taken (rv32 input) (go (rv32 input) (fresh s) (suc n)) rest) (taken-ends (rv32 input) (fresh s) n t here) in
      omega (arith, taken_is, count-alone (rv32 input) s count)

  pub view-by : (count : ℕ) (p : Point MachineState End) (v : View) → go (rv32 input) (fresh s) count ≡ p → taken (rv32 input) (fresh s) count ≡ v.taken
      → flat_state v.state ≡ p.state → v.end ≡ unwrap_or p.end Spent → IsViewOf input s count v
  view-by count p v at counted state end = record {
    state = state ∙ sym (last-alone (rv32 input) s count ∙ ap (λ (q : Point MachineState End). q.state) at);
    taken = sym (count-alone (rv32 input) s count ∙ counted);
    end = end ∙ sym (ap (λ o. unwrap_or o Spent) (end-alone (rv32 input) s count ∙ ap (λ (q : Point MachineState End). q.end) at));
  }

  taken-met : (n count : ℕ) (u : MachineState) (e : End) → go (rv32 input) (fresh s) n ≡ fresh u → step false input u ≡ Ends e → n < count → taken (rv32 input) (fresh s) count ≡ suc n
  taken-met n count u e here ends less =
      let rest = count - suc n in
      let whole : count ≡ suc n + rest = omega arith in
      let last : (go (rv32 input) (fresh s) (suc n)).end ≡ Some e = ap (λ (q : Point MachineState End). q.end) (go-ends (rv32 input) (fresh s) n u e here ends) in
      ap (taken (rv32 input) (fresh s)) whole ∙ taken-stays (rv32 input) (fresh s) (suc n) rest e last ∙ taken-ends (rv32 input) (fresh s) n u here

  -- the view behind the program's end, whose instruction began in state u
  pub view-ended : (n count : ℕ) (u : MachineState) (t : State PagedImage) (e : End) → go (rv32 input) (fresh s) n ≡ fresh u → step false input u ≡ Ends e → flat_state t ≡ u → n < count
      → IsViewOf input s count (record { state = t; taken = n + 1; end = e })
  view-ended n count u t e here ends same less =
      view-by count (record { state = flat_state t; end = Some e }) (record { state = t; taken = n + 1; end = e }) (go-met input s n count u (flat_state t) e here ends same less) (taken-met n count u e here ends less ∙ sym (add-one n)) refl refl

  -- the view where the program still runs
  pub view-spent : (n count : ℕ) (t : State PagedImage) → go (rv32 input) (fresh s) n ≡ fresh (flat_state t) → n ≡ count → IsViewOf input s count (record { state = t; taken = count; end = Spent })
  view-spent n count t here same =
      let at : go (rv32 input) (fresh s) count ≡ fresh (flat_state t) = go-spent input s n count (flat_state t) here same in
      view-by count (fresh (flat_state t)) (record { state = t; taken = count; end = Spent }) at (taken-going (rv32 input) (fresh s) count (ap (λ (q : Point MachineState End). q.end) at)) refl refl

  -- all instructions were taken where the program still runs
  pub count-spent : (n count : ℕ) (t : MachineState) → go (rv32 input) (fresh s) n ≡ fresh t → n ≡ count → (run (rv32 input) s count).count ≡ count
  count-spent n count t here same =
      let at : go (rv32 input) (fresh s) count ≡ fresh t = go-spent input s n count t here same in
      count-alone (rv32 input) s count ∙ taken-going (rv32 input) (fresh s) count (ap (λ (q : Point MachineState End). q.end) at)

-- ---- a view from a point on the way

module _ (input : List ℕ) (s t : MachineState) (a rest count : ℕ) (at : go (rv32 input) (fresh s) a ≡ fresh t) (whole : a + rest ≡ count) where
  count-behind : (run (rv32 input) s count).count ≡ a + (run (rv32 input) t rest).count
  count-behind =
      ap (λ n. (run (rv32 input) s n).count) (sym whole) ∙ count-alone (rv32 input) s (a + rest) ∙ taken-add (rv32 input) (fresh s) a rest
      ∙ ap (λ k. k + taken (rv32 input) (go (rv32 input) (fresh s) a) rest) (taken-going (rv32 input) (fresh s) a (ap (λ (q : Point MachineState End). q.end) at))
      ∙ ap (λ (q : Point MachineState End). a + taken (rv32 input) q rest) at ∙ ap (λ k. a + k) (sym (count-alone (rv32 input) t rest))

  go-behind : go (rv32 input) (fresh s) count ≡ go (rv32 input) (fresh t) rest
  go-behind = ap (go (rv32 input) (fresh s)) (sym whole) ∙ go-add (rv32 input) (fresh s) a rest ∙ ap (λ (q : Point MachineState End). go (rv32 input) q rest) at

  -- the view of the rest, with the instructions before it, is the view of the whole
  pub view-behind : (state : State PagedImage) (n : ℕ) (end : End) → IsViewOf input t rest (record { state = state; taken = n; end = end })
      → IsViewOf input s count (record { state = state; taken = a + n; end = end })
  view-behind state n end v = record {
    state = v.state ∙ last-alone (rv32 input) t rest ∙ ap (λ (q : Point MachineState End). q.state) (sym go-behind) ∙ sym (last-alone (rv32 input) s count);
    taken = ap (λ k. a + k) v.taken ∙ sym count-behind;
    end = v.end ∙ ap (λ o. unwrap_or o Spent) (end-alone (rv32 input) t rest ∙ ap (λ (q : Point MachineState End). q.end) (sym go-behind) ∙ sym (end-alone (rv32 input) s count));
  }

pub count-within : (input : List ℕ) (t : MachineState) (rest : ℕ) → (run (rv32 input) t rest).count ≤ rest
count-within input t rest = omega (arith, count-alone (rv32 input) t rest, taken-le (rv32 input) (fresh t) rest)

-- A run takes at most `every` instructions where it is no longer, or meets its end within them.
count-by : (input : List ℕ) (t : MachineState) (every rest : ℕ) (o : Option End) → (go (rv32 input) (fresh t) every).end ≡ o → (every ≤ rest → o ≢ None) → taken (rv32 input) (fresh t) rest ≤ every
count-by input t every rest None is ended = elim (cases_lt rest every) [
  | inl less ↦ omega (arith, taken-le (rv32 input) (fresh t) rest)
  | inr more ↦ absurd (ended more refl)
]
count-by input t every rest (Some e) is ended = elim (cases_lt rest every) [
  | inl less ↦ omega (arith, taken-le (rv32 input) (fresh t) rest)
  | inr more ↦ (let later = rest - every in
      let whole : rest ≡ every + later = omega arith in
      omega (arith, ap (taken (rv32 input) (fresh t)) whole ∙ taken-stays (rv32 input) (fresh t) every later e is, taken-le (rv32 input) (fresh t) every))
]

pub count-upto : (input : List ℕ) (t : MachineState) (every rest : ℕ) → (every ≤ rest → (run (rv32 input) t every).end ≢ None) → (run (rv32 input) t rest).count ≤ every
count-upto input t every rest ended =
    omega (
      arith,
      count-alone (rv32 input) t rest,
      count-by input t every rest (go (rv32 input) (fresh t) every).end refl (λ more none. ended more (end-alone (rv32 input) t every ∙ none)),
    )
