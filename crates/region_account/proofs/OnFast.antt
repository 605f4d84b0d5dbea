-- The lines of a fast version that was run on within a limit, by where it stands
use Rattle.std.proofs.Common.{◌≡◌, ℕ, zero, suc, ◌<◌, ◌≤◌, true, if◌then◌else◌, nat_lt, List, [], ◌++◌, Some, None, refl, sym, ap, ap₂, ◌∙◌, subst, inl, inr, arith}
use Rattle.std.proofs.lemmas.Bool.{cases_lt, lt-ltb, le-ltb}
use Rattle.speculation.specs.declared.tracks.Kind.TheVariants.{Normal, Fast}
use Rattle.speculation.specs.Run.{Point, fresh}
use Rattle.speculation.specs.Tracks.{point, boundary, first_from, fast_count}
use Rattle.speculation.specs.Verdicts.{Judged, unclosed, verdict, verdict_of}
use Rattle.speculation_law.specs.Facts.{NoStop, Unstopped}
use Rattle.speculation_law.proofs.Least.{first-some, first-none}
use Rattle.speculation_law.proofs.Verdicts.{boundary-ended, boundary-pos, point-stays, taken-all, verdict-stopped}
use Rattle.guest_model.specs.MachineState.{MachineState}
use Rattle.guest_model.specs.Rv32.{rv32, answer_one}
use Rattle.guest_model.specs.declared.difference.Difference.{Difference}
use Rattle.guest_model.specs.declared.end.End.{End}
use Rattle.track_state.specs.Views.{TrackView}
use Rattle.region_trial.specs.Reached.{IsUnderWay, IsClosed}
use Rattle.difference_text.specs.Differences.{differences_lines}
use Rattle.region_account.specs.Accounts.{ended_line, late_line, running_line, closed_lines, unclosed_line, lines_by, fast_lines}

module _ (input : List ℕ) (s : MachineState) (n limit own : ℕ) (least : Unstopped (rv32 input) Fast s own) where
  -- it closed the region
  pub closed-at : own ≤ limit → boundary (rv32 input) Fast s own ≡ true → fast_lines input s n limit ≡ closed_lines input s n own
  unfolding fast_lines
  closed-at le here =
      ap (lines_by input s n limit)
      (first-some (boundary (rv32 input) Fast s) 1 limit own (boundary-pos (rv32 input) s own here) (omega (arith, le)) here (λ i low high. (least.at i high).inside))

  -- it ended the program
  module _ (t : MachineState) (e : End) (le : own ≤ limit) (at : point (rv32 input) Fast s own ≡ record { state = t; end = Some e }) where
    met : (point (rv32 input) Fast s own).end ≡ Some e
    met = ap (λ (p : Point MachineState End). p.end) at

    stays : (i : ℕ) → own ≤ i → point (rv32 input) Fast s i ≡ record { state = t; end = Some e }
    stays i more = point-stays (rv32 input) s own i e more met ∙ at

    unmet : first_from (boundary (rv32 input) Fast s) 1 limit ≡ None
    unmet = first-none (boundary (rv32 input) Fast s) 1 limit (λ i low high. elim (cases_lt i own) [
      | inl less ↦ (least.at i less).inside
      | inr more ↦ boundary-ended (rv32 input) Fast s i e (ap (λ (p : Point MachineState End). p.end) (stays i more))
    ])

    by-verdict : verdict (rv32 input) s limit ≡ unclosed limit (fast_count (rv32 input) s limit) (Some e)
    unfolding verdict
    by-verdict = ap (verdict_of (rv32 input) s limit) unmet ∙ ap (λ (p : Point MachineState End). unclosed {D = Difference} limit (fast_count (rv32 input) s limit) p.end) (stays limit le)

    counts : fast_count (rv32 input) s limit ≡ own
    counts = ap (λ (j : Judged Difference). j.fast) (sym by-verdict ∙ verdict-stopped (rv32 input) s limit own e least met le)

    pub ended-at : fast_lines input s n limit ≡ ended_line t e own
    unfolding fast_lines
    ended-at = ap (lines_by input s n limit) unmet ∙ ap₂ (λ (p : Point MachineState End) (k : ℕ). unclosed_line p.state p.end k) (stays limit le) counts

  all-taken : (k : ℕ) → Unstopped (rv32 input) Fast s k → fast_count (rv32 input) s k ≡ k
  all-taken zero h = refl
  all-taken (suc k) h = ap suc (taken-all (rv32 input) (fresh (answer_one s)) k (λ j less. (h.at (suc j) (omega (arith, less))).going))

  -- it took all that it may
  pub running-at : own ≡ limit → NoStop (rv32 input) Fast s own → fast_lines input s n limit ≡ running_line own
  unfolding fast_lines
  running-at same here =
      let unmet : first_from (boundary (rv32 input) Fast s) 1 limit ≡ None = first-none (boundary (rv32 input) Fast s) 1 limit (λ i low high. elim (cases_lt i own) [
        | inl less ↦ (least.at i less).inside
        | inr more ↦ let is : i ≡ own = omega (arith, high, more, same) in ap (boundary (rv32 input) Fast s) is ∙ here.inside
      ]) in
      let none : (point (rv32 input) Fast s limit).end ≡ None = ap (λ k. (point (rv32 input) Fast s k).end) (sym same) ∙ here.going in
      ap (lines_by input s n limit) unmet
      ∙ ap (λ o. unclosed_line (point (rv32 input) Fast s limit).state o (fast_count (rv32 input) s limit)) none
      ∙ ap running_line (ap (fast_count (rv32 input) s) (sym same) ∙ all-taken own least)

-- ---- tracks

-- a late fast version has a line of its own
pub late-or : (n k : ℕ) (lines text : List ℕ) → n < k → text ≡ late_line k ++ lines → text ≡ (if nat_lt n k then late_line k else []) ++ lines
late-or n k lines text less is = is ∙ ap (λ b. (if b then late_line k else []) ++ lines) (sym (lt-ltb n k less))

pub in_time-or : (n k : ℕ) (lines text : List ℕ) → k ≤ n → text ≡ lines → text ≡ (if nat_lt n k then late_line k else []) ++ lines
in_time-or n k lines text le is = is ∙ ap (λ b. (if b then late_line k else []) ++ lines) (sym (le-ltb n k le))

module _ (input : List ℕ) (o f : TrackView) (limit : ℕ) (closed : IsClosed input o) (kind : f.kind ≡ Fast) (start : f.start ≡ o.start) (way : IsUnderWay input f limit) where
  least-is : Unstopped (rv32 input) Fast o.start f.own
  least-is = subst (λ s. Unstopped (rv32 input) Fast s f.own) start (subst (λ k. Unstopped (rv32 input) k f.start f.own) kind way.least)

  fast-at : point (rv32 input) Fast o.start f.own ≡ record { state = f.state; end = f.end }
  fast-at = subst (λ s. point (rv32 input) Fast s f.own ≡ record { state = f.state; end = f.end }) start (subst (λ k. point (rv32 input) k f.start f.own ≡ record { state = f.state; end = f.end }) kind way.runs.at)

  original-at : point (rv32 input) Normal o.start o.own ≡ record { state = o.state; end = o.end }
  original-at = subst (λ k. point (rv32 input) k o.start o.own ≡ record { state = o.state; end = o.end }) closed.kind closed.runs.at

  pub lines-closed : boundary (rv32 input) f.kind f.start f.own ≡ true → fast_lines input o.start o.own limit ≡ (if nat_lt o.own f.own then late_line f.own else []) ++ differences_lines o.state f.state
  lines-closed here =
      closed-at input o.start o.own limit f.own least-is way.within (subst (λ s. boundary (rv32 input) Fast s f.own ≡ true) start (subst (λ k. boundary (rv32 input) k f.start f.own ≡ true) kind here))
      ∙ ap₂ (λ (p q : Point MachineState End). (if nat_lt o.own f.own then late_line f.own else []) ++ differences_lines p.state q.state) original-at fast-at

  pub lines-ended : (e : End) → f.end ≡ Some e → fast_lines input o.start o.own limit ≡ ended_line f.state e f.own
  lines-ended e ended = ended-at input o.start o.own limit f.own least-is f.state e way.within (fast-at ∙ ap (λ x. record { state = f.state; end = x }) ended)

  pub lines-running : f.own ≡ limit → NoStop (rv32 input) f.kind f.start f.own → fast_lines input o.start o.own limit ≡ running_line f.own
  lines-running same here =
      running-at input o.start o.own limit f.own least-is same
      (subst (λ s. NoStop (rv32 input) Fast s f.own) start (subst (λ k. NoStop (rv32 input) k f.start f.own) kind here))
