-- The ledger and the end of a program, part by part
use Rattle.std.proofs.Common.{◌≡◌, ℕ, zero, suc, ◌+◌, ◌-◌, ◌<◌, ◌≤◌, false, Some, None, refl, sym, ap, ap₂, ◌∙◌, subst, inl, inr, arith}
use Rattle.std.proofs.lemmas.Bool.{cases_lt}
use Rattle.speculation.specs.declared.tracks.Kind.TheVariants.{Normal}
use Rattle.speculation.specs.Machine.{Machine}
use Rattle.speculation.specs.Run.{Point, fresh, go, taken}
use Rattle.speculation.specs.Tracks.{boundary}
use Rattle.speculation.proofs.Runs.{go-add, go-stays, taken-add, taken-stays, taken-going, taken-ends}
use Rattle.speculation_law.specs.Facts.{NoStop, Unstopped}
use Rattle.speculation_law.proofs.Verdicts.{boundary-ended}
use Rattle.speculation_law.proofs.Walks.{fresh-point}

module _ {S E D : Type 0} (m : Machine S E D) where
  -- ---- ends

  -- n instructions from s on met no end before the last of them
  pub record Going (s : S) (n : ℕ) : Type 0 where
    pub at : (k : ℕ) → k < n → (go m (fresh s) k).end ≡ None

  pub end-later : (s : S) (n left : ℕ) (e : E) → (go m (fresh s) n).end ≡ Some e → n ≤ left → (go m (fresh s) left).end ≡ Some e
  end-later s n left e ended le =
      let rest = left - n in
      let whole : n + rest ≡ left = omega arith in
      ap (λ k. (go m (fresh s) k).end) (sym whole) ∙ ap (λ (p : Point S E). p.end) (go-stays m (fresh s) n rest e ended) ∙ ended

  taken-last : (s : S) (n : ℕ) → Going s n → taken m (fresh s) n ≡ n
  unfolding taken
  taken-last s zero h = refl
  taken-last s (suc k) h = taken-ends m (fresh s) k (go m (fresh s) k).state (fresh-point m (go m (fresh s) k) (h.at k (omega arith)))

  -- the ending instruction counts, and none after it
  pub taken-ended : (s : S) (n left : ℕ) (e : E) → Going s n → (go m (fresh s) n).end ≡ Some e → n ≤ left → taken m (fresh s) left ≡ n
  taken-ended s n left e h ended le =
      let rest = left - n in
      let whole : n + rest ≡ left = omega arith in
      ap (taken m (fresh s)) (sym whole) ∙ taken-stays m (fresh s) n rest e ended ∙ taken-last s n h

  -- ---- a run in two parts

  module _ (s t : S) (at : ℕ) (here : go m (fresh s) at ≡ fresh t) where
    pub then-go : (left : ℕ) → go m (fresh s) (at + left) ≡ go m (fresh t) left
    then-go left = go-add m (fresh s) at left ∙ ap (λ p. go m p left) here

    pub then-taken : (left : ℕ) → taken m (fresh s) (at + left) ≡ at + taken m (fresh t) left
    then-taken left =
        taken-add m (fresh s) at left
        ∙ ap₂ (λ (n : ℕ) (p : Point S E). n + taken m p left) (taken-going m (fresh s) at (ap (λ (p : Point S E). p.end) here)) here

  -- ---- rows

  -- no region closes behind an opening call whose original ends the program
  pub never-ended : (s : S) (n left i : ℕ) (e : E) → Unstopped m Normal s n → (go m (fresh s) n).end ≡ Some e → i ≤ left → boundary m Normal s i ≡ false
  never-ended s n left i e least ended le = elim (cases_lt i n) [
    | inl before ↦ (least.at i before).inside
    | inr behind ↦ boundary-ended m Normal s i e (end-later s n i e ended behind)
  ]

  -- or one that takes all that is left
  pub never-spent : (s : S) (left i : ℕ) → Unstopped m Normal s left → NoStop m Normal s left → i ≤ left → boundary m Normal s i ≡ false
  never-spent s left i least here le = elim (cases_lt i left) [
    | inl before ↦ (least.at i before).inside
    | inr behind ↦ let same : left ≡ i = omega arith in subst (λ k. boundary m Normal s k ≡ false) same here.inside
  ]
