-- The least number that passes a test, where there is none
use Rattle.std.proofs.Common.{◌≡◌, ℕ, zero, suc, ◌<◌, inl, inr, Bool, true, false, cond, Option, Some, None, refl, ap, ◌∙◌, arith}
use Rattle.std.proofs.lemmas.Bool.{cases_lt, cond-false}
use Rattle.guest_model.specs.Difference.{least, or_else}

pub or_else-none : {A : Type 0} (o p : Option A) → or_else o p ≡ None → (o ≡ None) × (p ≡ None)
or_else-none (Some x) p h = absurd (cc)
or_else-none None p h = (refl, h)

chosen-none : (b : Bool) (n : ℕ) → cond b (Some n) None ≡ None → b ≡ false
chosen-none true n h = absurd (cc)
chosen-none false n h = refl

-- no number below n passes a test of which there is no least
pub least-none_each : (p : ℕ → Bool) (n : ℕ) → least p n ≡ None → (k : ℕ) → k < n → p k ≡ false
unfolding least
least-none_each p zero h k l = absurd (omega arith)
least-none_each p (suc n) h k l =
    let parts = or_else-none (least p n) (cond (p n) (Some n) None) h in
    elim (cases_lt k n) [
      | inl below ↦ least-none_each p n parts.0 k below
      | inr last ↦ (let same : k ≡ n = omega arith in ap p same ∙ chosen-none (p n) n parts.1)
    ]

pub least-none : (p : ℕ → Bool) (n : ℕ) → ((k : ℕ) → k < n → p k ≡ false) → least p n ≡ None
unfolding least
least-none p zero h = refl
least-none p (suc n) h =
    let rest : least p n ≡ None = least-none p n (λ k l. h k (omega arith)) in
    ap (λ (o : Option ℕ). or_else o (cond (p n) (Some n) None)) rest ∙ cond-false (p n) (Some n) None (h n (omega arith))
