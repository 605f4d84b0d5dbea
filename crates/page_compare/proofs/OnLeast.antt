-- The lowest address whose bytes differ
use Rattle.std.proofs.Common.{◌≡◌, ℕ, zero, suc, ◌^◌, ◌<◌, inl, inr, Bool, true, false, not, cond, ◌==◌, Option, Some, None, refl, sym, ◌∙◌, ap, arith}
use Rattle.std.proofs.lemmas.Bool.{cases_eq, false≢true, cond-true, cond-false}
use Rattle.std.proofs.lemmas.Bool.Decides.{nat_tests}
use Rattle.guest_model.specs.ByteMap.{ByteMap}
use Rattle.guest_model.specs.Difference.{least, or_else, same_byte, byte_difference}

pub least-none : (p : ℕ → Bool) (n : ℕ) → ((k : ℕ) → k < n → p k ≡ false) → least p n ≡ None
unfolding least
least-none p zero h = refl
least-none p (suc n) h =
    let rest : least p n ≡ None = least-none p n (λ k l. h k (omega arith)) in
    ap (λ (o : Option ℕ). or_else o (cond (p n) (Some n) None)) rest ∙ cond-false (p n) (Some n) None (h n (omega arith))

pub least-some : (p : ℕ → Bool) (n q : ℕ) → q < n → p q ≡ true → ((k : ℕ) → k < q → p k ≡ false) → least p n ≡ Some q
unfolding least
least-some p zero q l here before = absurd (omega arith)
least-some p (suc n) q l here before = elim (cases_eq q n) [
  | inl same ↦
      let rest : least p n ≡ None = least-none p n (λ k m. before k (omega arith)) in
      ap (λ (o : Option ℕ). or_else o (cond (p n) (Some n) None)) rest ∙ cond-true (p n) (Some n) None (ap p (sym same) ∙ here) ∙ ap Some (sym same)
  | inr other ↦
      let rest : least p n ≡ Some q = least-some p n q (omega (arith, other)) here before in
      ap (λ (o : Option ℕ). or_else o (cond (p n) (Some n) None)) rest
]

eqb-refl : (x : ℕ) → (x == x) ≡ true
eqb-refl x = grind (arith, nat_tests)

same_byte-refl : (o : Option ℕ) → same_byte o o ≡ true
same_byte-refl None = refl
same_byte-refl (Some x) = eqb-refl x

same : (m n : ByteMap) (q : ℕ) → m q ≡ n q → not (same_byte (m q) (n q)) ≡ false
same m n q h = ap (λ (o : Option ℕ). not (same_byte (m q) o)) (sym h) ∙ ap not (same_byte-refl (m q))

-- no byte differs
pub difference-none : (m n : ByteMap) → ((q : ℕ) → m q ≡ n q) → None ≡ byte_difference m n
difference-none m n h = sym (least-none (λ q. not (same_byte (m q) (n q))) (2 ^ 32) (λ q l. same m n q (h q)))

pub difference-some : (m n : ByteMap) (q : ℕ) → q < 2 ^ 32 → same_byte (m q) (n q) ≡ false → ((k : ℕ) → k < q → m k ≡ n k) → Some q ≡ byte_difference m n
difference-some m n q l d h = sym (least-some (λ k. not (same_byte (m k) (n k))) (2 ^ 32) q l (ap not d) (λ k b. same m n k (h k b)))

pub differs-apart : (m n : ByteMap) (q : ℕ) → same_byte (m q) (n q) ≡ false → m ≡ n → ⊥
differs-apart m n q d e = false≢true (sym d ∙ ap (λ (o : Option ℕ). same_byte (m q) o) (sym (ap (λ (b : ByteMap). b q) e)) ∙ same_byte-refl (m q))
