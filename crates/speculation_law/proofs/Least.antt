-- Least numbers at which a test holds.
use Rattle.std.proofs.Common.{◌≡◌, ℕ, zero, suc, ◌+◌, ◌<◌, ◌≤◌, Bool, true, false, cond, Option, Some, None, unwrap_or, refl, sym, ap, ◌∙◌, subst, inl, inr, arith}
use Rattle.std.proofs.lemmas.Bool.{cases_lt}
use Rattle.speculation.specs.Tracks.{first_from}

first-here : (k : ℕ) (rest : Option ℕ) (t : Bool) → t ≡ true → cond t (Some k) rest ≡ Some k
first-here k rest true h = refl
first-here k rest false h = absurd (cc)

first-later : (k : ℕ) (rest : Option ℕ) (t : Bool) → t ≡ false → cond t (Some k) rest ≡ rest
first-later k rest true h = absurd (cc)
first-later k rest false h = refl

-- true at j and false from k to below j
pub first-some : (f : ℕ → Bool) (k n j : ℕ) → k ≤ j → j < k + n → f j ≡ true → ((i : ℕ) → k ≤ i → i < j → f i ≡ false) → first_from f k n ≡ Some j
unfolding first_from
first-some f k zero j low high here below = absurd (omega arith)
first-some f k (suc n) j low high here below = elim (cases_lt k j) [
  | inl less ↦ first-later k (first_from f (suc k) n) (f k) (below k (omega arith) less) ∙ first-some f (suc k) n j less (omega arith) here (λ i low' high'. below i (omega arith) high')
  | inr more ↦ (let same : j ≡ k = omega arith in first-here k (first_from f (suc k) n) (f k) (subst (λ i. f i ≡ true) same here) ∙ ap Some (sym same))
]

-- false at all of k, .., k + n - 1
pub first-none : (f : ℕ → Bool) (k n : ℕ) → ((i : ℕ) → k ≤ i → i < k + n → f i ≡ false) → first_from f k n ≡ None
unfolding first_from
first-none f k zero below = refl
first-none f k (suc n) below =
    first-later k (first_from f (suc k) n) (f k) (below k (omega arith) (omega arith)) ∙ first-none f (suc k) n (λ i low high. below i (omega arith) (omega arith))

-- what the least number says
pub record IsLeast (f : ℕ → Bool) (k n j : ℕ) : Type 0 where
  pub low : k ≤ j
  pub high : j < k + n
  pub here : f j ≡ true
  pub below : (i : ℕ) → k ≤ i → i < j → f i ≡ false

below-more : (f : ℕ → Bool) (k : ℕ) → f k ≡ false → (j : ℕ) → ((i : ℕ) → suc k ≤ i → i < j → f i ≡ false) → (i : ℕ) → k ≤ i → i < j → f i ≡ false
below-more f k here j below i low high = elim (cases_lt k i) [
  | inl less ↦ below i less high
  | inr more ↦ (let same : k ≡ i = omega arith in subst (λ i. f i ≡ false) same here)
]

least-by : (f : ℕ → Bool) (k n j : ℕ) (t : Bool) → f k ≡ t → (first_from f (suc k) n ≡ Some j → IsLeast f (suc k) n j)
    → cond t (Some k) (first_from f (suc k) n) ≡ Some j → IsLeast f k (suc n) j
least-by f k n j true is rest h =
    let same : k ≡ j = cc in
    record { low = omega arith; high = omega arith; here = subst (λ i. f i ≡ true) same is; below = λ i low high. absurd (omega arith) }
least-by f k n j false is rest h =
    let l = rest h in
    record { low = omega (arith, l.low); high = omega (arith, l.high); here = l.here; below = below-more f k is j l.below }

pub first-least : (f : ℕ → Bool) (k n j : ℕ) → first_from f k n ≡ Some j → IsLeast f k n j
unfolding first_from
first-least f k zero j h = absurd (cc)
first-least f k (suc n) j h = least-by f k n j (f k) refl (first-least f (suc k) n j) h

none-by : (f : ℕ → Bool) (k n : ℕ) (t : Bool) → f k ≡ t → (first_from f (suc k) n ≡ None → (i : ℕ) → suc k ≤ i → i < suc k + n → f i ≡ false)
    → cond t (Some k) (first_from f (suc k) n) ≡ None → (i : ℕ) → k ≤ i → i < suc k + n → f i ≡ false
none-by f k n true is rest h = absurd (cc)
none-by f k n false is rest h = below-more f k is (suc k + n) (rest h)

pub first-nowhere : (f : ℕ → Bool) (k n : ℕ) → first_from f k n ≡ None → (i : ℕ) → k ≤ i → i < k + n → f i ≡ false
unfolding first_from
first-nowhere f k zero h i low high = absurd (omega arith)
first-nowhere f k (suc n) h i low high = none-by f k n (f k) refl (first-nowhere f (suc k) n) h i low (omega arith)

unwrapped-below : (f : ℕ → Bool) (n : ℕ) (o : Option ℕ) → first_from f 0 n ≡ o → (i : ℕ) → i < unwrap_or o n → f i ≡ false
unwrapped-below f n None is i high = first-nowhere f 0 n is i (omega arith) (omega arith)
unwrapped-below f n (Some j) is i high = (first-least f 0 n j is).below i (omega arith) high

-- below the least number from 0 on, or the limit where there is none, the test is false
pub first-below : (f : ℕ → Bool) (n i : ℕ) → i < unwrap_or (first_from f 0 n) n → f i ≡ false
first-below f n i high = unwrapped-below f n (first_from f 0 n) refl i high

unwrapped-at : (f : ℕ → Bool) (n : ℕ) (o : Option ℕ) → first_from f 0 n ≡ o → unwrap_or o n < n → f (unwrap_or o n) ≡ true
unwrapped-at f n None is high = absurd (omega arith)
unwrapped-at f n (Some j) is high = (first-least f 0 n j is).here

-- where it is below the limit, the test holds there
pub first-at : (f : ℕ → Bool) (n : ℕ) → unwrap_or (first_from f 0 n) n < n → f (unwrap_or (first_from f 0 n) n) ≡ true
first-at f n high = unwrapped-at f n (first_from f 0 n) refl high
