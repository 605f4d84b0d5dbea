-- Texts of numbers in order, part by part
use Rattle.std.proofs.Common.{◌≡◌, ℕ, zero, suc, ◌+◌, ◌<◌, List, [], ◌++◌, refl, sym, ap, ◌∙◌, zero-add, add-zero, append_assoc, append-nil, arith}
use Rattle.word_listing.specs.Listing.{joined}

pub joined-split : (text : ℕ → List ℕ) (s m n : ℕ) → joined text s (m + n) ≡ joined text s m ++ joined text (s + m) n
unfolding joined
joined-split text s zero n = ap (joined text s) (zero-add n) ∙ ap (λ t. joined text t n) (sym (add-zero s))
joined-split text s (suc m) n =
    let count : suc m + n ≡ suc (m + n) = omega arith in
    let next : s + 1 + m ≡ s + suc m = omega arith in
    ap (joined text s) count
    ∙ ap (λ t. text s ++ t) (joined-split text (s + 1) m n)
    ∙ sym (append_assoc (text s) (joined text (s + 1) m) (joined text (s + 1 + m) n))
    ∙ ap (λ t. joined text s (suc m) ++ joined text t n) next

-- one more
pub joined-more : (text : ℕ → List ℕ) (s n : ℕ) → joined text s (n + 1) ≡ joined text s n ++ text (s + n)
unfolding joined
joined-more text s n = joined-split text s n 1 ∙ ap (λ t. joined text s n ++ t) (append-nil (text (s + n)))

-- the same texts of other numbers
pub joined-same : (text text' : ℕ → List ℕ) (s t n : ℕ) → ((k : ℕ) → k < n → text (s + k) ≡ text' (t + k)) → joined text s n ≡ joined text' t n
unfolding joined
joined-same text text' s t zero h = refl
joined-same text text' s t (suc n) h =
    let first : text s ≡ text' t = ap text (sym (add-zero s)) ∙ h 0 (omega arith) ∙ ap text' (add-zero t) in
    let more : (k : ℕ) → k < n → text (s + 1 + k) ≡ text' (t + 1 + k) = λ k l.
    (let e : s + 1 + k ≡ s + suc k = omega arith in
    let e' : t + suc k ≡ t + 1 + k = omega arith in
    ap text e ∙ h (suc k) (omega arith) ∙ ap text' e') in
    ap (λ xs. xs ++ joined text (s + 1) n) first ∙ ap (λ xs. text' t ++ xs) (joined-same text text' (s + 1) (t + 1) n more)

no-texts : (t n : ℕ) → joined (λ k. []) t n ≡ []
unfolding joined
no-texts t zero = refl
no-texts t (suc n) = no-texts (t + 1) n

pub joined-none : (text : ℕ → List ℕ) (s n : ℕ) → ((k : ℕ) → k < n → text (s + k) ≡ []) → joined text s n ≡ []
joined-none text s n h = joined-same text (λ k. []) s 0 n h ∙ no-texts 0 n
