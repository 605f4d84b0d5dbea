-- How often an index is in a list
use Rattle.std.proofs.Common.{◌≡◌, ◌≢◌, ◌⊎◌, ℕ, ◌+◌, ◌≤◌, List, [], ◌∷◌, ◌++◌, cond, eqb, reverse, refl, ◌∙◌, inl, inr, arith}
use Rattle.std.proofs.lemmas.Bool.{eq-eqb, ne_eqb, cases_eq}
use Rattle.std.proofs.lemmas.List.{reverse-append}
use Rattle.std.proofs.lemmas.List.Sums.{sum_by-cons, sum_by-append}
use Rattle.seniority_queue.specs.Links.{times}

pub times-append : (i : ℕ) (xs ys : List ℕ) → times i (xs ++ ys) ≡ times i xs + times i ys
times-append i xs ys = sum_by-append (λ j. cond (eqb j i) 1 0) xs ys

pub times-self : (i : ℕ) (xs : List ℕ) → times i (i ∷ xs) ≡ 1 + times i xs
times-self i xs = sum_by-cons (λ j. cond (eqb j i) 1 0) i xs ∙ rw (eq-eqb i i refl)

pub times-other : (i j : ℕ) (xs : List ℕ) → j ≢ i → times i (j ∷ xs) ≡ times i xs
times-other i j xs differ = sum_by-cons (λ k. cond (eqb k i) 1 0) j xs ∙ rw (ne_eqb j i differ) (omega arith)

-- both cases at once, for `omega`
pub times-cons : (i j : ℕ) (xs : List ℕ) → ((j ≡ i) × (times i (j ∷ xs) ≡ 1 + times i xs)) ⊎ ((j ≢ i) × (times i (j ∷ xs) ≡ times i xs))
times-cons i j xs =
    elim (cases_eq j i) [
      | inl same ↦ inl (same, rw same (times-self i xs))
      | inr differ ↦ inr (differ, times-other i j xs differ)
    ]

pub times-cons-le : (i j : ℕ) (xs : List ℕ) → times i xs ≤ times i (j ∷ xs)
times-cons-le i j xs = elim (times-cons i j xs) [ inl p ↦ omega arith | inr p ↦ omega arith ]

pub times-none : (i : ℕ) → times i [] ≡ 0
times-none i = refl

pub times-reverse : (i : ℕ) (xs : List ℕ) → times i (reverse xs) ≡ times i xs
times-reverse i [] = refl
times-reverse i (j ∷ rest) =
    let first : reverse (j ∷ rest) ≡ reverse rest ++ j ∷ [] = reverse-append (j ∷ []) rest in
    rw first (omega (arith, times-append i (reverse rest) (j ∷ []), times-append i (j ∷ []) rest, times-reverse i rest))
