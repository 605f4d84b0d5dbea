-- Insertion into a rising list of page numbers
use Rattle.std.proofs.Common.{◌≡◌, ℕ, ◌+◌, ◌-◌, ◌<◌, ◌≤◌, ◌⊎◌, inl, inr, Bool, true, false, ◌||◌, ◌==◌, List, ◌∷◌, ◌++◌, length, get_or, take, drop, Ok, Err, refl, sym, ◌∙◌, ap, arith}
use Rattle.std.specs.Prelude.{AllPairs, insert}
use Rattle.std.specs.Ordering.{nat_cmp}
use Rattle.std.specs.List.Sorted.{IsBinarySearchResult}
use Rattle.std.proofs.lemmas.List.Sorted.{searched}
use Rattle.std.proofs.lemmas.Bool.{cases_eq, cases_lt}
use Rattle.std.proofs.lemmas.List.{get_or_default, take-append-drop}
use Rattle.std.proofs.lemmas.List.Edits.{length-insert, get_or-insert_below, get_or-insert_at, get_or-insert_above}
use Rattle.std.proofs.lemmas.List.Folds.{list_any-append, list_any_at}
use Rattle.paged_image.specs.WriteSet.{has}

-- where an element of the longer list stood
at_insert : (xs : List ℕ) (i x k d : ℕ) → i ≤ length xs → k < length xs + 1 → ((k < i) × (get_or (insert xs i x) k d ≡ get_or xs k 0)) ⊎ (((k ≡ i) × (get_or (insert xs i x) k d ≡ x)) ⊎ ((i < k) × (get_or (insert xs i x) k d ≡ get_or xs (k - 1) 0)))
at_insert xs i x k d le lt = elim (cases_lt k i) [
  | inl below ↦ inl (below, get_or-insert_below xs i x d k below le ∙ get_or_default xs k d 0 (omega arith))
  | inr above ↦ elim (cases_eq k i) [
    | inl same ↦ inr (inl (same, ap (λ (j : ℕ). get_or (insert xs i x) j d) same ∙ get_or-insert_at xs i x d le))
    | inr other ↦
        let past : i < k = omega (arith, other) in
        let back : k ≡ (k - 1) + 1 = omega arith in
        let there : get_or (insert xs i x) ((k - 1) + 1) d ≡ get_or xs (k - 1) d = get_or-insert_above xs i x d (k - 1) (omega arith) le in
        inr (inr (past, ap (λ (j : ℕ). get_or (insert xs i x) j d) back ∙ there ∙ get_or_default xs (k - 1) d 0 (omega arith)))
  ]
]

-- the new element stands between those before it and those after it
rising_pair : (xs : List ℕ) (i x j k a b : ℕ) → j < k → k < length xs + 1 → i ≤ length xs
    → ((l m : ℕ) → l < m → m < length xs → get_or xs l 0 < get_or xs m 0)
    → ((l : ℕ) → l < i → get_or xs l 0 < x) → ((l : ℕ) → i ≤ l → l < length xs → x < get_or xs l 0)
    → ((j < i) × (a ≡ get_or xs j 0)) ⊎ (((j ≡ i) × (a ≡ x)) ⊎ ((i < j) × (a ≡ get_or xs (j - 1) 0)))
    → ((k < i) × (b ≡ get_or xs k 0)) ⊎ (((k ≡ i) × (b ≡ x)) ⊎ ((i < k) × (b ≡ get_or xs (k - 1) 0))) → a < b
rising_pair xs i x j k a b lt len le rises below above (inl p) (inl q) = omega (arith, rises j k lt (omega arith))
rising_pair xs i x j k a b lt len le rises below above (inl p) (inr (inl q)) = omega (arith, below j p.0)
rising_pair xs i x j k a b lt len le rises below above (inl p) (inr (inr q)) = omega (arith, below j p.0, above (k - 1) (omega arith) (omega arith))
rising_pair xs i x j k a b lt len le rises below above (inr (inl p)) (inl q) = absurd (omega arith)
rising_pair xs i x j k a b lt len le rises below above (inr (inl p)) (inr (inl q)) = absurd (omega arith)
rising_pair xs i x j k a b lt len le rises below above (inr (inl p)) (inr (inr q)) = omega (arith, above (k - 1) (omega arith) (omega arith))
rising_pair xs i x j k a b lt len le rises below above (inr (inr p)) (inl q) = absurd (omega arith)
rising_pair xs i x j k a b lt len le rises below above (inr (inr p)) (inr (inl q)) = absurd (omega arith)
rising_pair xs i x j k a b lt len le rises below above (inr (inr p)) (inr (inr q)) = omega (arith, rises (j - 1) (k - 1) (omega arith) (omega arith))

pub rises-insert : (xs : List ℕ) (i x : ℕ) → i ≤ length xs → AllPairs (λ p q. p < q) xs
    → ((k : ℕ) → k < i → get_or xs k 0 < x) → ((k : ℕ) → i ≤ k → k < length xs → x < get_or xs k 0) → AllPairs (λ p q. p < q) (insert xs i x)
rises-insert xs i x le rises below above j k d lt in_list =
    let n : length (insert xs i x) ≡ length xs + 1 = length-insert xs i x le in
    let a = at_insert xs i x j d le (omega arith) in
    let b = at_insert xs i x k d le (omega arith) in
    rising_pair xs i x j k (get_or (insert xs i x) j d) (get_or (insert xs i x) k d) lt (omega arith) le (λ (l m : ℕ) (h : l < m) (h' : m < length xs). rises l m 0 h h') below above a b

or_moved : (a b c : Bool) → (a || (c || b)) ≡ ((a || b) || c)
or_moved true b c = refl
or_moved false true true = refl
or_moved false true false = refl
or_moved false false true = refl
or_moved false false false = refl

or_absorbed : (a b : Bool) → (b ≡ true → a ≡ true) → a ≡ (a || b)
or_absorbed true b h = refl
or_absorbed false true h = h refl
or_absorbed false false h = refl

pub has-insert : (xs : List ℕ) (i x q : ℕ) → has (insert xs i x) q ≡ (has xs q || (x == q))
has-insert xs i x q =
    let whole : has (take i xs ++ drop i xs) q ≡ has xs q = ap (λ (ys : List ℕ). has ys q) (take-append-drop i xs) in
    let parts : has (take i xs ++ drop i xs) q ≡ (has (take i xs) q || has (drop i xs) q) = list_any-append (λ p. p == q) (take i xs) (drop i xs) in
    let longer : has (insert xs i x) q ≡ (has (take i xs) q || ((x == q) || has (drop i xs) q)) = list_any-append (λ p. p == q) (take i xs) (x ∷ drop i xs) in
    longer ∙ or_moved (has (take i xs) q) (has (drop i xs) q) (x == q) ∙ ap (λ (b : Bool). b || (x == q)) (sym parts ∙ whole)

pub has-there : (xs : List ℕ) (i x q : ℕ) → i < length xs → get_or xs i 0 ≡ x → has xs q ≡ (has xs q || (x == q))
has-there xs i x q lt at = or_absorbed (has xs q) (x == q) (λ (e : (x == q) ≡ true). list_any_at (λ p. p == q) xs i 0 lt (ap (λ (y : ℕ). y == q) at ∙ e))

-- a rising list does not fall
rises_weakly : (xs : List ℕ) → AllPairs (λ p q. p < q) xs → (i j : ℕ) → i ≤ j → j < length xs → get_or xs i 0 ≤ get_or xs j 0
rises_weakly xs rises i j le lt = elim (cases_eq i j) [
  | inl same ↦ omega (arith, ap (λ (k : ℕ). get_or xs k 0) same)
  | inr other ↦ omega (arith, rises i j 0 (omega (arith, other)) lt)
]

-- what a binary search says of a rising list: the element is there, or the place is where it belongs
pub search-there : (xs : List ℕ) (x i : ℕ) → AllPairs (λ p q. p < q) xs → IsBinarySearchResult (λ y. nat_cmp y x) xs (Ok i) → (i < length xs) × (get_or xs i 0 ≡ x)
search-there xs x i rises h = searched xs x (Ok i) h (rises_weakly xs rises)

pub search-absent : (xs : List ℕ) (x i : ℕ) → AllPairs (λ p q. p < q) xs → IsBinarySearchResult (λ y. nat_cmp y x) xs (Err i) → (i ≤ length xs) × ((k : ℕ) → k < i → get_or xs k 0 < x) × ((k : ℕ) → i ≤ k → k < length xs → x < get_or xs k 0)
search-absent xs x i rises h = searched xs x (Err i) h (rises_weakly xs rises)
