-- Two rising lists of pages, walked together
use Rattle.std.proofs.Common.{◌≡◌, ℕ, suc, ◌+◌, ◌-◌, ◌<◌, ◌≤◌, inl, inr, Bool, true, false, not, cond, ◌||◌, ◌==◌, List, [], ◌∷◌, length, get_or, drop, refl, sym, ◌∙◌, ap, subst, arith}
use Rattle.std.specs.Prelude.{AllPairs, count_by}
use Rattle.std.proofs.lemmas.Bool.{cases_eq, cases_lt, false≢true, eqb-true}
use Rattle.std.proofs.lemmas.Bool.Decides.{nat_tests}
use Rattle.std.proofs.lemmas.List.{drop_more, get_or-drop, length-drop}
use Rattle.std.proofs.lemmas.List.Sums.{sum_by-cons}
use Rattle.paged_image.specs.WriteSet.{has}
use Rattle.page_compare.specs.Comparison.{in_either, IsNextPage, PassesPage}

abbrev one : Bool → ℕ
one b = cond b 1 0

apart : (x q : ℕ) → x < q → (x == q) ≡ false
apart x q l = grind (arith, nat_tests)

same : (x : ℕ) → (x == x) ≡ true
same x = grind (arith, nat_tests)

above_apart : (x y : ℕ) → x < y → (y == x) ≡ false
above_apart x y l = grind (arith, nat_tests)

-- every element is above x
abbrev Above : ℕ → List ℕ → Type 0
Above x xs = (k : ℕ) → k < length xs → x < get_or xs k 0

above-tail : (x y : ℕ) (xs : List ℕ) → Above x (y ∷ xs) → Above x xs
above-tail x y xs h k l = h (suc k) (omega arith)

-- a page below all others in the list is not there
has-above : (x : ℕ) (xs : List ℕ) → Above x xs → has xs x ≡ false
has-above x [] h = refl
has-above x (y ∷ xs) h =
    let first : (y == x) ≡ false = above_apart x y (h 0 (omega arith)) in
    ap (λ (b : Bool). b || has xs x) first ∙ has-above x xs (above-tail x y xs h)

-- one page more in the first list counts nothing among pages above it
count-above : (x : ℕ) (us ws : List ℕ) → Above x ws → count_by (λ p. not (has (x ∷ us) p)) ws ≡ count_by (λ p. not (has us p)) ws
count-above x us [] h = refl
count-above x us (w ∷ ws) h =
    let first : one (not (has (x ∷ us) w)) ≡ one (not (has us w)) = ap (λ (b : Bool). one (not (b || has us w))) (apart x w (h 0 (omega arith))) in
    sum_by-cons (λ (p : ℕ). one (not (has (x ∷ us) p))) w ws
    ∙ ap (λ (n : ℕ). n + count_by (λ p. not (has (x ∷ us) p)) ws) first
    ∙ ap (λ (n : ℕ). one (not (has us w)) + n) (count-above x us ws (above-tail x w ws h))
    ∙ sym (sum_by-cons (λ (p : ℕ). one (not (has us p))) w ws)

left : (x : ℕ) (us ws : List ℕ) → Above x ws → in_either (x ∷ us) ws ≡ 1 + in_either us ws
left x us ws h = omega (arith, count-above x us ws h)

right : (y : ℕ) (us ws : List ℕ) → Above y us → in_either us (y ∷ ws) ≡ 1 + in_either us ws
right y us ws h =
    let first : one (not (has us y)) ≡ 1 = ap (λ (b : Bool). one (not b)) (has-above y us h) in
    omega (arith, sum_by-cons (λ (p : ℕ). one (not (has us p))) y ws, first)

both : (x : ℕ) (us ws : List ℕ) → Above x ws → in_either (x ∷ us) (x ∷ ws) ≡ 1 + in_either us ws
both x us ws h =
    let first : one (not (has (x ∷ us) x)) ≡ 0 = ap (λ (b : Bool). one (not (b || has us x))) (same x) in
    omega (arith, sum_by-cons (λ (p : ℕ). one (not (has (x ∷ us) p))) x ws, first, count-above x us ws h)

-- from a place on, a rising list is above what its element there is above
above-drop : (xs : List ℕ) (i x : ℕ) → AllPairs (λ p q. p < q) xs → (i < length xs → x < get_or xs i 0) → Above x (drop i xs)
above-drop xs i x rises h k l =
    let size : length (drop i xs) ≡ length xs - i = length-drop i xs in
    let at : get_or (drop i xs) k 0 ≡ get_or xs (i + k) 0 = get_or-drop i xs k 0 in
    elim (cases_eq k 0) [
      | inl first ↦ let e : i + k ≡ i = omega (arith, first) in omega (arith, at, ap (λ (j : ℕ). get_or xs j 0) e, h (omega arith))
      | inr later ↦ omega (arith, at, h (omega arith), rises i (i + k) 0 (omega (arith, later)) (omega arith))
    ]

above-next : (xs : List ℕ) (i x : ℕ) → AllPairs (λ p q. p < q) xs → i < length xs → get_or xs i 0 ≡ x → Above x (drop (i + 1) xs)
above-next xs i x rises l e = above-drop xs (i + 1) x rises (λ m. omega (arith, rises i (i + 1) 0 (omega arith) m))

less : (a b : ℕ) → a ≤ b → (b ≡ a → ⊥) → a < b
less a b l ne = omega (arith, ne)

-- each page that is compared is one of those that are left
pub cost_step : (us ws : List ℕ) (i j page next_i next_j : ℕ) → AllPairs (λ p q. p < q) us → AllPairs (λ p q. p < q) ws
    → IsNextPage us i ws j page → PassesPage us i page next_i → PassesPage ws j page next_j
    → in_either (drop i us) (drop j ws) ≡ 1 + in_either (drop next_i us) (drop next_j ws)
cost_step us ws i j page next_i next_j up wp n (inl p) (inl q) =
    let first : drop i us ≡ page ∷ drop next_i us = drop_more us i 0 p.0 ∙ ap (λ (x : ℕ). x ∷ drop (i + 1) us) p.1 ∙ ap (λ (k : ℕ). page ∷ drop k us) (sym p.2) in
    let second : drop j ws ≡ page ∷ drop next_j ws = drop_more ws j 0 q.0 ∙ ap (λ (x : ℕ). x ∷ drop (j + 1) ws) q.1 ∙ ap (λ (k : ℕ). page ∷ drop k ws) (sym q.2) in
    let above : Above page (drop next_j ws) = subst (λ (k : ℕ). Above page (drop k ws)) (sym q.2) (above-next ws j page wp q.0 q.1) in
    ap (λ (xs : List ℕ). in_either xs (drop j ws)) first ∙ ap (in_either (page ∷ drop next_i us)) second ∙ both page (drop next_i us) (drop next_j ws) above
cost_step us ws i j page next_i next_j up wp n (inl p) (inr q) =
    let first : drop i us ≡ page ∷ drop next_i us = drop_more us i 0 p.0 ∙ ap (λ (x : ℕ). x ∷ drop (i + 1) us) p.1 ∙ ap (λ (k : ℕ). page ∷ drop k us) (sym p.2) in
    let above : Above page (drop j ws) = above-drop ws j page wp (λ l. less page (get_or ws j 0) (n.right l) (q.0 l)) in
    ap (λ (xs : List ℕ). in_either xs (drop j ws)) first ∙ left page (drop next_i us) (drop j ws) above ∙ ap (λ (k : ℕ). 1 + in_either (drop next_i us) (drop k ws)) (sym q.1)
cost_step us ws i j page next_i next_j up wp n (inr p) (inl q) =
    let second : drop j ws ≡ page ∷ drop next_j ws = drop_more ws j 0 q.0 ∙ ap (λ (x : ℕ). x ∷ drop (j + 1) ws) q.1 ∙ ap (λ (k : ℕ). page ∷ drop k ws) (sym q.2) in
    let above : Above page (drop i us) = above-drop us i page up (λ l. less page (get_or us i 0) (n.left l) (p.0 l)) in
    ap (in_either (drop i us)) second ∙ right page (drop i us) (drop next_j ws) above ∙ ap (λ (k : ℕ). 1 + in_either (drop k us) (drop next_j ws)) (sym p.1)
cost_step us ws i j page next_i next_j up wp n (inr p) (inr q) = elim n.one [ inl e ↦ absurd (p.0 e.0 e.1) | inr e ↦ absurd (q.0 e.0 e.1) ]

by_first : (x : ℕ) (xs : List ℕ) (p : ℕ) (b : Bool) → (x == p) ≡ b → has (x ∷ xs) p ≡ true → (has xs p ≡ true → (k : ℕ) × (k < length xs) × (get_or xs k 0 ≡ p)) → (k : ℕ) × (k < length (x ∷ xs)) × (get_or (x ∷ xs) k 0 ≡ p)
by_first x xs p true e h more = (0, omega arith, eqb-true x p e)
by_first x xs p false e h more = let rest = more (ap (λ (b : Bool). b || has xs p) (sym e) ∙ h) in (suc rest.0, omega (arith, rest.1), rest.2)

place_of : (xs : List ℕ) (p : ℕ) → has xs p ≡ true → (k : ℕ) × (k < length xs) × (get_or xs k 0 ≡ p)
place_of [] p h = absurd (false≢true h)
place_of (x ∷ xs) p h = by_first x xs p (x == p) refl h (place_of xs p)

not_past : (xs : List ℕ) (i k p page : ℕ) → AllPairs (λ q r. q < r) xs → i ≤ k → k < length xs → get_or xs k 0 ≡ p → p < page → (i < length xs → page ≤ get_or xs i 0) → ⊥
not_past xs i k p page rises le l at low next = elim (cases_eq i k) [
  | inl same ↦ omega (arith, next (omega arith), ap (λ (j : ℕ). get_or xs j 0) same)
  | inr other ↦ omega (arith, next (omega arith), rises i k 0 (omega (arith, other)) l)
]

-- a page in a rising list that is below the one at i stands before it
pub stands_before : (xs : List ℕ) (i page : ℕ) → AllPairs (λ p q. p < q) xs → (p : ℕ) → has xs p ≡ true → p < page → (i < length xs → page ≤ get_or xs i 0) → (k : ℕ) × (k < i) × (k < length xs) × (get_or xs k 0 ≡ p)
stands_before xs i page rises p there l next =
    let at = place_of xs p there in
    (at.0, elim (cases_lt at.0 i) [ inl b ↦ b | inr b ↦ absurd (not_past xs i at.0 p page rises b at.1 at.2 l next) ], at.1, at.2)
