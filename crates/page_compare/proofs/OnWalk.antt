-- What the walk over the written pages knows on its way
use Rattle.std.proofs.Common.{◌≡◌, ℕ, ◌+◌, ◌-◌, ◌*◌, ◌/◌, ◌<◌, ◌≤◌, ◌⊎◌, inl, inr, Bool, true, false, List, length, get_or, drop, Some, refl, sym, ◌∙◌, ap, subst, arith}
use Rattle.std.specs.Prelude.{AllPairs, slice_index}
use Rattle.std.proofs.lemmas.Bool.{cases_eq, cases_lt}
use Rattle.guest_model.specs.ByteMap.{ByteMap}
use Rattle.guest_model.specs.Difference.{byte_difference}
use Rattle.paged_image.specs.WriteSet.{has}
use Rattle.page_compare.specs.Comparison.{AgreeOutside, SamePage, DiffersFirst, IsNextPage, PassesPage, in_either}
use Rattle.page_compare.proofs.OnEither.{stands_before, cost_step}
use Rattle.page_compare.proofs.OnLeast.{difference-some}
use Rattle.page_compare.proofs.OnPagePair.{same-at}

-- the pages before this place are the same
abbrev pub Done : ByteMap → ByteMap → List ℕ → ℕ → Type 0
Done m n pages i = (k : ℕ) → k < i → k < length pages → SamePage m n (slice_index pages k)

pub done_next : (m n : ByteMap) (pages : List ℕ) (i page next : ℕ) → Done m n pages i → SamePage m n page → PassesPage pages i page next → Done m n pages next
done_next m n pages i page next done same (inl p) k l r = elim (cases_eq k i) [
  | inl e ↦ subst (λ (x : ℕ). SamePage m n x) (sym (ap (λ (j : ℕ). slice_index pages j) e ∙ p.1)) same
  | inr ne ↦ done k (omega (arith, p.2, ne)) r
]
done_next m n pages i page next done same (inr p) k l r = done k (omega (arith, p.1)) r

decide : (b : Bool) → (b ≡ true) ⊎ (b ≡ false)
decide true = inl refl
decide false = inr refl

-- the pages below the next one are the same
pub same_below : (m n : ByteMap) (us ws : List ℕ) (i j page : ℕ) → AllPairs (λ p q. p < q) us → AllPairs (λ p q. p < q) ws → AgreeOutside us ws m n → Done m n us i → Done m n ws j
    → (i < length us → page ≤ get_or us i 0) → (j < length ws → page ≤ get_or ws j 0) → (q : ℕ) → q / 4096 < page → m q ≡ n q
same_below m n us ws i j page up wp outside du dw left right q low = elim (decide (has us (q / 4096))) [
  | inl there ↦ let at = stands_before us i page up (q / 4096) there low left in same-at m n q (subst (λ (x : ℕ). SamePage m n x) at.3 (du at.0 at.1 at.2))
  | inr absent ↦ elim (decide (has ws (q / 4096))) [
    | inl there ↦ let at = stands_before ws j page wp (q / 4096) there low right in same-at m n q (subst (λ (x : ℕ). SamePage m n x) at.3 (dw at.0 at.1 at.2))
    | inr gone ↦ outside q absent gone
  ]
]

pub lowest : (m n : ByteMap) (us ws : List ℕ) (i j page q : ℕ) → AllPairs (λ p r. p < r) us → AllPairs (λ p r. p < r) ws → AgreeOutside us ws m n → Done m n us i → Done m n ws j
    → IsNextPage us i ws j page → DiffersFirst m n page q → Some q ≡ byte_difference m n
lowest m n us ws i j page q up wp outside du dw next d = difference-some m n q d.space d.differs (λ k b. elim (cases_lt (k / 4096) page) [
  | inl low ↦ same_below m n us ws i j page up wp outside du dw next.left next.right k low
  | inr high ↦
      let here : page * 4096 + (k - page * 4096) ≡ k = omega (arith, d.on_page) in
      ap m (sym here) ∙ d.below (k - page * 4096) (omega arith) ∙ ap n here
])

-- at the end of both lists all bytes are the same
pub all_same : (m n : ByteMap) (us ws : List ℕ) (i j : ℕ) → AllPairs (λ p q. p < q) us → AllPairs (λ p q. p < q) ws → AgreeOutside us ws m n → Done m n us i → Done m n ws j
    → length us ≤ i → length ws ≤ j → (q : ℕ) → m q ≡ n q
all_same m n us ws i j up wp outside du dw ei ej q =
    same_below m n us ws i j (q / 4096 + 1) up wp outside du dw (λ l. absurd (omega arith)) (λ l. absurd (omega arith)) q (omega arith)

passes : (pages : List ℕ) (i page : ℕ) → (next : ℕ) × PassesPage pages i page next
passes pages i page = elim (cases_lt i (length pages)) [
  | inl l ↦ elim (cases_eq (get_or pages i 0) page) [ inl e ↦ (i + 1, inl (l, e, refl)) | inr n ↦ (i, inr (λ _. n, refl)) ]
  | inr r ↦ (i, inr (λ l. absurd (omega arith), refl))
]

-- a page is left
pub one_left : (us ws : List ℕ) (i j page : ℕ) → AllPairs (λ p q. p < q) us → AllPairs (λ p q. p < q) ws → IsNextPage us i ws j page → 1 ≤ in_either (drop i us) (drop j ws)
one_left us ws i j page up wp n =
    let p = passes us i page in
    let q = passes ws j page in
    omega (arith, cost_step us ws i j page p.0 q.0 up wp n p.1 q.1)

pub nearer : (us ws : List ℕ) (i j page next_i next_j : ℕ) → IsNextPage us i ws j page → PassesPage us i page next_i → PassesPage ws j page next_j
    → (length us - next_i) + (length ws - next_j) < (length us - i) + (length ws - j)
nearer us ws i j page next_i next_j n (inl p) (inl q) = omega (arith, p.0, p.2, q.0, q.2)
nearer us ws i j page next_i next_j n (inl p) (inr q) = omega (arith, p.0, p.2, q.1)
nearer us ws i j page next_i next_j n (inr p) (inl q) = omega (arith, p.1, q.0, q.2)
nearer us ws i j page next_i next_j n (inr p) (inr q) = elim n.one [ inl e ↦ absurd (p.0 e.0 e.1) | inr e ↦ absurd (q.0 e.0 e.1) ]
