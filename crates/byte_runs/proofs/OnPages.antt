-- The walk over the written pages, from the least on
use Rattle.std.proofs.Common.{◌≡◌, ℕ, ◌+◌, ◌*◌, ◌/◌, ◌<◌, ◌≤◌, inl, inr, false, List, length, get_or, ap, arith}
use Rattle.std.specs.Prelude.{AllPairs}
use Rattle.std.proofs.lemmas.Bool.{cases_Bool, cases_eq}
use Rattle.guest_model.specs.ByteMap.{ByteMap}
use Rattle.paged_image.specs.WriteSet.{has}
use Rattle.page_compare.specs.Comparison.{AgreeOutside, IsNextPage, PassesPage}
use Rattle.page_compare.proofs.OnEither.{stands_before}

-- the pages before the place are below this page, and the one there is not
abbrev pub Walked : List ℕ → ℕ → ℕ → Type 0
Walked pages i floor = ((k : ℕ) → k < i → k < length pages → get_or pages k 0 < floor) × (i < length pages → floor ≤ get_or pages i 0)

pub walked_next : (pages : List ℕ) (i floor page next : ℕ) → AllPairs (λ p q. p < q) pages → Walked pages i floor → floor ≤ page → (i < length pages → page ≤ get_or pages i 0) → PassesPage pages i page next → Walked pages next (page + 1)
walked_next pages i floor page next rises w le above (inl p) = (
  λ k l r. elim (cases_eq k i) [
    | inl e ↦ omega (arith, p.1, ap (λ (j : ℕ). get_or pages j 0) e)
    | inr ne ↦ omega (arith, le, w.0 k (omega (arith, l, p.2, ne)) r)
  ],
  λ l.
      let e : get_or pages next 0 ≡ get_or pages (i + 1) 0 = ap (λ (j : ℕ). get_or pages j 0) p.2 in
      omega (arith, e, p.1, rises i (i + 1) 0 (omega arith) (omega (arith, l, p.2))),
)
walked_next pages i floor page next rises w le above (inr p) = (
  λ k l r. omega (arith, le, w.0 k (omega (arith, l, p.1)) r),
  λ l.
      let inside : i < length pages = omega (arith, l, p.1) in
      let e : get_or pages next 0 ≡ get_or pages i 0 = ap (λ (j : ℕ). get_or pages j 0) p.1 in
      omega (arith, e, above inside, p.0 inside),
)

-- a page between the floor and the next page is not in the list
pub not_written : (pages : List ℕ) (i floor page p : ℕ) → AllPairs (λ p q. p < q) pages → Walked pages i floor → (i < length pages → page ≤ get_or pages i 0) → floor ≤ p → p < page → has pages p ≡ false
not_written pages i floor page p rises w next le low = elim (cases_Bool (has pages p)) [
  | inl there ↦ let at = stands_before pages i page rises p there low next in absurd (omega (arith, le, at.3, w.0 at.0 at.1 at.2))
  | inr gone ↦ gone
]

-- the bytes between the floor and the next page are the same
pub same_between : (m n : ByteMap) (us ws : List ℕ) (i j floor page : ℕ) → AllPairs (λ p q. p < q) us → AllPairs (λ p q. p < q) ws → AgreeOutside us ws m n → Walked us i floor → Walked ws j floor
    → (i < length us → page ≤ get_or us i 0) → (j < length ws → page ≤ get_or ws j 0) → (a : ℕ) → floor * 4096 ≤ a → a < page * 4096 → m a ≡ n a
same_between m n us ws i j floor page up wp outside wu ww left right a l r =
    outside a
    (not_written us i floor page (a / 4096) up wu left (omega (arith, l)) (omega (arith, r)))
    (not_written ws j floor page (a / 4096) wp ww right (omega (arith, l)) (omega (arith, r)))

-- the next page is not below the floor
pub floor_low : (us ws : List ℕ) (i j floor page : ℕ) → Walked us i floor → Walked ws j floor → IsNextPage us i ws j page → floor ≤ page
floor_low us ws i j floor page wu ww next = elim next.one [
  | inl e ↦ omega (arith, e.1, wu.1 e.0)
  | inr e ↦ omega (arith, e.1, ww.1 e.0)
]
