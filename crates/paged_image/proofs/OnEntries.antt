-- An entry in another's place: what is found then, and what the index, the write set and the count of own pages keep
use Rattle.std.proofs.Common.{◌≡◌, ℕ, zero, suc, ◌+◌, ◌<◌, ◌≤◌, ◌⊎◌, inl, inr, Bool, true, false, cond, ◌&&◌, not, List, [], ◌∷◌, length, get_or, Option, Some, None, refl, sym, ◌∙◌, ap, arith}
use Rattle.std.specs.Prelude.{slice_get, option_map, option_and_then, count_by}
use Rattle.std.specs.Option.{option_map_or}
use Rattle.std.proofs.Math.ListN.{set}
use Rattle.std.proofs.lemmas.Bool.{cases_eq}
use Rattle.std.proofs.lemmas.List.Sums.{sum_by-cons}
use Rattle.std.proofs.lemmas.List.Elements.{All-set}
use Rattle.std.proofs.lemmas.Option.{slice_get_within}
use Rattle.paged_image.specs.Owner.{page_bytes, is_own}
use Rattle.paged_image.specs.WriteSet.{has}
use Rattle.paged_image.specs.Pages.{entry_at, bytes_at, own_at, Finds, OwnIsWritten, own_count}
use Rattle.paged_image.specs.Changes.{Grows}
use Rattle.paged_image.specs.declared.entry.Entry.{Entry}
use Rattle.paged_image.proofs.OnPages.{Replaces}

slice_get-set_same : (es : List Entry) (k : ℕ) (y : Entry) → k < length es → slice_get (set es k y) k ≡ Some y
slice_get-set_same [] k y h = absurd (omega arith)
slice_get-set_same (e ∷ es) zero y h = refl
slice_get-set_same (e ∷ es) (suc k) y h = slice_get-set_same es k y (omega arith)

slice_get-set_other : (es : List Entry) (k j : ℕ) (y : Entry) → (j ≡ k → ⊥) → slice_get (set es k y) j ≡ slice_get es j
slice_get-set_other [] k j y h = refl
slice_get-set_other (e ∷ es) zero zero y h = absurd (h refl)
slice_get-set_other (e ∷ es) zero (suc j) y h = refl
slice_get-set_other (e ∷ es) (suc k) zero y h = refl
slice_get-set_other (e ∷ es) (suc k) (suc j) y h = slice_get-set_other es k j y (λ s. h (ap suc s))

-- what the lookup is, from what the index says
pub entry_at-there : (ix : List ℕ) (es : List Entry) (p place : ℕ) → slice_get ix p ≡ Some place → entry_at ix es p ≡ slice_get es place
unfolding entry_at
entry_at-there ix es p place h = ap (λ (o : Option ℕ). option_and_then (λ k. slice_get es k) o) h

pub entry_at-absent : (ix : List ℕ) (es : List Entry) (p : ℕ) → slice_get ix p ≡ None → entry_at ix es p ≡ None
unfolding entry_at
entry_at-absent ix es p h = ap (λ (o : Option ℕ). option_and_then (λ k. slice_get es k) o) h

pub bytes_at-there : (ix : List ℕ) (es : List Entry) (p : ℕ) (e : Entry) → entry_at ix es p ≡ Some e → bytes_at ix es p ≡ Some (page_bytes e.page)
unfolding bytes_at
bytes_at-there ix es p e h = ap (λ (o : Option Entry). option_map (λ (x : Entry). page_bytes x.page) o) h

pub bytes_at-absent : (ix : List ℕ) (es : List Entry) (p : ℕ) → entry_at ix es p ≡ None → bytes_at ix es p ≡ None
unfolding bytes_at
bytes_at-absent ix es p h = ap (λ (o : Option Entry). option_map (λ (x : Entry). page_bytes x.page) o) h

pub own_at-there : (ix : List ℕ) (es : List Entry) (p : ℕ) (e : Entry) → entry_at ix es p ≡ Some e → own_at ix es p ≡ is_own e.page
unfolding own_at
own_at-there ix es p e h = ap (λ (o : Option Entry). option_map_or (λ (x : Entry). is_own x.page) o false) h

pub own_at-absent : (ix : List ℕ) (es : List Entry) (p : ℕ) → entry_at ix es p ≡ None → own_at ix es p ≡ false
unfolding own_at
own_at-absent ix es p h = ap (λ (o : Option Entry). option_map_or (λ (x : Entry). is_own x.page) o false) h

bytes_at-same : (ix : List ℕ) (es fs : List Entry) (p : ℕ) → entry_at ix fs p ≡ entry_at ix es p → bytes_at ix fs p ≡ bytes_at ix es p
unfolding bytes_at
bytes_at-same ix es fs p h = ap (λ (o : Option Entry). option_map (λ (x : Entry). page_bytes x.page) o) h

own_at-same : (ix : List ℕ) (es fs : List Entry) (p : ℕ) → entry_at ix fs p ≡ entry_at ix es p → own_at ix fs p ≡ own_at ix es p
unfolding own_at
own_at-same ix es fs p h = ap (λ (o : Option Entry). option_map_or (λ (x : Entry). is_own x.page) o false) h

-- y in the place of x, the entry of page p
module _ (ix : List ℕ) (es : List Entry) (p place : ℕ) (x y : Entry) (finds : Finds ix es) (there : slice_get ix p ≡ Some place) (at : slice_get es place ≡ Some x) (number : y.number ≡ x.number) where
  found : entry_at ix es p ≡ Some x
  found = entry_at-there ix es p place there ∙ at

  pub entry_at-set_same : entry_at ix (set es place y) p ≡ Some y
  entry_at-set_same = entry_at-there ix (set es place y) p place there ∙ slice_get-set_same es place y (slice_get_within es place x at)

  other_by : (q : ℕ) → (q ≡ p → ⊥) → (o : Option ℕ) → slice_get ix q ≡ o → entry_at ix (set es place y) q ≡ entry_at ix es q
  other_by q ne None h = entry_at-absent ix (set es place y) q h ∙ sym (entry_at-absent ix es q h)
  other_by q ne (Some k) h =
      entry_at-there ix (set es place y) q k h
      ∙ slice_get-set_other es place k y (λ (s : k ≡ place).
      let same : entry_at ix es q ≡ Some x = entry_at-there ix es q k h ∙ ap (λ (j : ℕ). slice_get es j) s ∙ at in
      ne (sym (finds q x same) ∙ finds p x found))
      ∙ sym (entry_at-there ix es q k h)

  pub entry_at-set_other : (q : ℕ) → (q ≡ p → ⊥) → entry_at ix (set es place y) q ≡ entry_at ix es q
  entry_at-set_other q ne = other_by q ne (slice_get ix q) refl

  pub finds-set : Finds ix (set es place y)
  finds-set q e h = elim (cases_eq q p) [
    | inl same ↦
        let here : entry_at ix (set es place y) p ≡ Some e = ap (λ (r : ℕ). entry_at ix (set es place y) r) (sym same) ∙ h in
        let is : e ≡ y = cc (entry_at-set_same) in
        ap (λ (z : Entry). z.number) is ∙ number ∙ finds p x found ∙ sym same
    | inr other ↦ finds q e (sym (entry_at-set_other q other) ∙ h)
  ]

  pub replaces-set : (bytes : List ℕ) → page_bytes y.page ≡ bytes → Replaces (bytes_at ix es) (bytes_at ix (set es place y)) p bytes
  replaces-set bytes h = record {
    there = bytes_at-there ix (set es place y) p y entry_at-set_same ∙ ap Some h;
    elsewhere = λ q ne. bytes_at-same ix es (set es place y) q (entry_at-set_other q ne);
  }

  pub bytes_at-set : page_bytes y.page ≡ page_bytes x.page → (q : ℕ) → bytes_at ix (set es place y) q ≡ bytes_at ix es q
  bytes_at-set h q = elim (cases_eq q p) [
    | inl same ↦
        ap (bytes_at ix (set es place y)) same ∙ bytes_at-there ix (set es place y) p y entry_at-set_same ∙ ap Some h
        ∙ sym (bytes_at-there ix es p x found) ∙ ap (bytes_at ix es) (sym same)
    | inr other ↦ bytes_at-same ix es (set es place y) q (entry_at-set_other q other)
  ]

  pub own_at-set_same : own_at ix (set es place y) p ≡ is_own y.page
  own_at-set_same = own_at-there ix (set es place y) p y entry_at-set_same

  pub own_at-set_other : (q : ℕ) → (q ≡ p → ⊥) → own_at ix (set es place y) q ≡ own_at ix es q
  own_at-set_other q ne = own_at-same ix es (set es place y) q (entry_at-set_other q ne)

-- ---- own pages are in the write set

pub own_written-set : (es : List Entry) (ws : List ℕ) (place : ℕ) (y : Entry) → OwnIsWritten es ws → (is_own y.page ≡ true → has ws y.number ≡ true) → OwnIsWritten (set es place y) ws
own_written-set es ws place y h own = All-set (λ (e : Entry). is_own e.page ≡ true → has ws e.number ≡ true) es place y own h

pub own_written-more : (es : List Entry) (ws vs : List ℕ) → OwnIsWritten es ws → ((q : ℕ) → has ws q ≡ true → has vs q ≡ true) → OwnIsWritten es vs
own_written-more es ws vs h more k d l own = more (get_or es k d).number (h k d l own)

-- ---- the count of own pages

pub grows-same : (may : ℕ → Bool) (xs : List Entry) → Grows may xs xs
grows-same may [] = tt
grows-same may (x ∷ xs) = (refl, λ h. inl h, grows-same may xs)

pub grows-set : (may : ℕ → Bool) (xs : List Entry) (place : ℕ) (x y : Entry) → slice_get xs place ≡ Some x → y.number ≡ x.number → (is_own y.page ≡ true → (is_own x.page ≡ true) ⊎ (may x.number ≡ true)) → Grows may xs (set xs place y)
grows-set may [] place x y at n own = tt
grows-set may (e ∷ xs) zero x y at n own =
    let is : e ≡ x = cc in
    (n ∙ ap (λ (z : Entry). z.number) (sym is), λ h. elim (own h) [ inl o ↦ inl (ap (λ (z : Entry). is_own z.page) is ∙ o) | inr m ↦ inr (ap (λ (z : Entry). may z.number) is ∙ m) ], grows-same may xs)
grows-set may (e ∷ xs) (suc k) x y at n own = (refl, λ h. inl h, grows-set may xs k x y at n own)

pub grows-trans : (may : ℕ → Bool) (xs ys zs : List Entry) → Grows may xs ys → Grows may ys zs → Grows may xs zs
grows-trans may [] [] [] g h = tt
grows-trans may [] [] (z ∷ zs) g h = h
grows-trans may [] (y ∷ ys) zs g h = absurd g
grows-trans may (x ∷ xs) [] zs g h = absurd g
grows-trans may (x ∷ xs) (y ∷ ys) [] g h = h
grows-trans may (x ∷ xs) (y ∷ ys) (z ∷ zs) g h = (
  h.0 ∙ g.0,
  λ own. elim (h.1 own) [ inl o ↦ g.1 o | inr m ↦ inr (ap may (sym g.0) ∙ m) ],
  grows-trans may xs ys zs g.2 h.2,
)

pub grows-more : (may might : ℕ → Bool) (xs ys : List Entry) → ((p : ℕ) → may p ≡ true → might p ≡ true) → Grows may xs ys → Grows might xs ys
grows-more may might [] [] h g = tt
grows-more may might [] (y ∷ ys) h g = g
grows-more may might (x ∷ xs) [] h g = g
grows-more may might (x ∷ xs) (y ∷ ys) h g =
    (g.0, λ own. elim (g.1 own) [ inl o ↦ inl o | inr m ↦ inr (h x.number m) ], grows-more may might xs ys h g.2)

one : Bool → ℕ
one b = cond b 1 0

one_more : (new old may : Bool) → (new ≡ true → (old ≡ true) ⊎ (may ≡ true)) → one new ≤ one old + one (not old && may)
unfolding one
one_more false old may h = omega arith
one_more true true may h = omega arith
one_more true false true h = omega arith
one_more true false false h = elim (h refl) [ inl e ↦ absurd (cc) | inr e ↦ absurd (cc) ]

-- at most the shared ones that pass the test became own
pub own_count-grows : (may : ℕ → Bool) (xs ys : List Entry) → Grows may xs ys → own_count ys ≤ own_count xs + count_by (λ e. not (is_own e.page) && may e.number) xs
unfolding one
own_count-grows may [] [] g = omega arith
own_count-grows may [] (y ∷ ys) g = absurd g
own_count-grows may (x ∷ xs) [] g = absurd g
own_count-grows may (x ∷ xs) (y ∷ ys) g =
    omega (
      arith,
      sum_by-cons (λ (e : Entry). one (is_own e.page)) y ys,
      sum_by-cons (λ (e : Entry). one (is_own e.page)) x xs,
      sum_by-cons (λ (e : Entry). one (not (is_own e.page) && may e.number)) x xs,
      one_more (is_own y.page) (is_own x.page) (may x.number) g.1,
      own_count-grows may xs ys g.2,
    )
