-- An image and the image that a step of a store leaves
use Rattle.std.proofs.Common.{◌≡◌, ℕ, ◌+◌, ◌/◌, ◌%◌, ◌<◌, ◌≤◌, ◌⊎◌, inl, inr, Bool, true, false, ◌==◌, ◌||◌, List, length, get_or, Option, Some, None, refl, sym, ◌∙◌, ap, subst, arith}
use Rattle.std.specs.Prelude.{slice_get, slice_range, option_map, option_and_then}
use Rattle.std.specs.Option.{option_map_or}
use Rattle.std.proofs.Math.ListN.{set}
use Rattle.std.proofs.lemmas.List.{length-replicate}
use Rattle.std.proofs.lemmas.Bool.{cases_eq, eqb-true, false≢true}
use Rattle.std.proofs.lemmas.Bool.Decides.{nat_tests}
use Rattle.std.proofs.lemmas.Option.{slice_get_within, get_or_from_slice_get, slice_get_read, none-some, same_Some}
use Rattle.guest_model.specs.ByteMap.{bytes_from, write}
use Rattle.guest_model.specs.Place.{IsPiece}
use Rattle.guest_model.proofs.OnByteMap.{length-bytes_from}
use Rattle.paged_image.specs.Owner.{page_bytes, is_own, overwritten}
use Rattle.paged_image.specs.WriteSet.{has}
use Rattle.paged_image.specs.Pages.{entry_at, bytes_at, own_at, paged, OwnIsWritten}
use Rattle.paged_image.specs.Image.{content}
use Rattle.paged_image.specs.Changes.{Grows, page_of, owns, Advances}
use Rattle.paged_image.specs.declared.owner.Owner.{Owner}
use Rattle.paged_image.specs.declared.owner.Owner.TheVariants.{Own, Shared, Blank}
use Rattle.paged_image.specs.declared.entry.Entry.{Entry}
use Rattle.paged_image.specs.declared.image.PagedImage.{PagedImage}
use Rattle.paged_image.proofs.OnPages.{IsTable, Replaces, paged-same, mapped-page, bytes_from-page, write-page}
use Rattle.paged_image.proofs.OnEntries.{own_written-set, own_written-more, entry_at-there, bytes_at-there, bytes_at-absent, own_at-there, own_at-absent, replaces-set, own_at-set_same, own_at-set_other, grows-same, grows-set, grows-trans, grows-more}

pub length-page_bytes : (o : Owner) → length (page_bytes o) ≡ 4096
length-page_bytes (Own page) = page.value.whole
length-page_bytes (Shared page) = page.value.value.whole
length-page_bytes Blank = length-replicate {A = ℕ} 4096 0

-- an unmapped page has no bytes; a mapped one has those of its entry
bytes_at-some : (ix : List ℕ) (es : List Entry) (p : ℕ) (bytes : List ℕ) → bytes_at ix es p ≡ Some bytes → (place : ℕ) × (e : Entry) × (slice_get ix p ≡ Some place) × (slice_get es place ≡ Some e) × (page_bytes e.page ≡ bytes)
unfolding bytes_at entry_at
bytes_at-some ix es p bytes h = by_place (slice_get ix p) refl
  where
    by_entry : (place : ℕ) → slice_get ix p ≡ Some place → (o : Option Entry) → slice_get es place ≡ o → (place : ℕ) × (e : Entry) × (slice_get ix p ≡ Some place) × (slice_get es place ≡ Some e) × (page_bytes e.page ≡ bytes)
    by_entry place at None e = absurd (none-some bytes (sym (ap (λ (o : Option ℕ). option_map (λ (x : Entry). page_bytes x.page) (option_and_then (λ k. slice_get es k) o)) at ∙ ap (λ (o : Option Entry). option_map (λ (x : Entry). page_bytes x.page) o) e) ∙ h))
    by_entry place at (Some x) e = (place, x, at, e, same_Some (page_bytes x.page) bytes (sym (ap (λ (o : Option ℕ). option_map (λ (x : Entry). page_bytes x.page) (option_and_then (λ k. slice_get es k) o)) at ∙ ap (λ (o : Option Entry). option_map (λ (x : Entry). page_bytes x.page) o) e) ∙ h))

    by_place : (o : Option ℕ) → slice_get ix p ≡ o → (place : ℕ) × (e : Entry) × (slice_get ix p ≡ Some place) × (slice_get es place ≡ Some e) × (page_bytes e.page ≡ bytes)
    by_place None at = absurd (none-some bytes (sym (ap (λ (o : Option ℕ). option_map (λ (x : Entry). page_bytes x.page) (option_and_then (λ k. slice_get es k) o)) at) ∙ h))
    by_place (Some place) at = by_entry place at (slice_get es place) refl

pub table_of : (t : PagedImage) → IsTable (page_of t)
table_of t = record {
  whole = λ p bytes h. let at = bytes_at-some t.index.value.items t.entries.items p bytes h in ap length (sym at.4) ∙ length-page_bytes at.1.page;
  below = λ p bytes h. let at = bytes_at-some t.index.value.items t.entries.items p bytes h in let l : p < length t.index.value.items = slice_get_within t.index.value.items p at.0 at.2 in omega (arith, t.table);
}

pub content-paged : (t : PagedImage) → content t ≡ paged (page_of t)
unfolding content
content-paged t = refl

pub content-same : (s t : PagedImage) → ((p : ℕ) → page_of t p ≡ page_of s p) → content t ≡ content s
unfolding content
content-same s t h = paged-same (page_of s) (page_of t) h

-- a piece of a page
pub piece-page : (t : PagedImage) (a n : ℕ) (e : Entry) → entry_at t.index.value.items t.entries.items (a / 4096) ≡ Some e → a % 4096 + n ≤ 4096
    → IsPiece (content t) a n (slice_range (page_bytes e.page) (a % 4096) (a % 4096 + n))
unfolding content
piece-page t a n e h fits =
    let there : page_of t (a / 4096) ≡ Some (page_bytes e.page) = bytes_at-there t.index.value.items t.entries.items (a / 4096) e h in
    let bytes : bytes_from (paged (page_of t)) a n ≡ slice_range (page_bytes e.page) (a % 4096) (a % 4096 + n) = bytes_from-page (page_of t) (table_of t) a n (page_bytes e.page) there fits in
    record {
      count = ap length (sym bytes) ∙ length-bytes_from (paged (page_of t)) a n;
      mapped = mapped-page (page_of t) (table_of t) a n (page_bytes e.page) there fits;
      bytes = bytes;
    }

-- ---- steps of a store

pub or_left : (a b : Bool) → a ≡ true → (a || b) ≡ true
or_left true b h = refl
or_left false b h = absurd (cc)

pub or_right : (a b : Bool) → b ≡ true → (a || b) ≡ true
or_right true b h = refl
or_right false true h = refl
or_right false false h = absurd (cc)

or_cases : (a b : Bool) → (a || b) ≡ true → (a ≡ true) ⊎ (b ≡ true)
or_cases true b h = inl refl
or_cases false b h = inr h

eqb-same : (a b : ℕ) → a ≡ b → (a == b) ≡ true
eqb-same a b e = grind (arith, nat_tests)

pub advances-same : (may : ℕ → Bool) (s : PagedImage) → Advances may s s
advances-same may s = record {
  grows = grows-same may s.entries.items;
  owns = λ p h. h;
  marked = λ p h. h;
  marks = λ p h. or_left (has s.written p) (may p) h;
}

pub advances-trans : (may : ℕ → Bool) (s t u : PagedImage) → Advances may s t → Advances may t u → Advances may s u
advances-trans may s t u f g = record {
  grows = grows-trans may s.entries.items t.entries.items u.entries.items f.grows g.grows;
  owns = λ p h. g.owns p (f.owns p h);
  marked = λ p h. g.marked p (f.marked p h);
  marks = λ p h. elim (or_cases (has t.written p) (may p) (g.marks p h)) [ inl e ↦ f.marks p e | inr e ↦ or_right (has s.written p) (may p) e ];
}

pub advances-more : (may might : ℕ → Bool) (s t : PagedImage) → ((p : ℕ) → may p ≡ true → might p ≡ true) → Advances may s t → Advances might s t
advances-more may might s t h f = record {
  grows = grows-more may might s.entries.items t.entries.items h f.grows;
  owns = f.owns;
  marked = f.marked;
  marks = λ p m. elim (or_cases (has s.written p) (may p) (f.marks p m)) [ inl e ↦ or_left (has s.written p) (might p) e | inr e ↦ or_right (has s.written p) (might p) (h p e) ];
}

pub owns-at : (s : PagedImage) (p place : ℕ) (x : Entry) → slice_get s.index.value.items p ≡ Some place → slice_get s.entries.items place ≡ Some x → owns s p ≡ is_own x.page
owns-at s p place x there at = own_at-there s.index.value.items s.entries.items p x (entry_at-there s.index.value.items s.entries.items p place there ∙ at)

-- y stands in t where x, the entry of page p, stood in s
module _ (s t : PagedImage) (p place : ℕ) (x y : Entry) (there : slice_get s.index.value.items p ≡ Some place) (at : slice_get s.entries.items place ≡ Some x) (number : y.number ≡ x.number)
    (index : t.index.value.items ≡ s.index.value.items) (entries : t.entries.items ≡ set s.entries.items place y) where
  page_of-is : (q : ℕ) → page_of t q ≡ bytes_at s.index.value.items (set s.entries.items place y) q
  page_of-is q = ap (λ (ix : List ℕ). bytes_at ix t.entries.items q) index ∙ ap (λ (es : List Entry). bytes_at s.index.value.items es q) entries

  owns-is : (q : ℕ) → owns t q ≡ own_at s.index.value.items (set s.entries.items place y) q
  owns-is q = ap (λ (ix : List ℕ). own_at ix t.entries.items q) index ∙ ap (λ (es : List Entry). own_at s.index.value.items es q) entries

  pub content-put : (a : ℕ) (from : List ℕ) → a / 4096 ≡ p → a % 4096 + length from ≤ 4096 → page_bytes y.page ≡ overwritten (page_bytes x.page) (a % 4096) from → content t ≡ write (content s) a from
  unfolding content
  content-put a from on_page fits h =
      let r : Replaces (page_of s) (bytes_at s.index.value.items (set s.entries.items place y)) p (overwritten (page_bytes x.page) (a % 4096) from) =
      replaces-set s.index.value.items s.entries.items p place x y s.finds there at number (overwritten (page_bytes x.page) (a % 4096) from) h in
      let was : page_of s p ≡ Some (page_bytes x.page) = bytes_at-there s.index.value.items s.entries.items p x (entry_at-there s.index.value.items s.entries.items p place there ∙ at) in
      write-page (page_of s) (page_of t) a from (page_bytes x.page) (table_of s) (ap (page_of s) on_page ∙ was) fits (record {
        there = page_of-is (a / 4096) ∙ ap (bytes_at s.index.value.items (set s.entries.items place y)) on_page ∙ r.there;
        elsewhere = λ q ne. page_of-is q ∙ r.elsewhere q (λ e. ne (e ∙ sym on_page));
      })

  owns-here : owns t p ≡ is_own y.page
  owns-here = owns-is p ∙ own_at-set_same s.index.value.items s.entries.items p place x y s.finds there at number

  owns-kept : (is_own x.page ≡ true → is_own y.page ≡ true) → (q : ℕ) → owns s q ≡ true → owns t q ≡ true
  owns-kept h q own = elim (cases_eq q p) [
    | inl same ↦ ap (owns t) same ∙ owns-here ∙ h (sym (owns-at s p place x there at) ∙ ap (owns s) (sym same) ∙ own)
    | inr other ↦ owns-is q ∙ own_at-set_other s.index.value.items s.entries.items p place x y s.finds there at number q other ∙ own
  ]

  -- written in place
  pub advances-put : is_own y.page ≡ is_own x.page → t.written ≡ s.written → Advances (λ _. false) s t
  advances-put own ws = record {
    grows = subst (Grows (λ _. false) s.entries.items) (sym entries) (grows-set (λ _. false) s.entries.items place x y at number (λ h. inl (sym own ∙ h)));
    owns = owns-kept (λ h. own ∙ h);
    marked = λ q h. ap (λ (w : List ℕ). has w q) ws ∙ h;
    marks = λ q h. or_left (has s.written q) false (ap (λ (w : List ℕ). has w q) (sym ws) ∙ h);
  }

  -- perhaps made own, and in the write set
  pub advances-own : ((q : ℕ) → has t.written q ≡ (has s.written q || (p == q))) → (is_own x.page ≡ true → is_own y.page ≡ true) → Advances (λ q. q == p) s t
  advances-own ws own = record {
    grows = subst (Grows (λ q. q == p) s.entries.items) (sym entries) (grows-set (λ q. q == p) s.entries.items place x y at number (λ h. inr (eqb-same x.number p (s.finds p x (entry_at-there s.index.value.items s.entries.items p place there ∙ at)))));
    owns = owns-kept own;
    marked = λ q h. ws q ∙ or_left (has s.written q) (p == q) h;
    marks = λ q h. elim (or_cases (has s.written q) (p == q) (sym (ws q) ∙ h)) [ inl e ↦ or_left (has s.written q) (q == p) e | inr e ↦ or_right (has s.written q) (q == p) (eqb-same q p (sym (eqb-true p q e))) ];
  }

pub own_at-some : (ix : List ℕ) (es : List Entry) (p : ℕ) → own_at ix es p ≡ true → (place : ℕ) × (e : Entry) × (slice_get ix p ≡ Some place) × (slice_get es place ≡ Some e) × (is_own e.page ≡ true)
unfolding own_at entry_at
own_at-some ix es p h = by_place (slice_get ix p) refl
  where
    by_entry : (place : ℕ) → slice_get ix p ≡ Some place → (o : Option Entry) → slice_get es place ≡ o → (place : ℕ) × (e : Entry) × (slice_get ix p ≡ Some place) × (slice_get es place ≡ Some e) × (is_own e.page ≡ true)
    by_entry place at None e = absurd (false≢true (sym (ap (λ (o : Option ℕ). option_map_or (λ (x : Entry). is_own x.page) (option_and_then (λ k. slice_get es k) o) false) at ∙ ap (λ (o : Option Entry). option_map_or (λ (x : Entry). is_own x.page) o false) e) ∙ h))
    by_entry place at (Some x) e = (place, x, at, e, sym (ap (λ (o : Option ℕ). option_map_or (λ (x : Entry). is_own x.page) (option_and_then (λ k. slice_get es k) o) false) at ∙ ap (λ (o : Option Entry). option_map_or (λ (x : Entry). is_own x.page) o false) e) ∙ h)

    by_place : (o : Option ℕ) → slice_get ix p ≡ o → (place : ℕ) × (e : Entry) × (slice_get ix p ≡ Some place) × (slice_get es place ≡ Some e) × (is_own e.page ≡ true)
    by_place None at = absurd (false≢true (sym (ap (λ (o : Option ℕ). option_map_or (λ (x : Entry). is_own x.page) (option_and_then (λ k. slice_get es k) o) false) at) ∙ h))
    by_place (Some place) at = by_entry place at (slice_get es place) refl

-- the write set has the own pages
pub owns-written : (t : PagedImage) (p : ℕ) → owns t p ≡ true → has t.written p ≡ true
owns-written t p h =
    let at = own_at-some t.index.value.items t.entries.items p h in
    let number : at.1.number ≡ p = t.finds p at.1 (entry_at-there t.index.value.items t.entries.items p at.0 at.2 ∙ at.3) in
    let is : get_or t.entries.items at.0 at.1 ≡ at.1 = get_or_from_slice_get t.entries.items at.0 at.1 at.1 at.3 in
    let marked : has t.written (get_or t.entries.items at.0 at.1).number ≡ true =
    t.own_written at.0 at.1 (slice_get_within t.entries.items at.0 at.1 at.3) (ap (λ (e : Entry). is_own e.page) is ∙ at.4) in
    ap (has t.written) (sym number ∙ ap (λ (e : Entry). e.number) (sym is)) ∙ marked

-- an unmapped page is not own
pub owns-absent : (t : PagedImage) (p : ℕ) → entry_at t.index.value.items t.entries.items p ≡ None → owns t p ≡ false
owns-absent t p h = own_at-absent t.index.value.items t.entries.items p h

pub page_of-absent : (t : PagedImage) (p : ℕ) → entry_at t.index.value.items t.entries.items p ≡ None → page_of t p ≡ None
page_of-absent t p h = bytes_at-absent t.index.value.items t.entries.items p h

-- what is found by the index and read from the entries
pub read_entry : (es : List Entry) (place : ℕ) (x : Entry) → place < length es → x ≡ get_or es place x → slice_get es place ≡ Some x
read_entry es place x l h = slice_get_read es (length es) place x refl l h

pub own_written-put : (t : PagedImage) (place : ℕ) (x y : Entry) → slice_get t.entries.items place ≡ Some x → y.number ≡ x.number → is_own y.page ≡ is_own x.page → OwnIsWritten (set t.entries.items place y) t.written
own_written-put t place x y at number own = own_written-set t.entries.items t.written place y t.own_written (λ h.
    let l : place < length t.entries.items = slice_get_within t.entries.items place x at in
    let is : get_or t.entries.items place x ≡ x = get_or_from_slice_get t.entries.items place x x at in
    let was : is_own (get_or t.entries.items place x).page ≡ true = ap (λ (e : Entry). is_own e.page) is ∙ sym own ∙ h in
    let marked : has t.written (get_or t.entries.items place x).number ≡ true = t.own_written place x l was in
    ap (has t.written) (number ∙ ap (λ (e : Entry). e.number) (sym is)) ∙ marked)

pub read_same : (es : List Entry) (place : ℕ) (x y : Entry) → place < length es → x ≡ get_or es place x → y ≡ get_or es place y → x ≡ y
read_same es place x y l h k = same_Some x y (sym (read_entry es place x l h) ∙ read_entry es place y l k)

-- an entry that may have become own, its page being in the write set
pub own_written-own : (t : PagedImage) (ws : List ℕ) (p place : ℕ) (x y : Entry) → slice_get t.index.value.items p ≡ Some place → slice_get t.entries.items place ≡ Some x → y.number ≡ x.number
    → ((q : ℕ) → has ws q ≡ (has t.written q || (p == q))) → OwnIsWritten (set t.entries.items place y) ws
own_written-own t ws p place x y there at number more =
    own_written-set t.entries.items ws place y (own_written-more t.entries.items t.written ws t.own_written (λ q h. more q ∙ or_left (has t.written q) (p == q) h)) (λ _.
    let is : p ≡ y.number = sym (number ∙ t.finds p x (entry_at-there t.index.value.items t.entries.items p place there ∙ at)) in
    more y.number ∙ or_right (has t.written y.number) (p == y.number) (eqb-same p y.number is))

-- the same pages, and the same write set
pub advances-equal : (may : ℕ → Bool) (s t : PagedImage) → t.index.value.items ≡ s.index.value.items → t.entries.items ≡ s.entries.items → t.written ≡ s.written → Advances may s t
advances-equal may s t ix es ws = record {
  grows = subst (Grows may s.entries.items) (sym es) (grows-same may s.entries.items);
  owns = λ p h. ap (λ (i : List ℕ). own_at i t.entries.items p) ix ∙ ap (λ (e : List Entry). own_at s.index.value.items e p) es ∙ h;
  marked = λ p h. ap (λ (w : List ℕ). has w p) ws ∙ h;
  marks = λ p h. or_left (has s.written p) (may p) (ap (λ (w : List ℕ). has w p) (sym ws) ∙ h);
}
