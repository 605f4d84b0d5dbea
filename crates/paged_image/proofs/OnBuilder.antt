-- Pages that are added to an image that is being made
use Rattle.std.proofs.Common.{◌≡◌, ℕ, zero, suc, ◌+◌, ◌-◌, ◌*◌, ◌/◌, ◌%◌, ◌<◌, ◌≤◌, inl, inr, false, List, [], ◌∷◌, ◌++◌, length, get_or, take, Option, Some, None, refl, sym, ◌∙◌, ap, arith}
use Rattle.std.specs.Prelude.{slice_get, slice_index, option_map, option_and_then, AllPairs}
use Rattle.std.specs.Option.{option_or}
use Rattle.std.specs.List.{find}
use Rattle.std.proofs.Math.ListN.{set}
use Rattle.std.proofs.Math.Path.{fun_ext}
use Rattle.std.proofs.lemmas.Bool.{cases_eq, cases_lt, cond-false}
use Rattle.std.proofs.lemmas.List.{get_or-take, get_or_push, length_push, length-take-le}
use Rattle.std.proofs.lemmas.List.Folds.{find-append}
use Rattle.std.proofs.lemmas.Option.{slice_get_past, same_Some, none-some}
use Rattle.guest_model.specs.ByteMap.{write}
use Rattle.guest_model.specs.AreaMap.{covers, areas_bytes, IsBelow}
use Rattle.guest_model.specs.declared.areas.Area.{Area}
use Rattle.guest_model.proofs.OnByteMap.{write-is}
use Rattle.guest_model.proofs.OnAreas.{areas_bytes-at, covers-before, covers-after}
use Rattle.paged_image.specs.Owner.{page_bytes}
use Rattle.paged_image.specs.Pages.{entry_at, bytes_at, paged, Finds}
use Rattle.paged_image.specs.declared.entry.Entry.{Entry}
use Rattle.paged_image.proofs.OnPages.{Replaces, paged-at, paged-none, same_page}
use Rattle.paged_image.proofs.OnEntries.{entry_at-there, entry_at-absent, bytes_at-there, bytes_at-absent}

pub entry_at-nil : (ix : List ℕ) (es : List Entry) (p : ℕ) → es ≡ [] → entry_at ix es p ≡ None
unfolding entry_at
entry_at-nil ix es p h = ap (λ (xs : List Entry). entry_at ix xs p) h ∙ by_place (slice_get ix p)
  where
    by_place : (o : Option ℕ) → option_and_then (λ k. slice_get {X = Entry} [] k) o ≡ None
    by_place None = refl
    by_place (Some k) = refl

pub finds-nil : (ix : List ℕ) (es : List Entry) → es ≡ [] → Finds ix es
finds-nil ix es h p e there = absurd (none-some e (sym (entry_at-nil ix es p h) ∙ there))

pub paged-nil : (ix : List ℕ) (es : List Entry) → es ≡ [] → paged (bytes_at ix es) ≡ areas_bytes []
paged-nil ix es h = fun_ext (λ q. paged-none (bytes_at ix es) q (q / 4096) (bytes_at-absent ix es (q / 4096) (entry_at-nil ix es (q / 4096) h)) refl)

-- a whole page written
pub write-whole : (pages others : ℕ → Option (List ℕ)) (p : ℕ) (bytes : List ℕ) → length bytes ≡ 4096 → Replaces pages others p bytes → paged others ≡ write (paged pages) (p * 4096) bytes
write-whole pages others p bytes whole r = write-is (paged pages) (paged others) (p * 4096) bytes
    (λ q h. let other : q / 4096 ≡ p → ⊥ = λ e. elim h [ inl l ↦ omega arith | inr l ↦ omega arith ] in same_page pages others q (r.elsewhere (q / 4096) other))
    (λ q l h.
    let page : q / 4096 ≡ p = omega arith in
    let offset : q % 4096 ≡ q - p * 4096 = omega arith in
    paged-at others q p bytes r.there page ∙ ap (λ (i : ℕ). Some (slice_index bytes i)) offset)

slice_get-set_at : (xs : List ℕ) (i x : ℕ) → i < length xs → slice_get (set xs i x) i ≡ Some x
slice_get-set_at [] i x h = absurd (omega arith)
slice_get-set_at (y ∷ xs) zero x h = refl
slice_get-set_at (y ∷ xs) (suc i) x h = slice_get-set_at xs i x (omega arith)

slice_get-set_apart : (xs : List ℕ) (i j x : ℕ) → (j ≡ i → ⊥) → slice_get (set xs i x) j ≡ slice_get xs j
slice_get-set_apart [] i j x h = refl
slice_get-set_apart (y ∷ xs) zero zero x h = absurd (h refl)
slice_get-set_apart (y ∷ xs) zero (suc j) x h = refl
slice_get-set_apart (y ∷ xs) (suc i) zero x h = refl
slice_get-set_apart (y ∷ xs) (suc i) (suc j) x h = slice_get-set_apart xs i j x (λ s. h (ap suc s))

slice_get-push_below : (xs : List Entry) (y : Entry) (k : ℕ) → k < length xs → slice_get (xs ++ y ∷ []) k ≡ slice_get xs k
slice_get-push_below [] y k h = absurd (omega arith)
slice_get-push_below (x ∷ xs) y zero h = refl
slice_get-push_below (x ∷ xs) y (suc k) h = slice_get-push_below xs y k (omega arith)

slice_get-push_end : (xs : List Entry) (y : Entry) → slice_get (xs ++ y ∷ []) (length xs) ≡ Some y
slice_get-push_end [] y = refl
slice_get-push_end (x ∷ xs) y = slice_get-push_end xs y

bytes_at-like : (ix : List ℕ) (es : List Entry) (jx : List ℕ) (fs : List Entry) (p : ℕ) → entry_at jx fs p ≡ entry_at ix es p → bytes_at jx fs p ≡ bytes_at ix es p
unfolding bytes_at
bytes_at-like ix es jx fs p h = ap (λ (o : Option Entry). option_map (λ (x : Entry). page_bytes x.page) o) h

-- an entry added at the end, for page p
module _ (ix : List ℕ) (es : List Entry) (p : ℕ) (y : Entry) (table : length ix ≤ 1048576) (below : p < length ix) (few : length es ≤ p)
    (places : (q place : ℕ) → slice_get ix q ≡ Some place → length es ≤ place → place ≡ 4294967295) where
  entry_at-push_same : entry_at (set ix p (length es)) (es ++ y ∷ []) p ≡ Some y
  entry_at-push_same = entry_at-there (set ix p (length es)) (es ++ y ∷ []) p (length es) (slice_get-set_at ix p (length es) (omega arith)) ∙ slice_get-push_end es y

  other_by : (q : ℕ) → (q ≡ p → ⊥) → (o : Option ℕ) → slice_get ix q ≡ o → entry_at (set ix p (length es)) (es ++ y ∷ []) q ≡ entry_at ix es q
  other_by q ne None h =
      entry_at-absent (set ix p (length es)) (es ++ y ∷ []) q (slice_get-set_apart ix p q (length es) ne ∙ h) ∙ sym (entry_at-absent ix es q h)
  other_by q ne (Some k) h =
      entry_at-there (set ix p (length es)) (es ++ y ∷ []) q k (slice_get-set_apart ix p q (length es) ne ∙ h)
      ∙ elim (cases_lt k (length es)) [
        | inl l ↦ slice_get-push_below es y k l
        | inr l ↦
            let n : length (es ++ y ∷ []) ≡ length es + 1 = length_push es y in
            let past : k ≡ 4294967295 = places q k h l in
            slice_get_past (es ++ y ∷ []) k (omega arith) ∙ sym (slice_get_past es k l)
      ]
      ∙ sym (entry_at-there ix es q k h)

  entry_at-push_other : (q : ℕ) → (q ≡ p → ⊥) → entry_at (set ix p (length es)) (es ++ y ∷ []) q ≡ entry_at ix es q
  entry_at-push_other q ne = other_by q ne (slice_get ix q) refl

  pub finds-push : Finds ix es → y.number ≡ p → Finds (set ix p (length es)) (es ++ y ∷ [])
  finds-push finds number q e there = elim (cases_eq q p) [
    | inl same ↦
        let here : entry_at (set ix p (length es)) (es ++ y ∷ []) p ≡ Some e = ap (entry_at (set ix p (length es)) (es ++ y ∷ [])) (sym same) ∙ there in
        ap (λ (x : Entry). x.number) (same_Some e y (sym here ∙ entry_at-push_same)) ∙ number ∙ sym same
    | inr other ↦ finds q e (sym (entry_at-push_other q other) ∙ there)
  ]

  pub places-push : (q place : ℕ) → slice_get (set ix p (length es)) q ≡ Some place → length (es ++ y ∷ []) ≤ place → place ≡ 4294967295
  places-push q place h l = elim (cases_eq q p) [
    | inl same ↦
        let is : length es ≡ place = same_Some (length es) place (sym (slice_get-set_at ix p (length es) (omega arith)) ∙ ap (slice_get (set ix p (length es))) (sym same) ∙ h) in
        let n : length (es ++ y ∷ []) ≡ length es + 1 = length_push es y in
        absurd (omega arith)
    | inr other ↦
        let n : length (es ++ y ∷ []) ≡ length es + 1 = length_push es y in
        places q place (sym (slice_get-set_apart ix p q (length es) other) ∙ h) (omega arith)
  ]

  pub replaces-push : (bytes : List ℕ) → page_bytes y.page ≡ bytes → Replaces (bytes_at ix es) (bytes_at (set ix p (length es)) (es ++ y ∷ [])) p bytes
  replaces-push bytes h = record {
    there = bytes_at-there (set ix p (length es)) (es ++ y ∷ []) p y entry_at-push_same ∙ ap Some h;
    elsewhere = λ q ne. bytes_at-like ix es (set ix p (length es)) (es ++ y ∷ []) q (entry_at-push_other q ne);
  }

-- ---- areas

option_or-none : {X : Type 0} (o : Option X) → option_or o None ≡ o
option_or-none None = refl
option_or-none (Some x) = refl

-- an area above all others is a write of its bytes
pub area_push : (xs : List Area) (x : Area) → AllPairs IsBelow (xs ++ x ∷ []) → areas_bytes (xs ++ x ∷ []) ≡ write (areas_bytes xs) x.base x.bytes
area_push xs x rising = write-is (areas_bytes xs) (areas_bytes (xs ++ x ∷ [])) x.base x.bytes
    (λ q h. without q (elim h [ inl l ↦ covers-before x q l | inr l ↦ covers-after x q l ]))
    (λ q l h. let e : get_or (xs ++ x ∷ []) (length xs) x ≡ x = get_or_push xs x x (length xs) refl in
    let n : length (xs ++ x ∷ []) ≡ length xs + 1 = length_push xs x in
    areas_bytes-at (xs ++ x ∷ []) (length xs) q x rising (omega arith) (omega (arith, ap (λ (y : Area). y.base) e, l)) (omega (arith, ap (λ (y : Area). y.base + length y.bytes) e, h))
    ∙ ap (λ (y : Area). Some (slice_index y.bytes (q - y.base))) e)
  where
    without : (q : ℕ) → covers x q ≡ false → areas_bytes (xs ++ x ∷ []) q ≡ areas_bytes xs q
    without q h =
        let none : find (λ y. covers y q) (x ∷ []) ≡ None = cond-false (covers x q) (Some x) None h in
        ap (λ (o : Option Area). option_map (λ (y : Area). slice_index y.bytes (q - y.base)) o)
        (find-append (λ y. covers y q) xs (x ∷ []) ∙ ap (option_or (find (λ y. covers y q) xs)) none ∙ option_or-none (find (λ y. covers y q) xs))

pub rising-take : (xs : List Area) (n : ℕ) → AllPairs IsBelow xs → n ≤ length xs → AllPairs IsBelow (take n xs)
rising-take xs n rising le i j d l r =
    let size : length (take n xs) ≡ n = length-take-le n xs le in
    let at_i : get_or (take n xs) i d ≡ get_or xs i d = get_or-take n xs i d (omega arith) in
    let at_j : get_or (take n xs) j d ≡ get_or xs j d = get_or-take n xs j d (omega arith) in
    let below : IsBelow (get_or xs i d) (get_or xs j d) = rising i j d l (omega arith) in
    omega (arith, ap (λ (y : Area). y.base + length y.bytes) at_i, ap (λ (y : Area). y.base) at_j, below)
