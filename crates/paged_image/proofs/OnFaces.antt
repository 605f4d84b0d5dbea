-- Entries that are shared: their numbers and bytes stay
use Rattle.std.proofs.Common.{◌≡◌, ℕ, zero, suc, ◌+◌, ◌<◌, ◌≤◌, ◌⊎◌, inl, inr, Bool, true, false, cond, List, [], ◌∷◌, ◌++◌, length, map, get_or, take, Option, Some, None, Result, Ok, Err, refl, sym, ◌∙◌, ap, subst, arith}
use Rattle.std.specs.Prelude.{OnErr, slice_get, option_map, option_and_then}
use Rattle.std.proofs.Math.ListN.{set}
use Rattle.std.proofs.lemmas.Bool.{false≢true}
use Rattle.std.proofs.lemmas.List.{map-set, set-get_or, get_or-map, take_more_set, map_push, length-map}
use Rattle.std.proofs.lemmas.List.Elements.{All-push}
use Rattle.std.proofs.lemmas.List.Sums.{sum_by-cons}
use Rattle.std.proofs.lemmas.Option.{slice_get-map, same_Some}
use Rattle.paged_image.specs.Owner.{page_bytes, is_own}
use Rattle.paged_image.specs.WriteSet.{has}
use Rattle.paged_image.specs.Entries.{face, NoneOwn}
use Rattle.paged_image.specs.Pages.{entry_at, bytes_at, paged, Finds, OwnIsWritten, own_count}
use Rattle.paged_image.specs.Changes.{Grows}
use Rattle.paged_image.specs.declared.entry.Entry.{Entry}
use Rattle.paged_image.proofs.OnPages.{paged-same}

bytes_at-face : (ix : List ℕ) (es : List Entry) (p : ℕ) → bytes_at ix es p ≡ option_map (λ (f : ℕ × List ℕ). f.1) (option_and_then (λ k. slice_get (map face es) k) (slice_get ix p))
unfolding bytes_at entry_at
bytes_at-face ix es p = by_place (slice_get ix p)
  where
    by_entry : (o : Option Entry) → option_map (λ (e : Entry). page_bytes e.page) o ≡ option_map (λ (f : ℕ × List ℕ). f.1) (option_map face o)
    by_entry None = refl
    by_entry (Some e) = refl

    by_place : (o : Option ℕ) → option_map (λ (e : Entry). page_bytes e.page) (option_and_then (λ k. slice_get es k) o) ≡ option_map (λ (f : ℕ × List ℕ). f.1) (option_and_then (λ k. slice_get (map face es) k) o)
    by_place None = refl
    by_place (Some k) = by_entry (slice_get es k) ∙ ap (λ (o : Option (ℕ × List ℕ)). option_map (λ (f : ℕ × List ℕ). f.1) o) (sym (slice_get-map face es k))

pub bytes_at-faces : (ix : List ℕ) (es fs : List Entry) → map face fs ≡ map face es → (p : ℕ) → bytes_at ix fs p ≡ bytes_at ix es p
bytes_at-faces ix es fs h p = bytes_at-face ix fs p ∙ ap (λ (xs : List (ℕ × List ℕ)). option_map (λ (f : ℕ × List ℕ). f.1) (option_and_then (λ k. slice_get xs k) (slice_get ix p))) h ∙ sym (bytes_at-face ix es p)

number_at : (ix : List ℕ) (es : List Entry) (p : ℕ) → option_map (λ (e : Entry). e.number) (entry_at ix es p) ≡ option_map (λ (f : ℕ × List ℕ). f.0) (option_and_then (λ k. slice_get (map face es) k) (slice_get ix p))
unfolding entry_at
number_at ix es p = by_place (slice_get ix p)
  where
    by_entry : (o : Option Entry) → option_map (λ (e : Entry). e.number) o ≡ option_map (λ (f : ℕ × List ℕ). f.0) (option_map face o)
    by_entry None = refl
    by_entry (Some e) = refl

    by_place : (o : Option ℕ) → option_map (λ (e : Entry). e.number) (option_and_then (λ k. slice_get es k) o) ≡ option_map (λ (f : ℕ × List ℕ). f.0) (option_and_then (λ k. slice_get (map face es) k) o)
    by_place None = refl
    by_place (Some k) = by_entry (slice_get es k) ∙ ap (λ (o : Option (ℕ × List ℕ)). option_map (λ (f : ℕ × List ℕ). f.0) o) (sym (slice_get-map face es k))

pub finds-faces : (ix : List ℕ) (es fs : List Entry) → map face fs ≡ map face es → Finds ix es → Finds ix fs
finds-faces ix es fs h finds p e there = by_entry (entry_at ix es p) refl
  where
    same : option_map (λ (x : Entry). x.number) (entry_at ix fs p) ≡ option_map (λ (x : Entry). x.number) (entry_at ix es p)
    same = number_at ix fs p ∙ ap (λ (xs : List (ℕ × List ℕ)). option_map (λ (f : ℕ × List ℕ). f.0) (option_and_then (λ k. slice_get xs k) (slice_get ix p))) h ∙ sym (number_at ix es p)

    number : Some e.number ≡ option_map (λ (x : Entry). x.number) (entry_at ix es p)
    number = sym (ap (λ (o : Option Entry). option_map (λ (x : Entry). x.number) o) there) ∙ same

    by_entry : (o : Option Entry) → entry_at ix es p ≡ o → e.number ≡ p
    by_entry None was = absurd (let e' : ◌≡◌ {A = Option ℕ} (Some e.number) None = number ∙ ap (λ (o : Option Entry). option_map (λ (x : Entry). x.number) o) was in cc)
    by_entry (Some x) was = same_Some e.number x.number (number ∙ ap (λ (o : Option Entry). option_map (λ (x : Entry). x.number) o) was) ∙ finds p x was

pub own_written-grows : (es fs : List Entry) (ws : List ℕ) → Grows (λ _. false) es fs → OwnIsWritten es ws → OwnIsWritten fs ws
own_written-grows [] [] ws g h k d l own = absurd (omega arith)
own_written-grows [] (y ∷ ys) ws g h k d l own = absurd g
own_written-grows (x ∷ xs) [] ws g h k d l own = absurd g
own_written-grows (x ∷ xs) (y ∷ ys) ws g h zero d l own =
    elim (g.1 own) [ inl o ↦ ap (has ws) g.0 ∙ h 0 d (omega arith) o | inr f ↦ absurd (false≢true f) ]
own_written-grows (x ∷ xs) (y ∷ ys) ws g h (suc k) d l own = own_written-grows xs ys ws g.2 (λ j c m. h (suc j) c (omega arith)) k d (omega arith) own

pub own_written-none : (es : List Entry) (ws : List ℕ) → NoneOwn es → OwnIsWritten es ws
own_written-none es ws h k d l own = absurd (false≢true (sym (h k d l) ∙ own))

abbrev one : Bool → ℕ
one b = cond b 1 0

pub own_count-none : (es : List Entry) → NoneOwn es → own_count es ≡ 0
own_count-none [] h = refl
own_count-none (e ∷ es) h =
    let first : one (is_own e.page) ≡ 0 = ap one (h 0 e (omega arith)) in
    omega (arith, sum_by-cons (λ (x : Entry). one (is_own x.page)) e es, first, own_count-none es (λ k d l. h (suc k) d (omega arith)))

one-off : (b : Bool) → one b ≡ 0 → b ≡ false
one-off false h = refl
one-off true h = absurd (cc)

-- where no page is counted as own, none is
pub none_own-counted : (es : List Entry) → own_count es ≡ 0 → NoneOwn es
none_own-counted [] z k d l = absurd (omega (arith, l))
none_own-counted (e ∷ es) z zero d l = one-off (is_own e.page) (omega (arith, sum_by-cons (λ (x : Entry). one (is_own x.page)) e es))
none_own-counted (e ∷ es) z (suc k) d l = none_own-counted es (omega (arith, sum_by-cons (λ (x : Entry). one (is_own x.page)) e es)) k d (omega (arith, l))

-- one entry more is shared: y in the place of x, and z in the other image
module _ (es : List Entry) (i : ℕ) (x y z : Entry) (within : i < length es) (at : x ≡ get_or es i x) (same : face y ≡ face x) (other : face z ≡ face x) where
  pub faces-set : map face (set es i y) ≡ map face es
  faces-set =
      map-set face es i y ∙ ap (set (map face es) i) (same ∙ ap face at ∙ sym (get_or-map face es i x (face x) within)) ∙ set-get_or (map face es) i (face x)

  pub faces_more : (os : List Entry) → map face os ≡ map face (take i es) → map face (os ++ z ∷ []) ≡ map face (take (i + 1) (set es i y))
  faces_more os h =
      map_push face os z ∙ ap (λ (xs : List (ℕ × List ℕ)). xs ++ face z ∷ []) h ∙ ap (λ (f : ℕ × List ℕ). map face (take i es) ++ f ∷ []) (other ∙ sym same)
      ∙ sym (map_push face (take i es) y) ∙ ap (map face) (sym (take_more_set es i y within))

  pub none_own_more : NoneOwn (take i es) → is_own y.page ≡ false → NoneOwn (take (i + 1) (set es i y))
  none_own_more h own = subst (λ (xs : List Entry). NoneOwn xs) (sym (take_more_set es i y within)) (All-push (λ (e : Entry). is_own e.page ≡ false) (take i es) y h own)

pub length-faces : (es fs : List Entry) → map face fs ≡ map face es → length fs ≡ length es
length-faces es fs h = sym (length-map fs face) ∙ ap (λ (xs : List (ℕ × List ℕ)). length xs) h ∙ length-map es face

pub paged-faces : (ix : List ℕ) (es fs : List Entry) → map face fs ≡ map face es → paged (bytes_at ix fs) ≡ paged (bytes_at ix es)
paged-faces ix es fs h = paged-same (bytes_at ix es) (bytes_at ix fs) (bytes_at-faces ix es fs h)

no_more : (new old : Bool) → (new ≡ true → (old ≡ true) ⊎ (false ≡ true)) → one new ≤ one old
no_more false old h = omega arith
no_more true true h = omega arith
no_more true false h = elim (h refl) [ inl e ↦ absurd (false≢true e) | inr e ↦ absurd (false≢true e) ]

-- fewer are own
pub own_count-shrinks : (xs ys : List Entry) → Grows (λ _. false) xs ys → own_count ys ≤ own_count xs
own_count-shrinks [] [] g = omega arith
own_count-shrinks [] (y ∷ ys) g = absurd g
own_count-shrinks (x ∷ xs) [] g = absurd g
own_count-shrinks (x ∷ xs) (y ∷ ys) g =
    omega (arith, sum_by-cons (λ (e : Entry). one (is_own e.page)) y ys, sum_by-cons (λ (e : Entry). one (is_own e.page)) x xs, no_more (is_own y.page) (is_own x.page) g.1, own_count-shrinks xs ys g.2)

pub on_err_always : {T E : Type 0} (r : Result T E) (P : Type 0) → P → OnErr r P
on_err_always (Ok x) P h = tt
on_err_always (Err x) P h = h
