-- A range of addresses that lies in one area
use Rattle.std.proofs.Common.{◌≡◌, ℕ, ◌+◌, ◌-◌, ◌^◌, ◌<◌, ◌≤◌, Bool, true, false, List, [], ◌∷◌, ◌++◌, length, get_or, take, drop, Some, None, is_some, ◌⊎◌, inl, inr, refl, sym, ap, ◌∙◌, subst, add-zero, arith, length-append, length-drop, get_or-set_same}
use Rattle.std.specs.Prelude.{slice_index, unwrap_or}
use Rattle.std.proofs.lemmas.Bool.{cases_lt}
use Rattle.std.proofs.lemmas.Grind.{common_steps}
use Rattle.std.proofs.lemmas.List.{get_or_default, take_more}
use Rattle.std.proofs.Math.ListN.{set, length-set, length-take}
use Rattle.guest_model.specs.ByteMap.{ByteMap, mapped, write}
use Rattle.guest_model.specs.AreaMap.{covers, areas_bytes, IsLayout}
use Rattle.guest_model.specs.Place.{IsPlace, LacksRange, HasNoPlace, IsPiece, Pastes}
use Rattle.guest_model.proofs.OnByteMap.{mapped-at, mapped-all, bytes_from-fill, write-is, write-outside, write-more}
use Rattle.guest_model.proofs.OnAreas.{covers-before, covers-after, areas_bytes-at, areas_bytes-none, areas_bytes-set_outside, SameAddresses, SameAddresses-set, IsLayout-same}
use Rattle.guest_model.specs.declared.areas.Area.{Area}
use Rattle.guest_model.specs.declared.access.Place.{Place}

-- a byte of the range
pub place-byte : (xs : List Area) (a n k : ℕ) (p : Place) (d : Area) → IsLayout xs → IsPlace xs a n p → k < n → areas_bytes xs (a + k) ≡ Some (slice_index (get_or xs p.index d).bytes (p.offset + k))
place-byte xs a n k p d l h r =
    let at : (get_or xs p.index d).base + p.offset ≡ a = (h.here d).address in
    let fits : p.offset + n ≤ length (get_or xs p.index d).bytes = (h.here d).within in
    let e : a + k - (get_or xs p.index d).base ≡ p.offset + k = omega arith in
    areas_bytes-at xs p.index (a + k) d l.rising h.index (omega arith) (omega arith) ∙ ap (λ i. Some (slice_index (get_or xs p.index d).bytes i)) e

-- the whole range is mapped
pub place-mapped : (xs : List Area) (a n : ℕ) (p : Place) (d : Area) → IsLayout xs → IsPlace xs a n p → mapped (areas_bytes xs) a n ≡ true
place-mapped xs a n p d l h =
    let at : (get_or xs p.index d).base + p.offset ≡ a = (h.here d).address in
    let fits : p.offset + n ≤ length (get_or xs p.index d).bytes = (h.here d).within in
    let space : (get_or xs p.index d).base + length (get_or xs p.index d).bytes ≤ 2 ^ 32 = l.within p.index d h.index in
    mapped-all (areas_bytes xs) a n (omega arith) (λ k r. ap is_some (place-byte xs a n k p d l h r))

-- these are its bytes
pub place-piece : (xs : List Area) (a n : ℕ) (p : Place) (d : Area) (bs : List ℕ) → IsLayout xs → IsPlace xs a n p → length bs ≡ n → ((k : ℕ) → k < n → get_or bs k 0 ≡ slice_index (get_or xs p.index d).bytes (p.offset + k)) → IsPiece (areas_bytes xs) a n bs
place-piece xs a n p d bs l h c e = record {
  count = c;
  mapped = place-mapped xs a n p d l h;
  bytes = bytes_from-fill (areas_bytes xs) a n bs c (λ k r. e k r ∙ sym (ap (λ o. unwrap_or o 0) (place-byte xs a n k p d l h r)));
}

-- ---- a list of bytes with a part replaced

pub length-patched : (bs : List ℕ) (i : ℕ) (from : List ℕ) → i + length from ≤ length bs → length (take i bs ++ from ++ drop (i + length from) bs) ≡ length bs
length-patched bs i from h = simp (length-append, length-take, length-drop) (omega arith)

pub patched-inside : (bs : List ℕ) (i : ℕ) (from : List ℕ) (k : ℕ) → i + length from ≤ length bs → k < length from → slice_index (take i bs ++ from ++ drop (i + length from) bs) (i + k) ≡ slice_index from k
patched-inside bs i from k h r = grind (arith, common_steps)

pub patched-before : (bs : List ℕ) (i : ℕ) (from : List ℕ) (j : ℕ) → i + length from ≤ length bs → j < i → slice_index (take i bs ++ from ++ drop (i + length from) bs) j ≡ slice_index bs j
patched-before bs i from j h r = grind (arith, common_steps)

pub patched-after : (bs : List ℕ) (i : ℕ) (from : List ℕ) (j : ℕ) → i + length from ≤ length bs → i + length from ≤ j → slice_index (take i bs ++ from ++ drop (i + length from) bs) j ≡ slice_index bs j
patched-after bs i from j h r = grind (arith, common_steps)

-- the byte of an area that is known to stand in the list
byte-of : (xs : List Area) (k q : ℕ) (d x : Area) → get_or xs k d ≡ x → IsLayout xs → k < length xs → x.base ≤ q → q < x.base + length x.bytes → areas_bytes xs q ≡ Some (slice_index x.bytes (q - x.base))
byte-of xs k q d x e l h = subst (λ (z : Area). z.base ≤ q → q < z.base + length z.bytes → areas_bytes xs q ≡ Some (slice_index z.bytes (q - z.base))) e (areas_bytes-at xs k q d l.rising h)

-- the area at a place with the bytes of the range replaced
pub record IsPatched (x : Area) (offset : ℕ) (from : List ℕ) (y : Area) : Type 0 where
  pub base : y.base ≡ x.base
  pub bytes : y.bytes ≡ take offset x.bytes ++ from ++ drop (offset + length from) x.bytes

same_length : (x y : Area) (i : ℕ) (from : List ℕ) → i + length from ≤ length x.bytes → IsPatched x i from y → length y.bytes ≡ length x.bytes
same_length x y i from h e = ap length e.bytes ∙ length-patched x.bytes i from h

pub patched-same : (xs : List Area) (a : ℕ) (from : List ℕ) (p : Place) (y : Area) → IsPlace xs a (length from) p → ((d : Area) → IsPatched (get_or xs p.index d) p.offset from y) → SameAddresses xs (set xs p.index y)
patched-same xs a from p y h e = SameAddresses-set xs p.index y h.index (λ d. (e d).base) (λ d. same_length (get_or xs p.index d) y p.offset from (h.here d).within (e d))

pub patched-layout : (xs : List Area) (a : ℕ) (from : List ℕ) (p : Place) (y : Area) → IsLayout xs → IsPlace xs a (length from) p → ((d : Area) → IsPatched (get_or xs p.index d) p.offset from y) → IsLayout (set xs p.index y)
patched-layout xs a from p y l h e = IsLayout-same xs (set xs p.index y) (patched-same xs a from p y h e) l

-- it stands for the memory written
pub patched-write : (xs : List Area) (a : ℕ) (from : List ℕ) (p : Place) (y : Area) → IsLayout xs → IsPlace xs a (length from) p → ((d : Area) → IsPatched (get_or xs p.index d) p.offset from y) → areas_bytes (set xs p.index y) ≡ write (areas_bytes xs) a from
patched-write xs a from p y l h e = write-is (areas_bytes xs) (areas_bytes (set xs p.index y)) a from
    (λ q o. outside q o (cases_lt q (x).base) (cases_lt q ((x).base + length (x).bytes)))
    (λ q m r. inside q m r)
  where
    x : Area
    x = get_or xs p.index y

    new_layout : IsLayout (set xs p.index y)
    new_layout = patched-layout xs a from p y l h e

    new_index : p.index < length (set xs p.index y)
    new_index = omega (arith, length-set xs p.index y, h.index)

    at : x.base + p.offset ≡ a
    at = (h.here y).address

    fits : p.offset + length from ≤ length x.bytes
    fits = (h.here y).within

    same_base : y.base ≡ x.base
    same_base = (e y).base

    same_size : length y.bytes ≡ length x.bytes
    same_size = same_length x y p.offset from fits (e y)

    new_byte : (q : ℕ) → x.base ≤ q → q < x.base + length x.bytes → areas_bytes (set xs p.index y) q ≡ Some (slice_index y.bytes (q - x.base))
    new_byte q m r =
        byte-of (set xs p.index y) p.index q y y (get_or-set_same xs p.index y y h.index) new_layout new_index (omega (arith, same_base)) (omega (arith, same_base, same_size))
        ∙ ap (λ b. Some (slice_index y.bytes (q - b))) same_base

    old_byte : (q : ℕ) → x.base ≤ q → q < x.base + length x.bytes → areas_bytes xs q ≡ Some (slice_index x.bytes (q - x.base))
    old_byte q m r = byte-of xs p.index q y x refl l h.index m r

    outside : (q : ℕ) → (q < a) ⊎ (a + length from ≤ q) → (q < x.base) ⊎ (x.base ≤ q) → (q < x.base + length x.bytes) ⊎ (x.base + length x.bytes ≤ q) → areas_bytes (set xs p.index y) q ≡ areas_bytes xs q
    outside q o (inl b) _ = areas_bytes-set_outside xs p.index q y y h.index same_base same_size (covers-before x q b)
    outside q o (inr b) (inr r) = areas_bytes-set_outside xs p.index q y y h.index same_base same_size (covers-after x q r)
    outside q (inl o) (inr b) (inl r) =
        let before : q - x.base < p.offset = omega (arith, at) in
        new_byte q b r ∙ ap (λ bs. Some (slice_index bs (q - x.base))) (e y).bytes ∙ ap Some (patched-before x.bytes p.offset from (q - x.base) fits before) ∙ sym (old_byte q b r)
    outside q (inr o) (inr b) (inl r) =
        let after : p.offset + length from ≤ q - x.base = omega (arith, at) in
        new_byte q b r ∙ ap (λ bs. Some (slice_index bs (q - x.base))) (e y).bytes ∙ ap Some (patched-after x.bytes p.offset from (q - x.base) fits after) ∙ sym (old_byte q b r)

    inside : (q : ℕ) → a ≤ q → q < a + length from → areas_bytes (set xs p.index y) q ≡ Some (slice_index from (q - a))
    inside q m r =
        let k_is : q - x.base ≡ p.offset + (q - a) = omega (arith, at) in
        new_byte q (omega (arith, at)) (omega (arith, at, fits)) ∙ ap (λ bs. Some (slice_index bs (q - x.base))) (e y).bytes
        ∙ ap (λ i. Some (slice_index (take p.offset x.bytes ++ from ++ drop (p.offset + length from) x.bytes) i)) k_is
        ∙ ap Some (patched-inside x.bytes p.offset from (q - a) fits (omega arith))

-- no area covers an address that has no place
pub no_place-none : (xs : List Area) (q : ℕ) → HasNoPlace xs q 1 → areas_bytes xs q ≡ None
no_place-none xs q h = areas_bytes-none xs q (λ k d r. uncovered (get_or xs k d) (h k d r) (cases_lt q (get_or xs k d).base) (cases_lt q ((get_or xs k d).base + length (get_or xs k d).bytes)))
  where
    uncovered : (x : Area) → LacksRange x q 1 → (q < x.base) ⊎ (x.base ≤ q) → (q < x.base + length x.bytes) ⊎ (x.base + length x.bytes ≤ q) → covers x q ≡ false
    uncovered x l (inl b) _ = covers-before x q b
    uncovered x l (inr b) (inr e) = covers-after x q e
    uncovered x l (inr b) (inl e) = absurd (l b (omega arith) e)

-- ---- what the code reads and writes at a place

pub place-byte_is : (xs : List Area) (a : ℕ) (p : Place) (d : Area) (bs : List ℕ) → IsLayout xs → IsPlace xs a 1 p → bs ≡ (get_or xs p.index d).bytes → Some (get_or bs p.offset 0) ≡ areas_bytes xs a
place-byte_is xs a p d bs l h e =
    ap (λ (b : List ℕ). Some (get_or b p.offset 0)) e
    ∙ ap (λ i. Some (slice_index (get_or xs p.index d).bytes i)) (sym (add-zero p.offset))
    ∙ sym (place-byte xs a 1 0 p d l h (omega arith))
    ∙ ap (λ q. areas_bytes xs q) (add-zero a)

pub place-slice : (xs : List Area) (a n : ℕ) (p : Place) (d : Area) (bs : List ℕ) → IsLayout xs → IsPlace xs a n p → bs ≡ (get_or xs p.index d).bytes → IsPiece (areas_bytes xs) a n (take (p.offset + n - p.offset) (drop p.offset bs))
place-slice xs a n p d bs l h e = rw (e, n_is) (place-piece xs a n p d (take n (drop p.offset b)) l h
    (simp (length-take, length-drop) (omega (arith, (h.here d).within)))
    (λ k r. grind (arith, common_steps)))
  where
    b : List ℕ
    b = (get_or xs p.index d).bytes

    n_is : p.offset + n - p.offset ≡ n
    n_is = omega arith

pub overwritten : (xs : List Area) (p : Place) (e d : Area) (from bs : List ℕ) → p.index < length xs → bs ≡ take p.offset (get_or xs p.index e).bytes ++ from ++ drop (p.offset + length from) (get_or xs p.index e).bytes → IsPatched (get_or xs p.index d) p.offset from (record { base = (get_or xs p.index e).base; bytes = bs })
overwritten xs p e d from bs h b =
    let same : get_or xs p.index e ≡ get_or xs p.index d = get_or_default xs p.index e d h in
    record {
      base = ap (λ (x : Area). x.base) same;
      bytes = b ∙ ap (λ (x : Area). take p.offset x.bytes ++ from ++ drop (p.offset + length from) x.bytes) same;
    }

-- one byte more of a write that goes byte by byte: each byte has a place, since the range is mapped
pub paste-more : (xs ys zs : List Area) (a k : ℕ) (from : List ℕ) (r : Bool) → mapped (areas_bytes xs) a (length from) ≡ true → areas_bytes ys ≡ write (areas_bytes xs) a (take k from) → k < length from → Pastes ys zs (a + k) (get_or from k 0 ∷ []) r → areas_bytes zs ≡ write (areas_bytes xs) a (take (k + 1) from)
paste-more xs ys zs a k from true m e l h =
    let count : length (take k from) ≡ k = simp length-take (omega arith) in
    let more : take (k + 1) from ≡ take k from ++ get_or from k 0 ∷ [] = take_more from k 0 l in
    h.1
    ∙ ap (λ z. write z (a + k) (get_or from k 0 ∷ [])) e
    ∙ ap (λ n. write (write (areas_bytes xs) a (take k from)) (a + n) (get_or from k 0 ∷ [])) (sym count)
    ∙ write-more (areas_bytes xs) a (take k from) (get_or from k 0)
    ∙ ap (write (areas_bytes xs) a) (sym more)
paste-more xs ys zs a k from false m e l h =
    let count : length (take k from) ≡ k = simp length-take (omega arith) in
    let there : is_some (areas_bytes xs (a + k)) ≡ true = mapped-at (areas_bytes xs) a (length from) k m l in
    let absent : areas_bytes ys (a + k) ≡ None = no_place-none ys (a + k) h.1 in
    let kept : areas_bytes ys (a + k) ≡ areas_bytes xs (a + k) = ap (λ (z : ByteMap). z (a + k)) e ∙ write-outside (areas_bytes xs) a (take k from) (a + k) (inr (omega (arith, count))) in
    let not_there : is_some (areas_bytes xs (a + k)) ≡ false = ap is_some (sym kept ∙ absent) in
    absurd (cc)
