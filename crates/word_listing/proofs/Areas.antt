-- The listing of an image's memory is that of its areas, one after another
use Rattle.std.proofs.Common.{◌≡◌, ℕ, zero, suc, ◌+◌, ◌-◌, ◌*◌, ◌/◌, ◌%◌, ◌^◌, ◌<◌, ◌≤◌, true, List, [], ◌∷◌, ◌++◌, length, get_or, take, drop, Some, None, is_some, refl, sym, ap, subst, ◌∙◌, zero-add, add-zero, arith, length-drop}
use Rattle.std.specs.Prelude.{slice_index, option_map, unwrap_or}
use Rattle.std.specs.Int.{w32}
use Rattle.std.specs.List.{find}
use Rattle.std.specs.Simd.{first_chunks}
use Rattle.std.proofs.lemmas.Bool.{cond-false}
use Rattle.std.proofs.lemmas.List.{at_drop_more, drop-drop, get_or-drop, get_or-take}
use Rattle.std.proofs.Math.ListN.{length-take}
use Rattle.guest_model.specs.AreaMap.{covers, areas_bytes, IsLayout}
use Rattle.guest_model.specs.ByteMap.{ByteMap, mapped, bytes_from}
use Rattle.guest_model.specs.Image.{Image}
use Rattle.guest_model.specs.declared.areas.Area.{Area}
use Rattle.guest_model.proofs.OnAreas.{covers-before, covers-after, areas_bytes-at, areas_bytes-none}
use Rattle.guest_model.proofs.OnByteMap.{mapped-all, mapped-absent, bytes_from-fill, load-mapped, load-unmapped}
use Rattle.word_listing.specs.Listing.{line_at, line_if_mapped, joined, listing_text}
use Rattle.word_listing.specs.Pieces.{word_line, area_lines}
use Rattle.word_listing.proofs.Joined.{joined-split, joined-same, joined-none}

abbrev pub areas_lines : List Area → List ℕ
areas_lines [] = []
areas_lines (x ∷ xs) = area_lines x ++ areas_lines xs

-- ---- one word

-- no line where its first byte isn't mapped
unmapped-line : (m : ByteMap) (a : ℕ) → m a ≡ None → line_at m a ≡ []
unmapped-line m a e = ap (line_if_mapped a) (load-unmapped w32 m a (mapped-absent m a 4 0 (omega arith) (ap m (add-zero a) ∙ e)))

-- memory has these bytes from this address on
HasBytes : ByteMap → ℕ → List ℕ → Type 0
HasBytes m a bs = (i : ℕ) → i < length bs → m (a + i) ≡ Some (slice_index bs i)

cut : (bs : List ℕ) (s n i : ℕ) → i < n → get_or (take n (drop s bs)) i 0 ≡ get_or bs (s + i) 0
cut bs s n i h = get_or-take n (drop s bs) i 0 h ∙ get_or-drop s bs i 0

word-line : (m : ByteMap) (a : ℕ) (bs : List ℕ) (k : ℕ) → a + 4 * k + 4 ≤ 2 ^ 32 → 4 * k + 4 ≤ length bs → HasBytes m a bs → line_at m (a + 4 * k) ≡ word_line a bs k
unfolding HasBytes
word-line m a bs k space inside h = ap (line_if_mapped (a + 4 * k)) (load-mapped w32 m (a + 4 * k) (take 4 (drop (4 * k) bs)) there bytes)
  where
    at : (i : ℕ) → i < 4 → m (a + 4 * k + i) ≡ Some (slice_index bs (4 * k + i))
    at i l = (let e : a + 4 * k + i ≡ a + (4 * k + i) = omega arith in ap m e ∙ h (4 * k + i) (omega arith))

    there : mapped m (a + 4 * k) 4 ≡ true
    there = mapped-all m (a + 4 * k) 4 space (λ i l. ap is_some (at i l))

    count : length (take 4 (drop (4 * k) bs)) ≡ 4
    count = simp (length-take, length-drop) (omega arith)

    bytes : bytes_from m (a + 4 * k) 4 ≡ take 4 (drop (4 * k) bs)
    bytes = bytes_from-fill m (a + 4 * k) 4 (take 4 (drop (4 * k) bs)) count (λ i l. cut bs (4 * k) 4 i l ∙ sym (ap (λ o. unwrap_or o 0) (at i l)))

-- ---- areas

skipped : (x : Area) (xs : List Area) (q : ℕ) → x.base + length x.bytes ≤ q → areas_bytes (x ∷ xs) q ≡ areas_bytes xs q
skipped x xs q h = ap (λ o. option_map (λ (y : Area). slice_index y.bytes (q - y.base)) o) (cond-false (covers x q) (Some x) (find (λ y. covers y q) xs) (covers-after x q h))

-- all areas start here or above
StartsFrom : List Area → ℕ → Type 0
StartsFrom xs a = (k : ℕ) (d : Area) → k < length xs → a ≤ (get_or xs k d).base

starts_below : (xs : List Area) (a q : ℕ) → StartsFrom xs a → q < a → areas_bytes xs q ≡ None
unfolding StartsFrom
starts_below xs a q h l = areas_bytes-none xs q (λ k d r. covers-before (get_or xs k d) q (omega (arith, h k d r)))

later-layout : (x : Area) (xs : List Area) → IsLayout (x ∷ xs) → IsLayout xs
later-layout x xs l = record {
  aligned = λ k d h. l.aligned (suc k) d (omega arith);
  rising = λ i j d h r. l.rising (suc i) (suc j) d (omega arith) (omega arith);
  within = λ k d h. l.within (suc k) d (omega arith);
}

later-start : (x : Area) (xs : List Area) → IsLayout (x ∷ xs) → StartsFrom xs (x.base + length x.bytes)
unfolding StartsFrom
later-start x xs l k d h = l.rising 0 (suc k) d (omega arith) (omega arith)

all-start : (x : Area) (xs : List Area) → IsLayout (x ∷ xs) → StartsFrom (x ∷ xs) x.base
unfolding StartsFrom
all-start x xs l zero d h = omega arith
all-start x xs l (suc k) d h = omega (arith, l.rising 0 (suc k) d (omega arith) h)

-- the bytes of the first area
first-bytes : (x : Area) (xs : List Area) → IsLayout (x ∷ xs) → HasBytes (areas_bytes (x ∷ xs)) x.base x.bytes
unfolding HasBytes
first-bytes x xs l i h =
    let e : x.base + i - x.base ≡ i = omega arith in
    areas_bytes-at (x ∷ xs) 0 (x.base + i) x l.rising (omega arith) (omega arith) (omega arith) ∙ ap (λ j. Some (slice_index x.bytes j)) e

-- the lines of words from an address on are those of areas that start there or above, where these have all of the bytes
abbrev word_at : ByteMap → ℕ → List ℕ
word_at m k = line_at m (4 * k)

AgreesFrom : ByteMap → List Area → ℕ → Type 0
AgreesFrom m xs a = (q : ℕ) → a ≤ q → m q ≡ areas_bytes xs q

lines-from : (m : ByteMap) (xs : List Area) (p n : ℕ) → IsLayout xs → StartsFrom xs (4 * p) → AgreesFrom m xs (4 * p) → p + n ≡ 2 ^ 30 → joined (word_at m) p n ≡ areas_lines xs
unfolding AgreesFrom HasBytes StartsFrom
lines-from m [] p n l starts agrees end = joined-none (word_at m) p n (λ k h. unmapped-line m (4 * (p + k)) (agrees (4 * (p + k)) (omega arith)))
lines-from m (x ∷ xs) p n l starts agrees end =
    ap (joined (word_at m) p) total
    ∙ joined-split (word_at m) p before (count + behind)
    ∙ ap (λ t. t ++ joined (word_at m) (p + before) (count + behind)) none
    ∙ joined-split (word_at m) (p + before) count behind
    ∙ ap (λ t. t ++ joined (word_at m) (p + before + count) behind) here
    ∙ ap (λ t. area_lines x ++ t) (lines-from m xs (p + before + count) behind (later-layout x xs l)
    (subst (StartsFrom xs) (sym at_end) (later-start x xs l))
    (λ q h. agrees q (omega (arith, at_end, start)) ∙ skipped x xs q (omega (arith, at_end)))
    (omega (arith, total, end)))
  where
    start : 4 * p ≤ x.base
    start = starts 0 x (omega arith)

    base_is : x.base % 4096 ≡ 0
    base_is = (l.aligned 0 x (omega arith)).base

    length_is : length x.bytes % 4096 ≡ 0
    length_is = (l.aligned 0 x (omega arith)).length

    space : x.base + length x.bytes ≤ 2 ^ 32
    space = l.within 0 x (omega arith)

    before : ℕ
    before = x.base / 4 - p

    count : ℕ
    count = length x.bytes / 4

    behind : ℕ
    behind = n - (before + count)

    total : n ≡ before + (count + behind)
    total = omega (arith, start, base_is, length_is, space, end)

    at_base : 4 * (p + before) ≡ x.base
    at_base = omega (arith, start, base_is)

    at_end : 4 * (p + before + count) ≡ x.base + length x.bytes
    at_end = omega (arith, at_base, length_is)

    none : joined (word_at m) p before ≡ []
    none = joined-none (word_at m) p before (λ k h.
        unmapped-line m (4 * (p + k)) (agrees (4 * (p + k)) (omega arith) ∙ starts_below (x ∷ xs) x.base (4 * (p + k)) (all-start x xs l) (omega (arith, at_base))))

    bytes : HasBytes m x.base x.bytes
    bytes i h = agrees (x.base + i) (omega (arith, start)) ∙ first-bytes x xs l i h

    here : joined (word_at m) (p + before) count ≡ area_lines x
    here = joined-same (word_at m) (word_line x.base x.bytes) (p + before) 0 count (λ k h.
        (let e : 4 * (p + before + k) ≡ x.base + 4 * k = omega (arith, at_base) in
        ap (line_at m) e ∙ word-line m x.base x.bytes k (omega (arith, space)) (omega arith) bytes ∙ ap (word_line x.base x.bytes) (sym (zero-add k))))

-- the listing of an image that has the memory of these areas
pub listing-areas : (i : Image) (xs : List Area) → IsLayout xs → i.memory ≡ areas_bytes xs → listing_text i ≡ areas_lines xs
unfolding listing_text StartsFrom AgreesFrom
listing-areas i xs l e = lines-from i.memory xs 0 (2 ^ 30) l (λ k d h. omega arith) (λ q h. ap (λ (m : ByteMap). m q) e) (omega arith)

-- the lines of an area, and those of the areas behind it
pub areas-next : (xs ys : List Area) (i : ℕ) (x : Area) → xs ≡ ys → i < length xs → x ≡ get_or xs i x → areas_lines (drop i ys) ≡ area_lines x ++ areas_lines (drop (i + 1) ys)
areas-next xs ys i x same h e =
    subst (λ (zs : List Area). areas_lines (drop i zs) ≡ area_lines x ++ areas_lines (drop (i + 1) zs)) same
    (at_drop_more areas_lines xs i x h ∙ ap (λ y. area_lines y ++ areas_lines (drop (i + 1) xs)) (sym e))

-- ---- words of bytes

-- the k-th piece of four bytes
pub get_or-first_chunks : (count : ℕ) (bs : List ℕ) (k : ℕ) (d : List ℕ) → k < count → get_or (first_chunks 4 count bs) k d ≡ take 4 (drop (4 * k) bs)
get_or-first_chunks zero bs k d h = absurd (omega arith)
get_or-first_chunks (suc count) bs zero d h = refl
get_or-first_chunks (suc count) bs (suc k) d h =
    let e : 4 + 4 * k ≡ 4 * suc k = omega arith in
    get_or-first_chunks count (drop 4 bs) k d (omega arith) ∙ ap (take 4) (drop-drop (4 * k) 4 bs) ∙ ap (λ j. take 4 (drop j bs)) e
