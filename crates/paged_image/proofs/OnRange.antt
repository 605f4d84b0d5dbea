-- Ranges of addresses over several pages
use Rattle.std.proofs.Common.{◌≡◌, ℕ, ◌+◌, ◌-◌, ◌*◌, ◌/◌, ◌%◌, ◌^◌, ◌<◌, ◌≤◌, ◌⊎◌, inl, inr, true, false, List, ◌++◌, length, get_or, take, drop, Option, Some, None, is_some, refl, sym, ◌∙◌, ap, arith, length-append}
use Rattle.std.specs.Prelude.{slice_index}
use Rattle.std.proofs.lemmas.Bool.{cases_lt, false≢true}
use Rattle.std.proofs.lemmas.Grind.{common_steps}
use Rattle.std.proofs.lemmas.Slice.{take-put_mid}
use borrow.Rule.Slice.PartMut.{put_mid}
use Rattle.guest_model.specs.ByteMap.{ByteMap, byte, mapped, bytes_from, write}
use Rattle.guest_model.proofs.OnByteMap.{mapped-all, mapped-absent, mapped-at, bytes_from-fill, bytes_from-at, length-bytes_from, write-is, write-inside, write-outside}
use Rattle.paged_image.specs.Pages.{IsPage, LacksPage}
use Rattle.paged_image.specs.Image.{content}
use Rattle.paged_image.specs.Changes.{page_of}
use Rattle.paged_image.specs.declared.image.PagedImage.{PagedImage}
use Rattle.paged_image.proofs.OnPages.{paged-at, paged-none}
use Rattle.paged_image.proofs.OnImage.{table_of}

there_or_not : (o : Option (List ℕ)) → (o ≡ None) ⊎ ((bytes : List ℕ) × (o ≡ Some bytes))
there_or_not None = inl refl
there_or_not (Some bytes) = inr (bytes, refl)

pub byte-there : (t : PagedImage) (q : ℕ) → is_some (page_of t (q / 4096)) ≡ true → is_some (content t q) ≡ true
unfolding content
byte-there t q h = elim (there_or_not (page_of t (q / 4096))) [
  | inl e ↦ absurd (false≢true (sym (ap is_some e) ∙ h))
  | inr e ↦ ap is_some (paged-at (page_of t) q (q / 4096) e.0 e.1 refl)
]

pub byte-absent : (t : PagedImage) (q p : ℕ) → page_of t p ≡ None → q / 4096 ≡ p → content t q ≡ None
unfolding content
byte-absent t q p h at = paged-none (page_of t) q p h at

-- a range is mapped where its pages are
pub mapped-pages : (t : PagedImage) (a n : ℕ) → a + n ≤ 2 ^ 32 → ((p : ℕ) → a / 4096 ≤ p → p < (a + n - 1) / 4096 + 1 → is_some (page_of t p) ≡ true) → mapped (content t) a n ≡ true
mapped-pages t a n bound h = mapped-all (content t) a n bound (λ k l. byte-there t (a + k) (h ((a + k) / 4096) (omega arith) (omega arith)))

none_from : (o : Option (List ℕ)) → is_some o ≡ false → o ≡ None
none_from None h = refl
none_from (Some bytes) h = absurd (cc)

-- and not where one is absent
pub mapped-absent_page : (t : PagedImage) (a n p : ℕ) → 0 < n → a / 4096 ≤ p → p < (a + n - 1) / 4096 + 1 → is_some (page_of t p) ≡ false → mapped (content t) a n ≡ false
mapped-absent_page t a n p some low high h =
    mapped-absent (content t) a n (p * 4096 - a) (omega arith) (byte-absent t (a + (p * 4096 - a)) p (none_from (page_of t p) h) (omega arith))

pub mapped-empty : (m : ByteMap) (a n : ℕ) → a + n ≤ 2 ^ 32 → n ≡ 0 → mapped m a n ≡ true
mapped-empty m a n h e = mapped-all m a n h (λ k l. absurd (omega arith))

-- each address of a mapped range lies on a mapped page
pub page-mapped : (t : PagedImage) (a n k : ℕ) → mapped (content t) a n ≡ true → k < n → is_some (page_of t ((a + k) / 4096)) ≡ true
page-mapped t a n k h l = elim (there_or_not (page_of t ((a + k) / 4096))) [
  | inl e ↦ absurd (false≢true (sym (ap is_some (byte-absent t (a + k) ((a + k) / 4096) e refl)) ∙ mapped-at (content t) a n k h l))
  | inr e ↦ ap is_some e.1
]

get_or_left : (xs ys : List ℕ) (k : ℕ) → k < length xs → get_or (xs ++ ys) k 0 ≡ get_or xs k 0
get_or_left xs ys k l = grind (arith, common_steps)

get_or_right : (xs ys : List ℕ) (k n : ℕ) → length xs ≡ n → n ≤ k → get_or (xs ++ ys) k 0 ≡ get_or ys (k - n) 0
get_or_right xs ys k n e l = grind (arith, common_steps)

pub bytes_from-append : (m : ByteMap) (a i j : ℕ) → bytes_from m a (i + j) ≡ bytes_from m a i ++ bytes_from m (a + i) j
bytes_from-append m a i j = bytes_from-fill m a (i + j) (bytes_from m a i ++ bytes_from m (a + i) j) (length-append (bytes_from m a i) (bytes_from m (a + i) j) ∙ omega (arith, length-bytes_from m a i, length-bytes_from m (a + i) j)) (λ k l. at k l (cases_lt k i))
  where
    at : (k : ℕ) → k < i + j → (k < i) ⊎ (i ≤ k) → get_or (bytes_from m a i ++ bytes_from m (a + i) j) k 0 ≡ byte m (a + k)
    at k l (inl h) =
        let n : length (bytes_from m a i) ≡ i = length-bytes_from m a i in
        get_or_left (bytes_from m a i) (bytes_from m (a + i) j) k (omega arith) ∙ bytes_from-at m a i k 0 h
    at k l (inr h) =
        let n : length (bytes_from m a i) ≡ i = length-bytes_from m a i in
        let e : a + i + (k - i) ≡ a + k = omega arith in
        get_or_right (bytes_from m a i) (bytes_from m (a + i) j) k i n h ∙ bytes_from-at m (a + i) j (k - i) 0 (omega arith) ∙ ap (byte m) e

size_after : (i k : ℕ) (into piece : List ℕ) → i + k ≤ length into → length piece ≡ k → i + k ≤ length (put_mid i k into piece)
size_after i k into piece h e = grind (arith, common_steps)

-- one piece more in a buffer that is filled from its start
pub filled_more : (m : ByteMap) (a i n k : ℕ) (into piece : List ℕ) → k ≡ n → i + n ≤ length into → take i into ≡ bytes_from m a i → piece ≡ bytes_from m (a + i) n
    → (i + n ≤ length (put_mid i k into piece)) × (take (i + n) (put_mid i k into piece) ≡ bytes_from m a (i + n))
filled_more m a i n k into piece same fits front is =
    let size : length piece ≡ n = ap length is ∙ length-bytes_from m (a + i) n in
    (omega (arith, size_after i k into piece (omega arith) (omega arith)), take-put_mid i k into piece (i + n) (omega arith) (omega arith) ∙ ap (λ (xs : List ℕ). xs ++ piece) front ∙ ap (λ (xs : List ℕ). bytes_from m a i ++ xs) is ∙ sym (bytes_from-append m a i n))

pub part_length : (i n : ℕ) (xs : List ℕ) → i + n ≤ length xs → length (take (i + n - i) (drop i xs)) ≡ n
part_length i n xs h = grind (arith, common_steps)

-- a write goes on where another ended
pub write-append : (m : ByteMap) (a : ℕ) (xs ys : List ℕ) → write (write m a xs) (a + length xs) ys ≡ write m a (xs ++ ys)
write-append m a xs ys = write-is m (write (write m a xs) (a + length xs) ys) a (xs ++ ys)
    (λ q h. outside q h)
    (λ q l r. inside q l r (cases_lt q (a + length xs)))
  where
    n : length (xs ++ ys) ≡ length xs + length ys
    n = length-append xs ys

    outside : (q : ℕ) → (q < a) ⊎ (a + length (xs ++ ys) ≤ q) → write (write m a xs) (a + length xs) ys q ≡ m q
    outside q (inl h) = write-outside (write m a xs) (a + length xs) ys q (inl (omega arith)) ∙ write-outside m a xs q (inl h)
    outside q (inr h) = write-outside (write m a xs) (a + length xs) ys q (inr (omega (arith, n))) ∙ write-outside m a xs q (inr (omega (arith, n)))

    inside : (q : ℕ) → a ≤ q → q < a + length (xs ++ ys) → (q < a + length xs) ⊎ (a + length xs ≤ q) → write (write m a xs) (a + length xs) ys q ≡ Some (slice_index (xs ++ ys) (q - a))
    inside q l r (inl h) =
        write-outside (write m a xs) (a + length xs) ys q (inl h) ∙ write-inside m a xs q l h ∙ ap Some (sym (get_or_left xs ys (q - a) (omega arith)))
    inside q l r (inr h) =
        let e : q - (a + length xs) ≡ (q - a) - length xs = omega arith in
        write-inside (write m a xs) (a + length xs) ys q h (omega (arith, n)) ∙ ap (λ (i : ℕ). Some (slice_index ys i)) e ∙ ap Some (sym (get_or_right xs ys (q - a) (length xs) refl (omega arith)))

-- ---- a whole page

pub page-some : (t : PagedImage) (number : ℕ) (bytes : List ℕ) → page_of t number ≡ Some bytes → IsPage (content t) number bytes
unfolding content
page-some t number bytes h = record {
  below = (table_of t).below number bytes h;
  count = (table_of t).whole number bytes h;
  each = λ k l.
      let page : (number * 4096 + k) / 4096 ≡ number = omega arith in
      let offset : (number * 4096 + k) % 4096 ≡ k = omega arith in
      paged-at (page_of t) (number * 4096 + k) number bytes h page ∙ ap (λ (i : ℕ). Some (slice_index bytes i)) offset;
}

pub page-none : (t : PagedImage) (number : ℕ) → page_of t number ≡ None → LacksPage (content t) number
page-none t number h k l = byte-absent t (number * 4096 + k) number h (omega arith)
