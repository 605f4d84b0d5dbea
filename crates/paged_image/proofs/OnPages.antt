-- Pages as a byte map: what one page has, and what a change of one page changes
use Rattle.std.proofs.Common.{◌≡◌, ℕ, ◌+◌, ◌-◌, ◌/◌, ◌%◌, ◌^◌, ◌<◌, ◌≤◌, ◌⊎◌, inl, inr, true, List, length, get_or, Option, Some, None, is_some, sym, ◌∙◌, ap, arith}
use Rattle.std.specs.Prelude.{slice_index, slice_range, option_map, unwrap_or}
use Rattle.std.proofs.Math.Path.{fun_ext}
use Rattle.std.proofs.lemmas.Bool.{cases_eq}
use Rattle.std.proofs.lemmas.Grind.{common_steps}
use Rattle.guest_model.specs.ByteMap.{mapped, bytes_from, write}
use Rattle.guest_model.proofs.OnByteMap.{mapped-all, bytes_from-fill, write-is}
use Rattle.paged_image.specs.Owner.{overwritten}
use Rattle.paged_image.specs.Pages.{paged}

-- ---- one page of a map of pages

-- every page has 4,096 bytes, and there is none from 2 ^ 20 on
pub record IsTable (pages : ℕ → Option (List ℕ)) : Type 0 where
  pub whole : (p : ℕ) (bytes : List ℕ) → pages p ≡ Some bytes → length bytes ≡ 4096
  pub below : (p : ℕ) (bytes : List ℕ) → pages p ≡ Some bytes → p < 1048576

-- the byte at an address of a page that is there
pub paged-at : (pages : ℕ → Option (List ℕ)) (q p : ℕ) (bytes : List ℕ) → pages p ≡ Some bytes → q / 4096 ≡ p → paged pages q ≡ Some (slice_index bytes (q % 4096))
unfolding paged
paged-at pages q p bytes there at = ap (λ (o : Option (List ℕ)). option_map (λ (bs : List ℕ). slice_index bs (q % 4096)) o) (ap pages at ∙ there)

pub paged-none : (pages : ℕ → Option (List ℕ)) (q p : ℕ) → pages p ≡ None → q / 4096 ≡ p → paged pages q ≡ None
unfolding paged
paged-none pages q p absent at = ap (λ (o : Option (List ℕ)). option_map (λ (bs : List ℕ). slice_index bs (q % 4096)) o) (ap pages at ∙ absent)

pub same_page : (pages others : ℕ → Option (List ℕ)) (q : ℕ) → others (q / 4096) ≡ pages (q / 4096) → paged others q ≡ paged pages q
unfolding paged
same_page pages others q e = ap (λ (o : Option (List ℕ)). option_map (λ (bs : List ℕ). slice_index bs (q % 4096)) o) e

-- pages with the same bytes make the same map
pub paged-same : (pages others : ℕ → Option (List ℕ)) → ((p : ℕ) → others p ≡ pages p) → paged others ≡ paged pages
paged-same pages others h = let e : others ≡ pages = fun_ext h in ap paged e

range_length : (xs : List ℕ) (i m : ℕ) → i + m ≤ length xs → length (slice_range xs i (i + m)) ≡ m
range_length xs i m h = grind (arith, common_steps)

range_at : (xs : List ℕ) (i m k : ℕ) → k < m → get_or (slice_range xs i (i + m)) k 0 ≡ get_or xs (i + k) 0
range_at xs i m k h = grind (arith, common_steps)

-- n addresses from a on, all on the page of a
module _ (pages : ℕ → Option (List ℕ)) (table : IsTable pages) (a n : ℕ) (bytes : List ℕ) (there : pages (a / 4096) ≡ Some bytes) (fits : a % 4096 + n ≤ 4096) where
  in_space : a + n ≤ 2 ^ 32
  in_space = let b : a / 4096 < 1048576 = table.below (a / 4096) bytes there in omega arith

  each_byte : (k : ℕ) → k < n → paged pages (a + k) ≡ Some (slice_index bytes (a % 4096 + k))
  each_byte k l =
      let page : (a + k) / 4096 ≡ a / 4096 = omega arith in
      let offset : (a + k) % 4096 ≡ a % 4096 + k = omega arith in
      paged-at pages (a + k) (a / 4096) bytes there page ∙ ap (λ (i : ℕ). Some (slice_index bytes i)) offset

  pub mapped-page : mapped (paged pages) a n ≡ true
  mapped-page = mapped-all (paged pages) a n in_space (λ k l. ap is_some (each_byte k l))

  pub bytes_from-page : bytes_from (paged pages) a n ≡ slice_range bytes (a % 4096) (a % 4096 + n)
  bytes_from-page =
      let whole : length bytes ≡ 4096 = table.whole (a / 4096) bytes there in
      bytes_from-fill (paged pages) a n (slice_range bytes (a % 4096) (a % 4096 + n)) (range_length bytes (a % 4096) n (omega arith))
      (λ k l. range_at bytes (a % 4096) n k l ∙ sym (ap (λ (o : Option ℕ). unwrap_or o 0) (each_byte k l)))

-- a map of pages in which one page has other bytes
pub record Replaces (pages others : ℕ → Option (List ℕ)) (p : ℕ) (bytes : List ℕ) : Type 0 where
  pub there : others p ≡ Some bytes
  pub elsewhere : (q : ℕ) → (q ≡ p → ⊥) → others q ≡ pages q

overwritten-at : (xs from : List ℕ) (o k : ℕ) → o + length from ≤ length xs → k < length from → get_or (overwritten xs o from) (o + k) 0 ≡ get_or from k 0
overwritten-at xs from o k h l = grind (arith, common_steps)

overwritten-outside : (xs from : List ℕ) (o k : ℕ) → o + length from ≤ length xs → (k < o) ⊎ (o + length from ≤ k) → get_or (overwritten xs o from) k 0 ≡ get_or xs k 0
overwritten-outside xs from o k h (inl l) = grind (arith, common_steps)
overwritten-outside xs from o k h (inr l) = grind (arith, common_steps)

-- bytes written into one page are a write into the map
pub write-page : (pages others : ℕ → Option (List ℕ)) (a : ℕ) (from bytes : List ℕ) → IsTable pages → pages (a / 4096) ≡ Some bytes
    → a % 4096 + length from ≤ 4096 → Replaces pages others (a / 4096) (overwritten bytes (a % 4096) from) → paged others ≡ write (paged pages) a from
write-page pages others a from bytes table there fits r = write-is (paged pages) (paged others) a from outside inside
  where
    whole : length bytes ≡ 4096
    whole = table.whole (a / 4096) bytes there

    outside_at : (q : ℕ) → (q < a) ⊎ (a + length from ≤ q) → (q / 4096 ≡ a / 4096) ⊎ (q / 4096 ≡ a / 4096 → ⊥) → paged others q ≡ paged pages q
    outside_at q h (inl same) =
        let o : (q % 4096 < a % 4096) ⊎ (a % 4096 + length from ≤ q % 4096) = elim h [ inl l ↦ inl (omega arith) | inr l ↦ inr (omega arith) ] in
        paged-at others q (a / 4096) (overwritten bytes (a % 4096) from) r.there same
        ∙ ap Some (overwritten-outside bytes from (a % 4096) (q % 4096) (omega (arith, whole)) o)
        ∙ sym (paged-at pages q (a / 4096) bytes there same)
    outside_at q h (inr other) = same_page pages others q (r.elsewhere (q / 4096) other)

    outside : (q : ℕ) → (q < a) ⊎ (a + length from ≤ q) → paged others q ≡ paged pages q
    outside q h = outside_at q h (cases_eq (q / 4096) (a / 4096))

    inside : (q : ℕ) → a ≤ q → q < a + length from → paged others q ≡ Some (slice_index from (q - a))
    inside q l h =
        let page : q / 4096 ≡ a / 4096 = omega arith in
        let offset : q % 4096 ≡ a % 4096 + (q - a) = omega arith in
        paged-at others q (a / 4096) (overwritten bytes (a % 4096) from) r.there page
        ∙ ap (λ (i : ℕ). Some (slice_index (overwritten bytes (a % 4096) from) i)) offset
        ∙ ap Some (overwritten-at bytes from (a % 4096) (q - a) (omega (arith, whole)) (omega arith))
