-- Areas that have the pages of ranges
use Rattle.std.proofs.Common.{◌≡◌, ℕ, suc, ◌+◌, ◌-◌, ◌*◌, ◌/◌, ◌^◌, ◌<◌, ◌≤◌, Bool, true, false, List, [], ◌∷◌, length, get_or, Some, refl, sym, ap, ◌∙◌, arith}
use Rattle.std.specs.Prelude.{nat_le, nat_lt}
use Rattle.std.proofs.Math.Path.{fun_ext}
use Rattle.std.proofs.lemmas.Bool.{and_parts, leb-true, ltb-true}
use Rattle.std.proofs.lemmas.Bool.Decides.{nat_tests}
use Rattle.guest_model.specs.AreaMap.{covers, areas_bytes, IsLayout}
use Rattle.guest_model.specs.declared.areas.Area.{Area}
use Rattle.elf32_loader.specs.PageRanges.{in_range, IsRising, IsAreaOf, pages_bytes}
use Rattle.elf32_loader.specs.declared.page_range.PageRange.{PageRange}

-- each area is that of the range at its place
pub record AreAreasOf (byte : ℕ → ℕ) (rs : List PageRange) (xs : List Area) : Type 0 where
  pub count : length xs ≡ length rs
  pub each : (k : ℕ) (d : PageRange) (e : Area) → k < length rs → IsAreaOf byte (get_or rs k d) (get_or xs k e)

covers-in_range : (byte : ℕ → ℕ) (r : PageRange) (x : Area) (q : ℕ) → IsAreaOf byte r x → covers x q ≡ in_range (q / 4096) r
covers-in_range byte r x q h =
    let base : x.base ≡ r.first * 4096 = h.base in
    let size : length x.bytes ≡ (r.end - r.first) * 4096 = h.size in
    grind (arith, nat_tests)

by_first : (byte : ℕ → ℕ) (r : PageRange) (rs : List PageRange) (x : Area) (xs : List Area) (q : ℕ) (b : Bool) → IsAreaOf byte r x → covers x q ≡ b → areas_bytes xs q ≡ pages_bytes byte rs q → areas_bytes (x ∷ xs) q ≡ pages_bytes byte (r ∷ rs) q
by_first byte r rs x xs q true h e rest =
    let l : x.base ≤ q = leb-true x.base q (and_parts (nat_le x.base q) (nat_lt q (x.base + length x.bytes)) e).0 in
    let u : q < x.base + length x.bytes = ltb-true q (x.base + length x.bytes) (and_parts (nat_le x.base q) (nat_lt q (x.base + length x.bytes)) e).1 in
    let at : x.base + (q - x.base) ≡ q = omega arith in
    let in_first : in_range (q / 4096) r ≡ true = sym (covers-in_range byte r x q h) ∙ e in
    rw (e, in_first) (ap Some (h.bytes (q - x.base) (omega arith) ∙ ap byte at))
by_first byte r rs x xs q false h e rest =
    let not_first : in_range (q / 4096) r ≡ false = sym (covers-in_range byte r x q h) ∙ e in
    rw (e, not_first) rest

areas_bytes-at_each : (byte : ℕ → ℕ) (rs : List PageRange) (xs : List Area) → AreAreasOf byte rs xs → (q : ℕ) → areas_bytes xs q ≡ pages_bytes byte rs q
areas_bytes-at_each byte [] [] h q = refl
areas_bytes-at_each byte [] (x ∷ xs) h q = let c : length (x ∷ xs) ≡ 0 = h.count in absurd (omega arith)
areas_bytes-at_each byte (r ∷ rs) [] h q = let c : 0 ≡ length (r ∷ rs) = h.count in absurd (omega arith)
areas_bytes-at_each byte (r ∷ rs) (x ∷ xs) h q =
    let c : length (x ∷ xs) ≡ length (r ∷ rs) = h.count in
    by_first byte r rs x xs q (covers x q) (h.each 0 r x (omega arith)) refl
    (areas_bytes-at_each byte rs xs (record { count = omega arith; each = λ k d e l. h.each (suc k) d e (omega arith) }) q)

-- they make the memory of these pages
pub areas_bytes-pages : (byte : ℕ → ℕ) (rs : List PageRange) (xs : List Area) → AreAreasOf byte rs xs → areas_bytes xs ≡ pages_bytes byte rs
areas_bytes-pages byte rs xs h = fun_ext (λ q. areas_bytes-at_each byte rs xs h q)

-- areas of ranges that rise are a layout
pub IsLayout-rising : (byte : ℕ → ℕ) (rs : List PageRange) (xs : List Area) → AreAreasOf byte rs xs → IsRising rs → (d : PageRange) → IsLayout xs
IsLayout-rising byte rs xs h r d = record {
  aligned = λ k e l.
      let a = h.each k d e (omega (arith, h.count)) in
      record { base = omega (arith, a.base); length = omega (arith, a.size) };
  rising = λ i j e l m.
      let c : length xs ≡ length rs = h.count in
      let a = h.each i d e (omega arith) in
      let b = h.each j d e (omega arith) in
      let some : (get_or rs i d).first < (get_or rs i d).end = (r.ranges i d (omega arith)).some in
      let before : (get_or rs i d).end ≤ (get_or rs j d).first = r.order i j d l (omega arith) in
      omega (arith, a.base, a.size, b.base);
  within = λ k e l.
      let c : length xs ≡ length rs = h.count in
      let a = h.each k d e (omega arith) in
      let some : (get_or rs k d).first < (get_or rs k d).end = (r.ranges k d (omega arith)).some in
      let within : (get_or rs k d).end ≤ 2 ^ 20 = (r.ranges k d (omega arith)).within in
      omega (arith, a.base, a.size);
}
