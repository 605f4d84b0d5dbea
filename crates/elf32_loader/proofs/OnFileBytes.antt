-- The bytes that a copy from the file leaves
use Rattle.std.proofs.Common.{◌≡◌, ℕ, ◌+◌, ◌-◌, ◌<◌, ◌≤◌, true, cond, ◌&&◌, List, ◌++◌, length, take, drop, min, max, ◌⊎◌, ⊎_elim, inl, inr, sym, ap, ◌∙◌, subst, arith, length-take, length-drop}
use Rattle.std.specs.Prelude.{nat_le, nat_lt, slice_index}
use Rattle.std.proofs.lemmas.Bool.{cases_lt, and_from, and_right, and_left, le-leb, lt-ltb, lt-leb, le-ltb}
use Rattle.std.proofs.lemmas.List.{get_or-take, get_or-drop}
use Rattle.guest_model.specs.Segment.{Segment, is_load}
use Rattle.guest_model.proofs.OnPlaces.{patched-inside, patched-before, patched-after}
use Rattle.elf32_loader.specs.PageRanges.{byte_above}

byte_above-inside : (file : List ℕ) (s : Segment) (q below : ℕ) → is_load s ≡ true → s.address ≤ q → q < s.address + s.file_size → byte_above file s q below ≡ slice_index file (s.offset + (q - s.address))
byte_above-inside file s q below e l u =
    ap (λ b. cond b (slice_index file (s.offset + (q - s.address))) below)
    (and_from (is_load s) (nat_le s.address q && nat_lt q (s.address + s.file_size)) e (and_from (nat_le s.address q) (nat_lt q (s.address + s.file_size)) (le-leb s.address q l) (lt-ltb q (s.address + s.file_size) u)))

byte_above-outside : (file : List ℕ) (s : Segment) (q below : ℕ) → (q < s.address) ⊎ (s.address + s.file_size ≤ q) → byte_above file s q below ≡ below
byte_above-outside file s q below o =
    ap (λ b. cond b (slice_index file (s.offset + (q - s.address))) below)
    (and_right (is_load s) (nat_le s.address q && nat_lt q (s.address + s.file_size)) (⊎_elim
    (λ (l : q < s.address). and_left (nat_le s.address q) (nat_lt q (s.address + s.file_size)) (lt-leb s.address q l))
    (λ (u : s.address + s.file_size ≤ q). and_right (nat_le s.address q) (nat_lt q (s.address + s.file_size)) (le-ltb q (s.address + s.file_size) u))
    o))

-- the bytes of the file that a slice from here to `from + len` has
abbrev pub slice_of : List ℕ → ℕ → ℕ → List ℕ
slice_of file from len = take (from + len - from) (drop from file)

-- a loaded segment's bytes from `from` on were copied to `at`: those of its bytes that lie in the memory from base on
pub record IsCopied (file memory : List ℕ) (s : Segment) (base at from len : ℕ) : Type 0 where
  pub loaded : is_load s ≡ true
  pub first : base + at ≡ max base s.address
  pub start : from ≡ s.offset + (base + at - s.address)
  pub last : base + at + len ≡ min (s.address + s.file_size) (base + length memory)
  pub fits : from + len ≤ length file

length-slice_of : (file : List ℕ) (from len : ℕ) → from + len ≤ length file → length (slice_of file from len) ≡ len
length-slice_of file from len h = simp (length-take, length-drop) (omega arith)

-- the memory after the copy
abbrev pub copied : List ℕ → List ℕ → ℕ → ℕ → ℕ → List ℕ
copied file memory at from len = take at memory ++ slice_of file from len ++ drop (at + length (slice_of file from len)) memory

copied-inside : (file memory : List ℕ) (s : Segment) (base at from len : ℕ) → IsCopied file memory s base at from len → (j : ℕ) → j < len → slice_index (copied file memory at from len) (at + j) ≡ byte_above file s (base + (at + j)) (slice_index memory (at + j))
copied-inside file memory s base at from len h j l =
    let size : length (slice_of file from len) ≡ len = length-slice_of file from len h.fits in
    let fits : at + length (slice_of file from len) ≤ length memory = omega (arith, h.last) in
    let place : s.offset + (base + (at + j) - s.address) ≡ from + j = omega (arith, h.start, h.first) in
    patched-inside memory at (slice_of file from len) j fits (omega arith)
    ∙ get_or-take (from + len - from) (drop from file) j 0 (omega arith)
    ∙ get_or-drop from file j 0
    ∙ ap (λ i. slice_index file i) (sym place)
    ∙ sym (byte_above-inside file s (base + (at + j)) (slice_index memory (at + j)) h.loaded (omega (arith, h.first)) (omega (arith, h.last)))

pub copied-byte : (file memory : List ℕ) (s : Segment) (base at from len : ℕ) → IsCopied file memory s base at from len → (k : ℕ) → k < length memory → slice_index (copied file memory at from len) k ≡ byte_above file s (base + k) (slice_index memory k)
copied-byte file memory s base at from len h k l =
    let size : length (slice_of file from len) ≡ len = length-slice_of file from len h.fits in
    let fits : at + length (slice_of file from len) ≤ length memory = omega (arith, h.last) in
    ⊎_elim
    (λ (b : k < at). patched-before memory at (slice_of file from len) k fits b ∙ sym (byte_above-outside file s (base + k) (slice_index memory k) (inl (omega (arith, h.first)))))
    (λ (b : at ≤ k). ⊎_elim
    (λ (u : k < at + len).
    let split : at + (k - at) ≡ k = omega arith in
    subst (λ i. slice_index (copied file memory at from len) i ≡ byte_above file s (base + i) (slice_index memory i)) split
    (copied-inside file memory s base at from len h (k - at) (omega arith)))
    (λ (u : at + len ≤ k).
    patched-after memory at (slice_of file from len) k fits (omega arith)
    ∙ sym (byte_above-outside file s (base + k) (slice_index memory k) (inr (omega (arith, h.last)))))
    (cases_lt k (at + len)))
    (cases_lt k at)
