-- The words of the generated program, region by region
use Rattle.std.proofs.Common.{◌≡◌, ℕ, zero, suc, ◌+◌, ◌*◌, ◌<◌, ◌≤◌, true, false, List, [], ◌∷◌, ◌++◌, length, map, refl, sym, ap, ◌∙◌, arith, append-nil, append_assoc, add-zero, zero-add, length-append, get_or, ◌^◌, subst, Result}
use Rattle.std.specs.Prelude.{◌==◌, if◌then◌else◌, pos, IfOk, IsOkAnd}
use Rattle.std.specs.List.{flat_map, range_with_len}
use Rattle.std.proofs.lemmas.List.{map-append, length-map}
use Rattle.std.proofs.lemmas.List.Concat.{flat_map-append}
use Rattle.std.specs.Int.{w32, to_le_bytes}
use Rattle.guest_model.specs.Image.{image}
use Rattle.guest_model.specs.declared.instr.Instr.{Instr}
use Rattle.rv32_asm.specs.Encoding.{encoding}
use Rattle.rv32_asm.specs.Generated.{kind, turns, opening, original, endless, shortcut, closing, region, all_regions, prologue, epilogue, words_around, generated_words, zeros, generated}
use Rattle.rv32_asm.specs.SmallImage.{word_bytes, headers, size_of, small_image, Holds}
use Rattle.rv32_asm.proofs.Loads.{small_image_holds}

flat_map-range_more : (f : ℕ → List Instr) (s n : ℕ) → flat_map f (range_with_len s (suc n)) ≡ flat_map f (range_with_len s n) ++ f (s + n)
flat_map-range_more f s zero = append-nil (f s) ∙ ap f (sym (add-zero s))
flat_map-range_more f s (suc n) =
    let at : s + 1 + n ≡ s + suc n = omega arith in
    ap (λ xs. f s ++ xs) (flat_map-range_more f (s + 1) n)
    ∙ sym (append_assoc (f s) (flat_map f (range_with_len (s + 1) n)) (f (s + 1 + n)))
    ∙ ap (λ k. (f s ++ flat_map f (range_with_len (s + 1) n)) ++ f k) at

length-region : (number i : ℕ) → length (region number i) ≤ 23
length-region number i =
    let r : ℕ = turns number i in
    let k : ℕ = kind number i in
    elim (k == 3) as (λ b. length (opening ++ (if b then original r (pos 8) ++ endless else original r (pos 20) ++ shortcut (if k == 2 then 3 * r + 1 else 3 * r)) ++ closing) ≤ 23)
    [ true ↦ omega arith | false ↦ omega arith ]

-- what the loop over the regions keeps
pub record HasRegions (number n : ℕ) (words : List ℕ) : Type 0 where
  pub code : words ≡ map encoding (all_regions number n)
  pub short : length words ≤ 23 * n

pub no_regions : (number : ℕ) → HasRegions number 0 []
unfolding all_regions
no_regions number = record { code = refl; short = omega arith }

pub more_regions : (number n : ℕ) (old new : List ℕ) → HasRegions number n old → new ≡ old ++ map encoding (region number n) → HasRegions number (n + 1) new
unfolding all_regions
more_regions number n old new h is =
    let next : n + 1 ≡ suc n = omega arith in
    let more : all_regions number (n + 1) ≡ all_regions number n ++ region number n = ap (all_regions number) next ∙ flat_map-range_more (region number) 0 n ∙ ap (λ k. all_regions number n ++ region number k) (zero-add n) in
    record {
      code =
          is
          ∙ ap (λ ws. ws ++ map encoding (region number n)) h.code
          ∙ sym (map-append encoding (all_regions number n) (region number n))
          ∙ sym (ap (map encoding) more);
      short = omega (arith, ap length is, length-append old (map encoding (region number n)), length-map (region number n) encoding, length-region number n, h.short);
    }

-- an image that is written piece by piece
in_pieces : (n : ℕ) (ps ms es zs b0 b1 b2 b3 b4 : List ℕ) → n ≡ size_of (ps ++ ms ++ es) zs → b0 ≡ headers n
    → b1 ≡ b0 ++ word_bytes ps → b2 ≡ b1 ++ word_bytes ms → b3 ≡ b2 ++ word_bytes es → b4 ≡ b3 ++ zs → b4 ≡ small_image (ps ++ ms ++ es) zs
unfolding small_image
in_pieces n ps ms es zs b0 b1 b2 b3 b4 is_n is_0 is_1 is_2 is_3 is_4 =
    let h : List ℕ = headers (size_of (ps ++ ms ++ es) zs) in
    let le : ℕ → List ℕ = to_le_bytes w32 in
    let joined : word_bytes (ps ++ ms ++ es) ≡ (word_bytes ps ++ word_bytes ms) ++ word_bytes es =
    flat_map-append le (ps ++ ms) es ∙ ap (λ bs. bs ++ word_bytes es) (flat_map-append le ps ms) in
    let written : b3 ≡ ((h ++ word_bytes ps) ++ word_bytes ms) ++ word_bytes es =
    is_3 ∙ ap (λ b. b ++ word_bytes es) (is_2 ∙ ap (λ b. b ++ word_bytes ms) (is_1 ∙ ap (λ b. b ++ word_bytes ps) (is_0 ∙ ap headers is_n))) in
    let grouped : ((h ++ word_bytes ps) ++ word_bytes ms) ++ word_bytes es ≡ h ++ ((word_bytes ps ++ word_bytes ms) ++ word_bytes es) =
    ap (λ b. b ++ word_bytes es) (append_assoc h (word_bytes ps) (word_bytes ms)) ∙ append_assoc h (word_bytes ps ++ word_bytes ms) (word_bytes es) in
    is_4 ∙ ap (λ b. b ++ zs) (written ∙ grouped ∙ sym (ap (λ b. h ++ b) joined))

-- prologue and epilogue round the words of all regions
pub record HasPieces (n : ℕ) (ps words es : List ℕ) : Type 0 where
  pub front : ps ≡ map encoding (prologue (0x10000 + n))
  pub back : es ≡ map encoding epilogue
  pub count : n ≡ 4 * (6 + length words)

size_is : (n : ℕ) (ps words es : List ℕ) → HasPieces n ps words es → n + 4 ≡ size_of (ps ++ words ++ es) zeros
size_is n ps words es h = omega (arith, length-append (ps ++ words) es, length-append ps words, ap length h.front, ap length h.back, h.count)

words_are : (n : ℕ) (ps words es : List ℕ) → HasPieces n ps words es → ps ++ words ++ es ≡ words_around words
unfolding words_around
words_are n ps words es h =
    ap (λ xs. xs ++ words ++ es) (h.front ∙ ap (λ m. map encoding (prologue (0x10000 + m))) h.count)
    ∙ ap (λ xs. map encoding (prologue (0x10000 + 4 * (6 + length words))) ++ words ++ xs) h.back

pub around_is : (n : ℕ) (ps words es b0 b1 b2 b3 b4 : List ℕ) → HasPieces n ps words es
    → b0 ≡ headers (n + 4) → b1 ≡ b0 ++ word_bytes ps → b2 ≡ b1 ++ word_bytes words → b3 ≡ b2 ++ word_bytes es → b4 ≡ b3 ++ zeros
    → b4 ≡ small_image (words_around words) zeros
around_is n ps words es b0 b1 b2 b3 b4 h is_0 is_1 is_2 is_3 is_4 =
    in_pieces (n + 4) ps words es zeros b0 b1 b2 b3 b4 (size_is n ps words es h) is_0 is_1 is_2 is_3 is_4
    ∙ ap (λ ws. small_image ws zeros) (words_are n ps words es h)

-- ---- the image loads

fits_append : (xs ys : List ℕ) → ((k : ℕ) → get_or xs k 0 < 2 ^ 32) → ((k : ℕ) → get_or ys k 0 < 2 ^ 32) → (k : ℕ) → get_or (xs ++ ys) k 0 < 2 ^ 32
fits_append [] ys fx fy k = fy k
fits_append (x ∷ xs) ys fx fy zero = fx 0
fits_append (x ∷ xs) ys fx fy (suc k) = fits_append xs ys (λ i. fx (suc i)) fy k

pub around_loads : (n : ℕ) (ps words es file : List ℕ) → HasPieces n ps words es → file ≡ small_image (words_around words) zeros
    → ((k : ℕ) → get_or ps k 0 < 2 ^ 32) → ((k : ℕ) → get_or words k 0 < 2 ^ 32) → ((k : ℕ) → get_or es k 0 < 2 ^ 32) → n ≤ 1000000
    → IsOkAnd (image file) (Holds (words_around words) zeros)
around_loads n ps words es file h is fit_p fit_w fit_e small =
    let fits : (k : ℕ) → get_or (ps ++ words ++ es) k 0 < 2 ^ 32 = fits_append (ps ++ words) es (fits_append ps words fit_p fit_w) fit_e in
    let size : n + 4 ≡ size_of (ps ++ words ++ es) zeros = size_is n ps words es h in
    let P : List ℕ → Type 0 = λ ws. IsOkAnd (image (small_image ws zeros)) (Holds ws zeros) in
    let Q : List ℕ → Type 0 = λ b. IsOkAnd (image b) (Holds (words_around words) zeros) in
    subst Q (sym is) (subst P (words_are n ps words es h) (small_image_holds (ps ++ words ++ es) zeros fits (omega arith) (omega arith)))

-- the same, where the words of all regions are known
pub generated_is : {E : Type 0} (number regions : ℕ) (words : List ℕ) (r : Result (List ℕ) E) → words ≡ map encoding (all_regions number regions)
    → IfOk r (λ b. b ≡ small_image (words_around words) zeros) → IfOk r (λ b. b ≡ generated number regions)
generated_is number regions words r e h = let P : List ℕ → Type 0 = λ ws. IfOk r (λ b. b ≡ small_image (words_around ws) zeros) in subst P e h

pub generated_loads : {E : Type 0} (number regions : ℕ) (words : List ℕ) (r : Result (List ℕ) E) → words ≡ map encoding (all_regions number regions)
    → IfOk r (λ b. IsOkAnd (image b) (Holds (words_around words) zeros)) → IfOk r (λ b. IsOkAnd (image b) (Holds (generated_words number regions) zeros))
generated_loads number regions words r e h =
    let P : List ℕ → Type 0 = λ ws. IfOk r (λ b. IsOkAnd (image b) (Holds (words_around ws) zeros)) in subst P e h
