-- The words of an assembly, one after another, and what its image holds
use Rattle.std.proofs.Common.{◌≡◌, ℕ, ◌+◌, ◌*◌, ◌<◌, ◌≤◌, ◌^◌, true, false, List, [], ◌∷◌, ◌++◌, length, get_or, map, Some, None, Ok, Err, Result, refl, sym, ap, ◌∙◌, subst, arith, append-nil, ⊎_elim, below_more}
use Rattle.std.specs.Prelude.{option_map, option_and_then, IfOk, OnOk, IsOkAnd}
use Rattle.std.specs.Int.{w32, to_le_bytes}
use Rattle.std.specs.List.{range_with_len}
use Rattle.std.proofs.lemmas.List.{flat_map_more}
use Rattle.std.proofs.lemmas.List.FromFn.{map-range_with_len_more, length-map-range_with_len, get_or-map-range_with_len}
use Rattle.std.proofs.lemmas.List.{get_or_past}
use Rattle.std.proofs.lemmas.Bool.{cases_lt}
use Rattle.guest_model.specs.Difference.{least, or_else}
use Rattle.guest_model.specs.Image.{Image, image}
use Rattle.guest_model.specs.ImageFault.{Fault, Entry}
use Rattle.guest_model.specs.InstructionTable.{instr}
use Rattle.guest_model.specs.declared.instr.Instr.{Instr}
use Rattle.rv32_asm.specs.Assembly.{Assembly, size}
use Rattle.rv32_asm.specs.Encoding.{encoding}
use Rattle.rv32_asm.specs.Resolved.{code_address, is_far, far_place, unbound_label, fault_of, instr_of, words, AllRead, Finishes, HoldsProgram}
use Rattle.rv32_asm.specs.SmallImage.{base, headers, word_bytes, size_of, small_image, Holds}
use Rattle.rv32_asm.specs.declared.fault.AsmFault.{AsmFault}
use Rattle.rv32_asm.specs.declared.fault.AsmFault.TheVariants as Faults
use Rattle.rv32_asm.proofs.Loads.{small_image_holds, small_image_empty}
use Rattle.rv32_asm.proofs.LeastPlaces.{least_more, least_at}

-- the words of the first n instructions
abbrev pub first_words : Assembly → ℕ → List ℕ
first_words a n = map (λ k. encoding (instr_of a k)) (range_with_len 0 n)

-- what the writing loop keeps: no instruction so far is out of reach of its label, their words were added, and the words
-- are read back
pub record HasWritten (a : Assembly) (n : ℕ) (start bytes : List ℕ) : Type 0 where
  pub reached : least (is_far a) n ≡ None
  pub written : bytes ≡ start ++ word_bytes (first_words a n)
  pub read : (k : ℕ) → k < n → (encoding (instr_of a k) < 2 ^ 32) × (instr (encoding (instr_of a k)) ≡ Some (instr_of a k))

pub none_written : (a : Assembly) (start : List ℕ) → HasWritten a 0 start start
unfolding least
none_written a start = record { reached = refl; written = sym (append-nil start); read = λ k h. absurd (omega arith) }

pub more_written : (a : Assembly) (n : ℕ) (i : Instr) (w : ℕ) (start old new le : List ℕ) → HasWritten a n start old
    → (is_far a n ≡ false) × (i ≡ instr_of a n) → w ≡ encoding i → w < 2 ^ 32 → instr w ≡ Some i → le ≡ to_le_bytes w32 w → new ≡ old ++ le
    → HasWritten a (n + 1) start new
more_written a n i w start old new le h near is_word small back is_le is_new =
    let f : ℕ → ℕ = λ k. encoding (instr_of a k) in
    let word_is : w ≡ f n = is_word ∙ ap encoding near.1 in
    let more : first_words a (n + 1) ≡ first_words a n ++ f n ∷ [] = map-range_with_len_more f 0 n n (omega arith) in
    let fits : f n < 2 ^ 32 = omega (arith, word_is) in
    let reads : instr (f n) ≡ Some (instr_of a n) = ap instr (sym word_is) ∙ back ∙ ap Some near.1 in
    let P : ℕ → Type 0 = λ k. (encoding (instr_of a k) < 2 ^ 32) × (instr (encoding (instr_of a k)) ≡ Some (instr_of a k)) in
    record {
      reached = least_more (is_far a) n h.reached near.0;
      written =
          is_new
          ∙ ap (λ bs. bs ++ le) h.written
          ∙ ap (λ bs. (start ++ word_bytes (first_words a n)) ++ bs) (is_le ∙ ap (to_le_bytes w32) word_is)
          ∙ flat_map_more (to_le_bytes w32) start (first_words a n) (f n)
          ∙ sym (ap (λ ws. start ++ word_bytes ws) more);
      read = below_more P n h.read (fits, reads);
    }

-- the loop's end
pub code_written : (a : Assembly) (n : ℕ) (start bytes : List ℕ) → HasWritten a n start bytes → n ≡ length a.items
    → ((far_place a ≡ None) × (bytes ≡ start ++ word_bytes (words a))) × AllRead a
code_written a n start bytes h all =
    let P : ℕ → Type 0 = λ m. ((least (is_far a) m ≡ None) × (bytes ≡ start ++ word_bytes (first_words a m)))
    × ((k : ℕ) → k < m → (encoding (instr_of a k) < 2 ^ 32) × (instr (encoding (instr_of a k)) ≡ Some (instr_of a k))) in
    subst P all ((h.reached, h.written), h.read)

-- the loop's early end
pub far_found : (a : Assembly) (n q : ℕ) (start bytes : List ℕ) → HasWritten a n start bytes → is_far a n ≡ true → n < length a.items → q ≡ code_address n
    → option_map code_address (far_place a) ≡ Some q
far_found a n q start bytes h far below is = ap (option_map code_address) (least_at (is_far a) n (length a.items) h.reached far below) ∙ ap Some (sym is)

length-words : (a : Assembly) → length (words a) ≡ length a.items
length-words a = length-map-range_with_len (λ k. encoding (instr_of a k)) 0 (length a.items)

get_or-words : (a : Assembly) (k : ℕ) → k < length a.items → get_or (words a) k 0 ≡ encoding (instr_of a k)
get_or-words a k h = get_or-map-range_with_len (λ n. encoding (instr_of a n)) 0 (length a.items) k k 0 h (omega arith)

size_of-words : (a : Assembly) → size_of (words a) a.placed ≡ size a
size_of-words a = omega (arith, length-words a)

-- all is written: headers, words, placed bytes
pub all_written : (a : Assembly) (n : ℕ) (b0 b1 b2 placed image : List ℕ) → unbound_label a ≡ None → n ≡ size a → b0 ≡ headers n
    → (far_place a ≡ None) × (b1 ≡ b0 ++ word_bytes (words a)) → b2 ≡ b1 ++ placed → placed ≡ a.placed → image ≡ b2
    → (fault_of a ≡ None) × (image ≡ small_image (words a) a.placed)
unfolding small_image
all_written a n b0 b1 b2 placed file bound is_n is_0 is_1 is_2 is_placed is = (
  ap (λ o. or_else (option_map Faults.Unbound o) (option_map (λ k. Faults.Far (code_address k)) (far_place a))) bound
      ∙ ap (λ o. option_map (λ k. Faults.Far (code_address k)) o) is_1.0,
  is
      ∙ is_2
      ∙ ap (λ bs. bs ++ placed) (is_1.1 ∙ ap (λ bs. bs ++ word_bytes (words a)) (is_0 ∙ ap headers (is_n ∙ sym (size_of-words a))))
      ∙ ap (λ bs. headers (size_of (words a) a.placed) ++ word_bytes (words a) ++ bs) is_placed,
)

-- ---- what the loader makes of it

holds_program : (a : Assembly) (i : Image) → AllRead a → Holds (words a) a.placed i → HoldsProgram a i
holds_program a i read h = record {
  entry = h.entry;
  instrs_at = λ k l.
      ap (option_and_then instr) (h.words_at k (omega (arith, length-words a)) ∙ ap Some (get_or-words a k l)) ∙ (read k l).1;
  placed_at = λ k l. ap (λ n. i.memory (base + 4 * n + k)) (sym (length-words a)) ∙ h.placed_at k l;
}

words_fit : (a : Assembly) → AllRead a → (k : ℕ) → get_or (words a) k 0 < 2 ^ 32
words_fit a read k = ⊎_elim
    (λ (l : k < length a.items). let small : encoding (instr_of a k) < 2 ^ 32 = (read k l).0 in omega (arith, get_or-words a k l))
    (λ (l : length a.items ≤ k). let past : get_or (words a) k 0 ≡ 0 = get_or_past (words a) k 0 (omega (arith, length-words a)) in omega (arith, past))
    (cases_lt k (length a.items))

program_loads : (a : Assembly) → AllRead a → size a ≤ 16777216 → 0 < size a → IsOkAnd (image (small_image (words a) a.placed)) (HoldsProgram a)
program_loads a read small some =
    okay (image (small_image (words a) a.placed)) (Holds (words a) a.placed) (HoldsProgram a) (λ i. holds_program a i read)
    (small_image_holds (words a) a.placed (words_fit a read) (omega (arith, size_of-words a)) (omega (arith, size_of-words a)))
  where
    okay : (r : Result Image Fault) (P Q : Image → Type 0) → ((i : Image) → P i → Q i) → IsOkAnd r P → IsOkAnd r Q
    okay (Ok i) P Q f p = f i p
    okay (Err e) P Q f p = absurd p

pub finished_loads : (a : Assembly) (r : Result (List ℕ) AsmFault) → Finishes a r → OnOk r (AllRead a) → OnOk r (size a ≤ 16777216)
    → IfOk r (λ b. 0 < size a → IsOkAnd (image b) (HoldsProgram a))
finished_loads a (Ok b) h read small = λ some.
    let P : List ℕ → Type 0 = λ bs. IsOkAnd (image bs) (HoldsProgram a) in
    subst P (sym h.1) (program_loads a read small some)
finished_loads a (Err e) h read small = tt

pub finished_empty : (a : Assembly) (r : Result (List ℕ) AsmFault) → Finishes a r → IfOk r (λ b. size a ≡ 0 → image b ≡ Err Entry)
finished_empty a (Ok b) h = λ none.
    let no_words : words a ≡ [] = nothing (words a) (omega (arith, length-words a)) in
    let no_bytes : a.placed ≡ [] = nothing a.placed (omega arith) in
    ap image (h.1 ∙ ap (λ ws. small_image ws a.placed) no_words ∙ ap (small_image []) no_bytes) ∙ small_image_empty
  where
    nothing : (xs : List ℕ) → length xs ≡ 0 → xs ≡ []
    nothing [] e = refl
    nothing (x ∷ xs) e = absurd (omega arith)
finished_empty a (Err e) h = tt
