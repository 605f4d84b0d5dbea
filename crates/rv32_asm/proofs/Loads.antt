-- A small image that isn't empty loads, and puts its words and its placed bytes into memory
use Rattle.std.proofs.Common.{◌≡◌, ℕ, Result, add-zero, append_assoc, ◌+◌, ◌-◌, ◌*◌, ◌<◌, ◌≤◌, ◌^◌, Bool, true, false, List, [], ◌∷◌, ◌++◌, length, get_or, Option, Some, None, Ok, Err, arith, refl, sym, ap, ◌∙◌, subst, length-append}
use Rattle.std.specs.Prelude.{◌/◌, ◌%◌, ◌||◌, ◌&&◌, not, if◌then◌else◌, nat_lt, nat_le, cond, IfOk, IsOkAnd, option_map}
use Rattle.std.specs.Int.{w32, to_le_bytes, from_le_bytes}
use Rattle.std.specs.List.{find}
use Rattle.std.proofs.lemmas.Bool.Decides.{nat_tests}
use Rattle.std.proofs.lemmas.Bool.{le-leb}
use Rattle.std.proofs.lemmas.Grind.{common_steps}
use Rattle.std.proofs.lemmas.List.{get_or-append-add}
use Rattle.std.proofs.lemmas.Nat.{from_le_bytes-to_le_bytes_4}
use Rattle.guest_model.specs.ByteMap.{ByteMap, load, mapped, bytes_from}
use Rattle.guest_model.specs.Difference.{least, first_some}
use Rattle.guest_model.specs.Segment.{Segment, segments, e_entry, has_page, has_file_byte}
use Rattle.guest_model.specs.ImageFault.{stack_base, stack_end, Fault, Short, Magic, Class, ByteOrder, Version, Kind, Machine, Headers, BadSegment, StackOverlap, TooLarge, Entry, is_bad, overlaps_stack, is_too_large, is_entry, fault_if, header_fault, segment_fault, segment_faults, first_fault}
use Rattle.guest_model.specs.Image.{Image, byte_from, image, image_unless, image_of, initial_memory, heap_of}
use Rattle.guest_model.specs.declared.state.Heap.{Heap}
use Rattle.rv32_asm.specs.SmallImage.{word_bytes, headers, size_of, small_image, Holds}
use Rattle.rv32_asm.proofs.WordBytes.{length-word_bytes, get_or-word_bytes, get_or-placed}

-- the one segment
one_segment : ℕ → Segment
one_segment n = record { kind = 1; offset = 84; address = 0x10000; file_size = n; memory_size = n }

header_tests : Bool → Bool → Option Fault
header_tests short bad = first_some
    (fault_if short Short ∷ fault_if false Magic ∷ fault_if false Class ∷ fault_if false ByteOrder
    ∷ fault_if false Version ∷ fault_if false Kind ∷ fault_if false Machine ∷ fault_if bad Headers ∷ [])

length-file : (n : ℕ) (cs : List ℕ) → length (headers n ++ cs) ≡ 84 + length cs
unfolding headers
length-file n cs = omega arith

not_below : (a b : ℕ) → b ≤ a → nat_lt a b ≡ false
not_below a b h = grind (arith, nat_tests)

-- the header has no fault, whatever stands behind both headers
no_header_fault : (n : ℕ) (cs : List ℕ) → header_fault (headers n ++ cs) ≡ None
unfolding headers header_tests
no_header_fault n cs =
    let file : List ℕ = headers n ++ cs in
    let is_header : header_fault file ≡ header_tests (nat_lt (length file) 52) (nat_lt (length file) 84) = refl in
    let long : length file ≡ 84 + length cs = length-file n cs in
    let short : nat_lt (length file) 52 ≡ false = not_below (length file) 52 (omega arith) in
    let bad : nat_lt (length file) 84 ≡ false = not_below (length file) 84 (omega arith) in
    is_header ∙ ap (λ b. header_tests b (nat_lt (length file) 84)) short ∙ ap (header_tests false) bad

-- the table has the one segment
segments_are : (n : ℕ) (cs : List ℕ) → n < 2 ^ 32 → segments (headers n ++ cs) ≡ one_segment n ∷ []
unfolding headers one_segment
segments_are n cs b =
    let size : n % 256 + n / 256 % 256 * 2 ^ 8 + (n / 65536 % 256 + n / 16777216 % 256 * 2 ^ 8) * 2 ^ 16 ≡ n = omega arith in
    ap (λ m. record { kind = 1; offset = 84; address = 0x10000; file_size = m; memory_size = m } ∷ []) size

segment_tests : Bool → Bool → Bool → Bool → Option Fault
segment_tests bad stack large entry = first_some
    (None ∷ option_map BadSegment (if bad then Some 0 else None) ∷ None ∷ option_map StackOverlap (if stack then Some 0 else None)
    ∷ fault_if large TooLarge ∷ fault_if (not entry) Entry ∷ [])

segment_tests_are : (len n : ℕ) → first_some (segment_faults len 0x10000 (one_segment n ∷ []))
    ≡ segment_tests (is_bad len (one_segment n)) (overlaps_stack (one_segment n)) (is_too_large (one_segment n ∷ [])) (is_entry (one_segment n ∷ []) 0x10000)
unfolding one_segment segment_tests least
segment_tests_are len n = refl

is_good : (n : ℕ) → n ≤ 16777216 → is_bad (84 + n) (one_segment n) ≡ false
unfolding one_segment
is_good n h = grind (arith, nat_tests)

is_below_stack : (n : ℕ) → n ≤ 16777216 → overlaps_stack (one_segment n) ≡ false
unfolding one_segment
is_below_stack n h = grind (arith, nat_tests)

is_small : (n : ℕ) → n ≤ 16777216 → is_too_large (one_segment n ∷ []) ≡ false
unfolding one_segment
is_small n h = grind (arith, nat_tests)

has_entry : (n : ℕ) → 0 < n → is_entry (one_segment n ∷ []) 0x10000 ≡ true
unfolding one_segment
has_entry n h = grind (arith, nat_tests)

has_no_entry : is_entry (one_segment 0 ∷ []) 0x10000 ≡ false
unfolding one_segment
has_no_entry = refl

-- ---- the first fault

segment_fault_is : (n : ℕ) (cs : List ℕ) → length cs ≡ n → n ≤ 16777216
    → segment_fault (headers n ++ cs) ≡ segment_tests false false false (is_entry (one_segment n ∷ []) 0x10000)
unfolding headers
segment_fault_is n cs e h =
    let file : List ℕ = headers n ++ cs in
    let entry : Bool = is_entry (one_segment n ∷ []) 0x10000 in
    let len : length file ≡ 84 + n = length-file n cs ∙ ap (λ m. 84 + m) e in
    ap (λ hs. first_some (segment_faults (length file) 0x10000 hs)) (segments_are n cs (omega arith))
    ∙ ap (λ m. first_some (segment_faults m 0x10000 (one_segment n ∷ []))) len
    ∙ segment_tests_are (84 + n) n
    ∙ ap (λ b. segment_tests b (overlaps_stack (one_segment n)) (is_too_large (one_segment n ∷ [])) entry) (is_good n h)
    ∙ ap (λ b. segment_tests false b (is_too_large (one_segment n ∷ [])) entry) (is_below_stack n h)
    ∙ ap (λ b. segment_tests false false b entry) (is_small n h)

fault_is : (n : ℕ) (cs : List ℕ) → length cs ≡ n → n ≤ 16777216
    → first_fault (headers n ++ cs) ≡ first_some (None ∷ segment_tests false false false (is_entry (one_segment n ∷ []) 0x10000) ∷ [])
unfolding first_fault
fault_is n cs e h =
    ap (λ f. first_some (f ∷ segment_fault (headers n ++ cs) ∷ [])) (no_header_fault n cs)
    ∙ ap (λ f. first_some (None ∷ f ∷ [])) (segment_fault_is n cs e h)

file_loads : (n : ℕ) (cs : List ℕ) → length cs ≡ n → n ≤ 16777216 → 0 < n
    → image (headers n ++ cs) ≡ Ok (image_of (headers n ++ cs) (one_segment n ∷ []))
unfolding image segment_tests
file_loads n cs e h l =
    let file : List ℕ = headers n ++ cs in
    let none : first_fault file ≡ None = fault_is n cs e h ∙ ap (λ b. first_some (None ∷ segment_tests false false false b ∷ [])) (has_entry n l) in
    ap (λ f. image_unless f file) none ∙ ap (λ hs. Ok (image_of file hs)) (segments_are n cs (omega arith))

file_is_empty : image (headers 0 ++ []) ≡ Err Entry
unfolding image segment_tests
file_is_empty =
    let file : List ℕ = headers 0 ++ [] in
    let entry : first_fault file ≡ Some Entry = fault_is 0 [] refl (omega arith) ∙ ap (λ b. first_some (None ∷ segment_tests false false false b ∷ [])) has_no_entry in
    ap (λ f. image_unless f file) entry

-- ---- the memory

has_its_page : (n j : ℕ) → j < n → has_page ((0x10000 + j) / 4096) (one_segment n) ≡ true
unfolding one_segment
has_its_page n j h = grind (arith, nat_tests)

has_its_byte : (n j : ℕ) → j < n → has_file_byte (0x10000 + j) (one_segment n) ≡ true
unfolding one_segment
has_its_byte n j h = grind (arith, nat_tests)

behind_headers : (n : ℕ) (cs : List ℕ) (j : ℕ) → get_or (headers n ++ cs) (84 + j) 0 ≡ get_or cs j 0
unfolding headers
behind_headers n cs j = get_or-append-add (headers n) cs j 0

in_memory : (n j : ℕ) (cs : List ℕ) (heap : Heap) → j < n
    → initial_memory (headers n ++ cs) (one_segment n ∷ []) heap (0x10000 + j) ≡ Some (get_or cs j 0)
unfolding one_segment
in_memory n j cs heap h =
    let file : List ℕ = headers n ++ cs in
    let q : ℕ = 0x10000 + j in
    let behind : get_or file (84 + (q - 0x10000)) 0 ≡ get_or cs j 0 = ap (λ i. get_or file i 0) (omega arith) ∙ behind_headers n cs j in
    ap (λ b. if (b || false) || (nat_le stack_base (q / 4096 * 4096) && nat_lt (q / 4096 * 4096) stack_end)
    || (nat_le heap.start (q / 4096 * 4096) && nat_lt (q / 4096 * 4096) (heap.start + heap.size))
    then Some (byte_from file q (find (has_file_byte q) (one_segment n ∷ []))) else None) (has_its_page n j h)
    ∙ ap (λ b. Some (byte_from file q (cond b (Some (one_segment n)) None))) (has_its_byte n j h)
    ∙ ap Some behind

-- ---- words and placed bytes in memory

load_is : (m : ByteMap) (a b0 b1 b2 b3 : ℕ) → a + 4 ≤ 2 ^ 32 → m a ≡ Some b0 → m (a + 1) ≡ Some b1 → m (a + 2) ≡ Some b2 → m (a + 3) ≡ Some b3
    → load w32 m a ≡ Some (from_le_bytes w32 (b0 ∷ b1 ∷ b2 ∷ b3 ∷ []))
unfolding load mapped bytes_from
load_is m a b0 b1 b2 b3 h e0 e1 e2 e3 =
    let below : nat_le (a + 4) (2 ^ 32) ≡ true = le-leb (a + 4) (2 ^ 32) h in
    let at_0 : m (a + 0) ≡ Some b0 = ap m (add-zero a) ∙ e0 in
    grind (arith, common_steps, below)

-- the contents of a small image
contents : List ℕ → List ℕ → List ℕ
contents ws ps = word_bytes ws ++ ps

length-contents : (ws ps : List ℕ) → length (contents ws ps) ≡ size_of ws ps
unfolding contents
length-contents ws ps = omega (arith, length-word_bytes ws, length-append (word_bytes ws) ps)

small_image_is : (ws ps : List ℕ) → small_image ws ps ≡ headers (size_of ws ps) ++ contents ws ps
unfolding small_image contents
small_image_is ws ps = append_assoc (headers (size_of ws ps)) (word_bytes ws) ps

-- byte j of word k in memory
byte_of_word : (ws ps : List ℕ) (k j : ℕ) (heap : Heap) → k < length ws → j < 4
    → initial_memory (headers (size_of ws ps) ++ contents ws ps) (one_segment (size_of ws ps) ∷ []) heap (0x10000 + 4 * k + j)
    ≡ Some (get_or (to_le_bytes w32 (get_or ws k 0)) j 0)
unfolding contents
byte_of_word ws ps k j heap h b =
    let n : ℕ = size_of ws ps in
    let at : 0x10000 + 4 * k + j ≡ 0x10000 + (4 * k + j) = omega arith in
    ap (initial_memory (headers n ++ contents ws ps) (one_segment n ∷ []) heap) at
    ∙ in_memory n (4 * k + j) (contents ws ps) heap (omega arith)
    ∙ ap Some (get_or-word_bytes ws ps k j h b)

word_in_memory : (ws ps : List ℕ) (k : ℕ) (heap : Heap) → size_of ws ps ≤ 16777216 → k < length ws → get_or ws k 0 < 2 ^ 32
    → load w32 (initial_memory (headers (size_of ws ps) ++ contents ws ps) (one_segment (size_of ws ps) ∷ []) heap) (0x10000 + 4 * k)
    ≡ Some (get_or ws k 0)
word_in_memory ws ps k heap small h fits =
    let n : ℕ = size_of ws ps in
    let m : ByteMap = initial_memory (headers n ++ contents ws ps) (one_segment n ∷ []) heap in
    let w : ℕ = get_or ws k 0 in
    let at_0 : m (0x10000 + 4 * k) ≡ Some (get_or (to_le_bytes w32 w) 0 0) = ap m (sym (add-zero (0x10000 + 4 * k))) ∙ byte_of_word ws ps k 0 heap h (omega arith) in
    load_is m (0x10000 + 4 * k) (get_or (to_le_bytes w32 w) 0 0) (get_or (to_le_bytes w32 w) 1 0) (get_or (to_le_bytes w32 w) 2 0) (get_or (to_le_bytes w32 w) 3 0) (omega arith)
    at_0
    (byte_of_word ws ps k 1 heap h (omega arith))
    (byte_of_word ws ps k 2 heap h (omega arith))
    (byte_of_word ws ps k 3 heap h (omega arith))
    ∙ ap Some (from_le_bytes-to_le_bytes_4 w fits)

placed_in_memory : (ws ps : List ℕ) (k : ℕ) (heap : Heap) → k < length ps
    → initial_memory (headers (size_of ws ps) ++ contents ws ps) (one_segment (size_of ws ps) ∷ []) heap (0x10000 + 4 * length ws + k) ≡ Some (get_or ps k 0)
unfolding contents
placed_in_memory ws ps k heap h =
    let n : ℕ = size_of ws ps in
    let at : 0x10000 + 4 * length ws + k ≡ 0x10000 + (4 * length ws + k) = omega arith in
    ap (initial_memory (headers n ++ contents ws ps) (one_segment n ∷ []) heap) at
    ∙ in_memory n (4 * length ws + k) (contents ws ps) heap (omega arith)
    ∙ ap Some (get_or-placed ws ps k)

entry_is : (n : ℕ) (cs : List ℕ) → e_entry (headers n ++ cs) ≡ 0x10000
unfolding headers
entry_is n cs = refl

-- a small image that isn't empty has no fault and holds its words and placed bytes
pub small_image_holds : (ws ps : List ℕ) → ((k : ℕ) → get_or ws k 0 < 2 ^ 32) → size_of ws ps ≤ 16777216 → 0 < size_of ws ps
    → IsOkAnd (image (small_image ws ps)) (Holds ws ps)
small_image_holds ws ps fits small some =
    let n : ℕ = size_of ws ps in
    let file : List ℕ = headers n ++ contents ws ps in
    let loads : image (small_image ws ps) ≡ Ok (image_of file (one_segment n ∷ [])) =
    ap image (small_image_is ws ps) ∙ file_loads n (contents ws ps) (length-contents ws ps) small some in
    let holds : Holds ws ps (image_of file (one_segment n ∷ [])) = record {
      entry = entry_is n (contents ws ps);
      words_at = λ k h. word_in_memory ws ps k (heap_of (one_segment n ∷ [])) small h (fits k);
      placed_at = λ k h. placed_in_memory ws ps k (heap_of (one_segment n ∷ [])) h;
    } in
    let P : Result Image Fault → Type 0 = λ r. IsOkAnd r (Holds ws ps) in
    subst P (sym loads) holds

-- one that is empty has no page for its entry
pub small_image_empty : image (small_image [] []) ≡ Err Entry
unfolding contents
small_image_empty = ap image (small_image_is [] []) ∙ file_is_empty

-- what holds of the one value of a success
pub if_ok_at : {E : Type 0} (r : Result (List ℕ) E) (x : List ℕ) (P : List ℕ → Type 0) → IfOk r (λ b. b ≡ x) → P x → IfOk r P
if_ok_at (Ok b) x P e p = subst P (sym e) p
if_ok_at (Err f) x P e p = tt

pub words_hold : (ws : List ℕ) → ((k : ℕ) → get_or ws k 0 < 2 ^ 32) → 4 * length ws ≤ 16777216 → 0 < length ws
    → IsOkAnd (image (small_image ws [])) (Holds ws [])
words_hold ws fits small some = small_image_holds ws [] fits (omega arith) (omega arith)

pub no_words_hold : (ws : List ℕ) → length ws ≡ 0 → image (small_image ws []) ≡ Err Entry
no_words_hold [] e = small_image_empty
no_words_hold (w ∷ ws) e = absurd (omega arith)
