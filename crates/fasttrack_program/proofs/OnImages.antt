-- The program of every image starts in a guest state
use Rattle.std.proofs.Common.{◌≡◌, ℕ, ◌+◌, ◌*◌, ◌/◌, ◌^◌, ◌<◌, ◌≤◌, Bool, true, false, ◌&&◌, ◌||◌, List, [], ◌∷◌, length, Option, Some, None, Ok, refl, sym, ap, ◌∙◌, arith}
use Rattle.std.specs.Prelude.{nat_le, nat_lt, ◌==◌, if◌then◌else◌}
use Rattle.std.specs.List.{All, list_any}
use Rattle.std.proofs.lemmas.Bool.{and_parts}
use Rattle.std.proofs.lemmas.Bool.Decides.{nat_tests}
use Rattle.std.proofs.lemmas.List.Elements.{All-head, All-tail}
use Rattle.guest_model.specs.Difference.{or_else, first_some}
use Rattle.guest_model.specs.Image.{Image, image, image_of, image_unless, start_of, last_end, page_up, heap_from, heap_of, is_mapped_page}
use Rattle.guest_model.specs.ImageFault.{Fault, header_fault, segment_fault, first_fault, is_bad, stack_base, stack_end}
use Rattle.guest_model.specs.Segment.{Segment, segments, e_entry, has_bytes, has_page, last_page, end_of, is_load}
use Rattle.guest_model.specs.declared.state.Heap.{Heap}
use Rattle.rv32_law.specs.GuestStates.{IsGuestState}
use Rattle.rv32_law.proofs.Starts.{image-is-guest}
use Rattle.elf32_loader.proofs.OnSegments.{HasNoFault, HasNoFault-from, IsSound-from, last_end-bound}

and-false : (a b : Bool) → b ≡ false → (a && b) ≡ false
and-false true b h = h
and-false false b h = refl

or-false : (a b : Bool) → a ≡ false → b ≡ false → (a || b) ≡ false
or-false a b h k = rw (h, k) refl

-- ---- no page is mapped from 2 ^ 20 on

page-low : (n p : ℕ) (s : Segment) (b : Bool) → has_bytes s ≡ b → is_bad n s ≡ false → 2 ^ 20 ≤ p → has_page p s ≡ false
page-low n p s false e h l = rw e refl
page-low n p s true e h l =
    let end : end_of s ≤ 2 ^ 32 = (IsSound-from n s h (and_parts (is_load s) (nat_lt 0 s.memory_size) e).0).memory in
    let below : last_page s < p = omega arith in
    let past : nat_le p (last_page s) ≡ false = grind (arith, nat_tests) in
    and-false (has_bytes s) _ (and-false _ (nat_le p (last_page s)) past)

pages-low : (n p : ℕ) (hs : List Segment) → All (λ s. is_bad n s ≡ false) hs → 2 ^ 20 ≤ p → list_any (has_page p) hs ≡ false
pages-low n p [] h l = refl
pages-low n p (s ∷ hs) h l =
    or-false (has_page p s) (list_any (has_page p) hs) (page-low n p s (has_bytes s) refl (All-head (λ x. is_bad n x ≡ false) s hs h) l) (pages-low n p hs (All-tail (λ x. is_bad n x ≡ false) s hs h) l)

heap_from-end : (start : ℕ) (b : Bool) → nat_le start stack_base ≡ b → start ≤ 2 ^ 32 → (heap_from start).start + (heap_from start).size ≤ 2 ^ 32
heap_from-end start b e h = grind (arith, nat_tests)

heap-end_by : (end : ℕ) (b : Bool) → end ≤ 2 ^ 32 → let h : Heap = if b then record { start = 0; size = 0; brk = 0 } else heap_from (page_up end) in h.start + h.size ≤ 2 ^ 32
heap-end_by end true h = omega arith
heap-end_by end false h = heap_from-end (page_up end) (nat_le (page_up end) stack_base) refl (omega arith)

heap-end : (hs : List Segment) → last_end hs ≤ 2 ^ 32 → (heap_of hs).start + (heap_of hs).size ≤ 2 ^ 32
heap-end hs h = heap-end_by (last_end hs) (last_end hs == 0 || page_up (last_end hs) == 2 ^ 32) h

mapped-low : (n p : ℕ) (hs : List Segment) (h : Heap) → All (λ s. is_bad n s ≡ false) hs → h.start + h.size ≤ 2 ^ 32 → 2 ^ 20 ≤ p → is_mapped_page hs h p ≡ false
mapped-low n p hs h sizes end l =
    let stack : nat_lt (p * 4096) stack_end ≡ false = grind (arith, nat_tests) in
    let heap : nat_lt (p * 4096) (h.start + h.size) ≡ false = grind (arith, nat_tests) in
    or-false _ _ (or-false _ _ (pages-low n p hs sizes l) (and-false _ _ stack)) (and-false _ _ heap)

-- ---- files without a fault

or_else-first : {A : Type 0} (o p : Option A) → or_else o p ≡ None → o ≡ None
or_else-first None p h = refl
or_else-first (Some x) p h = absurd (cc)

segment_fault-none : (header segment : Option Fault) → first_some (header ∷ segment ∷ []) ≡ None → segment ≡ None
segment_fault-none None segment h = or_else-first segment None h
segment_fault-none (Some f) segment h = absurd (cc)

unfaulted-low : (bs : List ℕ) → first_fault bs ≡ None → (q : ℕ) → 2 ^ 32 ≤ q → (image_of bs (segments bs)).memory q ≡ None
unfolding first_fault
unfaulted-low bs h q l =
    let sound : HasNoFault (length bs) (e_entry bs) (segments bs) = HasNoFault-from (length bs) (e_entry bs) (segments bs) (segment_fault-none (header_fault bs) (segment_fault bs) h) in
    let end = heap-end (segments bs) (last_end-bound (length bs) (segments bs) sound.sizes) in
    let high : 2 ^ 20 ≤ q / 4096 = omega arith in
    let none : is_mapped_page (segments bs) (heap_of (segments bs)) (q / 4096) ≡ false = mapped-low (length bs) (q / 4096) (segments bs) (heap_of (segments bs)) sound.sizes end high in
    rw none refl

image-low_by : (bs : List ℕ) (o : Option Fault) (i : Image) → first_fault bs ≡ o → image_unless o bs ≡ Ok i → (q : ℕ) → 2 ^ 32 ≤ q → i.memory q ≡ None
image-low_by bs (Some f) i h e q l = absurd (cc)
image-low_by bs None i h e q l =
    let same : image_of bs (segments bs) ≡ i = cc in
    ap (λ (x : Image). x.memory q) (sym same) ∙ unfaulted-low bs h q l

-- no byte from 2 ^ 32 on
image-low : (bs : List ℕ) (i : Image) → image bs ≡ Ok i → (q : ℕ) → 2 ^ 32 ≤ q → i.memory q ≡ None
unfolding image
image-low bs i h = image-low_by bs (first_fault bs) i refl h

pub image-guest : (input bs : List ℕ) (i : Image) → image bs ≡ Ok i → IsGuestState input (start_of i)
image-guest input bs i h = image-is-guest input i (image-low bs i h)
