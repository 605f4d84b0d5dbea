-- What is mapped when a program starts
use Rattle.std.proofs.Common.{◌≡◌, ℕ, ◌+◌, ◌-◌, ◌*◌, ◌/◌, ◌%◌, ◌^◌, ◌<◌, ◌≤◌, true, cond, ◌&&◌, ◌||◌, List, Some, None, is_some, ⊎_elim, ap, ◌∙◌, arith}
use Rattle.std.specs.Prelude.{nat_le, nat_lt, ◌==◌}
use Rattle.std.specs.List.{list_any}
use Rattle.std.proofs.Math.Path.{fun_ext}
use Rattle.std.proofs.lemmas.Bool.{and_parts, and_from, or_cases, or_left, or_right, leb-true, ltb-true, le-leb, lt-ltb, eqb-true}
use Rattle.guest_model.specs.ByteMap.{mapped}
use Rattle.guest_model.specs.Image.{is_mapped_page, initial_memory}
use Rattle.guest_model.specs.ImageFault.{is_entry, stack_base, stack_end}
use Rattle.guest_model.specs.Segment.{Segment, has_page}
use Rattle.guest_model.specs.declared.state.Heap.{Heap}
use Rattle.guest_model.proofs.OnByteMap.{mapped-all}
use Rattle.elf32_loader.specs.PageRanges.{has_range, HasWholePages, file_byte, pages_bytes}
use Rattle.elf32_loader.specs.declared.page_range.PageRange.{PageRange}

pub pages_bytes-initial : (bs : List ℕ) (hs : List Segment) (h : Heap) (rs : List PageRange) → ((p : ℕ) → has_range rs p ≡ is_mapped_page hs h p) → pages_bytes (file_byte bs hs) rs ≡ initial_memory bs hs h
pages_bytes-initial bs hs h rs e = fun_ext (λ q. ap (λ b. cond b (Some (file_byte bs hs q)) None) (e (q / 4096)))

-- a range of addresses in mapped pages
pub initial-mapped : (bs : List ℕ) (hs : List Segment) (h : Heap) (a n : ℕ) → a + n ≤ 2 ^ 32 → ((k : ℕ) → k < n → is_mapped_page hs h ((a + k) / 4096) ≡ true) → mapped (initial_memory bs hs h) a n ≡ true
initial-mapped bs hs h a n b e = mapped-all (initial_memory bs hs h) a n b (λ k l. ap (λ t. is_some (cond t (Some (file_byte bs hs (a + k))) None)) (e k l))

-- the three reasons for which a page is mapped
in_segments : (hs : List Segment) (h : Heap) (p : ℕ) → list_any (has_page p) hs ≡ true → is_mapped_page hs h p ≡ true
in_segments hs h p e = or_left _ _ (or_left _ _ e)

in_stack : (hs : List Segment) (h : Heap) (p : ℕ) → stack_base ≤ p * 4096 → p * 4096 < stack_end → is_mapped_page hs h p ≡ true
in_stack hs h p l u = or_left _ _ (or_right _ _ (and_from _ _ (le-leb stack_base (p * 4096) l) (lt-ltb (p * 4096) stack_end u)))

in_heap : (hs : List Segment) (h : Heap) (p : ℕ) → h.start ≤ p * 4096 → p * 4096 < h.start + h.size → is_mapped_page hs h p ≡ true
in_heap hs h p l u = or_right _ _ (and_from _ _ (le-leb h.start (p * 4096) l) (lt-ltb (p * 4096) (h.start + h.size) u))

pub stack-mapped : (bs : List ℕ) (hs : List Segment) (h : Heap) → mapped (initial_memory bs hs h) stack_base (stack_end - stack_base) ≡ true
stack-mapped bs hs h = initial-mapped bs hs h stack_base (stack_end - stack_base) (omega arith) (λ k l. in_stack hs h ((stack_base + k) / 4096) (omega arith) (omega arith))

pub heap-mapped : (bs : List ℕ) (hs : List Segment) (h : Heap) → HasWholePages h → mapped (initial_memory bs hs h) h.start h.size ≡ true
heap-mapped bs hs h w = initial-mapped bs hs h h.start h.size w.within (λ k l. in_heap hs h ((h.start + k) / 4096) (omega (arith, w.start)) (omega (arith, w.start, w.size)))

-- the entry is a word of a mapped page
entry-page : (hs : List Segment) (h : Heap) (a : ℕ) → (list_any (has_page (a / 4096)) hs || (nat_le stack_base a && nat_lt a stack_end)) ≡ true → is_mapped_page hs h (a / 4096) ≡ true
entry-page hs h a e = ⊎_elim
    (λ s. in_segments hs h (a / 4096) s)
    (λ s.
    let parts = and_parts (nat_le stack_base a) (nat_lt a stack_end) s in
    let l : stack_base ≤ a = leb-true stack_base a parts.0 in
    let u : a < stack_end = ltb-true a stack_end parts.1 in
    in_stack hs h (a / 4096) (omega arith) (omega arith))
    (or_cases (list_any (has_page (a / 4096)) hs) (nat_le stack_base a && nat_lt a stack_end) e)

pub entry-aligned : (hs : List Segment) (a : ℕ) → is_entry hs a ≡ true → a % 4 ≡ 0
entry-aligned hs a e = eqb-true (a % 4) 0 (and_parts (a % 4 == 0) (list_any (has_page (a / 4096)) hs || (nat_le stack_base a && nat_lt a stack_end)) e).0

pub entry-mapped : (bs : List ℕ) (hs : List Segment) (h : Heap) (a : ℕ) → a < 2 ^ 32 → is_entry hs a ≡ true → mapped (initial_memory bs hs h) a 4 ≡ true
entry-mapped bs hs h a r e =
    let aligned : a % 4 ≡ 0 = entry-aligned hs a e in
    let page : is_mapped_page hs h (a / 4096) ≡ true = entry-page hs h a (and_parts (a % 4 == 0) (list_any (has_page (a / 4096)) hs || (nat_le stack_base a && nat_lt a stack_end)) e).1 in
    initial-mapped bs hs h a 4 (omega arith) (λ k l. let same : (a + k) / 4096 ≡ a / 4096 = omega arith in ap (λ p. is_mapped_page hs h p) same ∙ page)
