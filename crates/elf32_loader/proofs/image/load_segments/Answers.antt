use Rattle.std.proofs.Common.{◌≡◌, ◌-◌, List, length, sym, ap, ◌∙◌, subst}
use Rattle.guest_model.specs.AreaMap.{areas_bytes, IsLayout}
use Rattle.guest_model.specs.ByteMap.{ByteMap, mapped}
use Rattle.guest_model.specs.Image.{initial_memory}
use Rattle.guest_model.specs.ImageFault.{stack_base, stack_end}
use Rattle.guest_model.specs.declared.areas.Area.{Area}
use Rattle.elf32_loader.specs.PageRanges.{file_byte, pages_bytes}
use Rattle.elf32_loader.proofs.OnSegments.{HasNoFault, HasNoFault-from, last_end-bound}
use Rattle.elf32_loader.proofs.OnInitialMemory.{pages_bytes-initial, stack-mapped, heap-mapped, entry-aligned, entry-mapped}
use Rattle.elf32_loader.proofs.OnImage.{image_with}
use Rattle.elf32_loader.proofs.image.load_segments.Goals as goal

pub heap_of-heap-requires : goal.heap_of-heap-requires
heap_of-heap-requires c = last_end-bound (length c.args.bytes.now) c.args.segments.now (HasNoFault-from (length c.args.bytes.now) c.args.entry c.args.segments.now c.requires).sizes

pub areas_of-requires-clause-segments : goal.areas_of-requires-clause-segments
areas_of-requires-clause-segments c = (HasNoFault-from (length c.args.bytes.now) c.args.entry c.args.segments.now c.requires).sizes

pub invariant_of-result : goal.invariant_of-result
invariant_of-result c =
    let bs = c.args.bytes.now in
    let hs = c.args.segments.now in
    let h = c.heap_of-heap.result in
    let none : HasNoFault (length bs) c.args.entry hs = HasNoFault-from (length bs) c.args.entry hs c.requires in
    let m : areas_bytes c.from_vec.result ≡ initial_memory bs hs h =
    ap areas_bytes c.from_vec.ensures
    ∙ c.in_ok-areas.ensures.bytes
    ∙ ap (pages_bytes (file_byte bs hs)) c.as_slice.ensures.value
    ∙ pages_bytes-initial bs hs h c.in_ok-ranges.ranges.items c.in_ok-ranges.ensures.pages in
    record {
      layout = subst (λ (xs : List Area). IsLayout xs) (sym c.from_vec.ensures) c.in_ok-areas.ensures.layout;
      stack_is_mapped = ap (λ (x : ByteMap). mapped x stack_base (stack_end - stack_base)) m ∙ stack-mapped bs hs h;
      heap_is_mapped = ap (λ (x : ByteMap). mapped x h.start h.size) m ∙ heap-mapped bs hs h c.heap_of-heap.ensures.pages;
      heap_is_aligned = c.heap_of-heap.ensures.pages.start;
      break_at_start = c.heap_of-heap.ensures.start;
      entry_is_aligned = entry-aligned hs c.args.entry none.entry;
      entry_is_mapped = ap (λ (x : ByteMap). mapped x c.args.entry 4) m ∙ entry-mapped bs hs h c.args.entry c.ranges.entry.fits none.entry;
    }

pub returns : goal.returns
returns c =
    let bs = c.args.bytes.now in
    let hs = c.args.segments.now in
    let h = c.heap_of-heap.result in
    let m : areas_bytes c.from_vec.result ≡ initial_memory bs hs h =
    ap areas_bytes c.from_vec.ensures
    ∙ c.in_ok-areas.ensures.bytes
    ∙ ap (pages_bytes (file_byte bs hs)) c.as_slice.ensures.value
    ∙ pages_bytes-initial bs hs h c.in_ok-ranges.ranges.items c.in_ok-ranges.ensures.pages in
    ap (λ x. image_with c.args.entry x h) m
    ∙ ap (λ x. image_with c.args.entry (initial_memory bs hs x) x) c.heap_of-heap.ensures.value
