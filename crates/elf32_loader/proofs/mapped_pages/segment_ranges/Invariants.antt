use Rattle.std.proofs.Common.{◌≡◌, ℕ, take}
use Rattle.std.specs.List.{All, list_any}
use Rattle.guest_model.specs.Segment.{has_page}
use Rattle.elf32_loader.specs.PageRanges.{has_range, IsPageRange}
use Rattle.elf32_loader.proofs.mapped_pages.segment_ranges.Given as goal

abbrev pub invariant-loop-segment : goal.invariant-loop-segment
invariant-loop-segment l = record {
  pages : (p : ℕ) → has_range l.ranges.items p ≡ list_any (has_page p) (take l.segment-index l.segments);
  ranges : All IsPageRange l.ranges.items;
}
