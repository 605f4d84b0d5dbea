use Rattle.std.proofs.Common.{◌≡◌, ℕ, ◌<◌, length, get_or}
use Rattle.guest_model.specs.declared.areas.Area.{Area}
use Rattle.elf32_loader.specs.PageRanges.{IsAreaOf, file_byte}
use Rattle.elf32_loader.specs.declared.page_range.PageRange.{PageRange}
use Rattle.elf32_loader.proofs.areas.areas_of.Given as goal

abbrev pub invariant-loop-range : goal.invariant-loop-range
invariant-loop-range l = record {
  count : length l.areas.items ≡ l.range-index;
  each : (k : ℕ) (d : PageRange) (e : Area) → k < l.range-index → IsAreaOf (file_byte l.file l.segments) (get_or l.ranges k d) (get_or l.areas.items k e);
}
