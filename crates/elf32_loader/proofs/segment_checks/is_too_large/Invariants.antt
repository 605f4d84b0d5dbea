use Rattle.std.proofs.Common.{◌≡◌, ◌*◌, ◌^◌, ◌≤◌, take}
use Rattle.std.specs.List.{sum_by}
use Rattle.guest_model.specs.Segment.{page_count}
use Rattle.elf32_loader.proofs.segment_checks.is_too_large.Given as goal

abbrev pub invariant-loop-segment : goal.invariant-loop-segment
invariant-loop-segment l = record {
  sum : l.pages ≡ sum_by page_count (take l.segment-index l.segments);
  bound : l.pages ≤ l.segment-index * 2 ^ 21;
}
