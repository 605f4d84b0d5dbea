use Rattle.std.proofs.Common.{◌≡◌, take, false}
use Rattle.std.specs.List.{list_any}
use Rattle.guest_model.specs.Segment.{has_page}
use Rattle.elf32_loader.proofs.segment_checks.touch_page.Given as goal

abbrev pub invariant-loop-segment : goal.invariant-loop-segment
invariant-loop-segment l = list_any (has_page l.page) (take l.segment-index l.segments) ≡ false
