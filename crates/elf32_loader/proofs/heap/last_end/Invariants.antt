use Rattle.std.proofs.Common.{◌≡◌, ◌^◌, ◌<◌, max, drop}
use Rattle.guest_model.specs.Image.{last_end}
use Rattle.elf32_loader.proofs.heap.last_end.Given as goal

abbrev pub invariant-loop-segment : goal.invariant-loop-segment
invariant-loop-segment l = record {
  rest : max l.last (last_end (drop l.segment-index l.segments)) ≡ last_end l.segments;
  bound : l.last < 2 ^ 33;
}
