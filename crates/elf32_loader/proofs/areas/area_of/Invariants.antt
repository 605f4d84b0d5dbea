use Rattle.std.proofs.Common.{◌≡◌, ℕ, ◌+◌, ◌<◌, length, get_or, drop}
use Rattle.elf32_loader.specs.PageRanges.{file_byte}
use Rattle.elf32_loader.proofs.areas.area_of.Given as goal

abbrev pub invariant-loop-i : goal.invariant-loop-i
invariant-loop-i l = record {
  size : length l.bytes ≡ l.len;
  bytes : (k : ℕ) → k < length l.bytes → get_or l.bytes k 0 ≡ file_byte l.file (drop l.i l.segments) (l.base + k);
}
