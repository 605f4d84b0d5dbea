use Rattle.std.proofs.Common.{◌≡◌, ℕ, ◌+◌, ◌*◌, ◌<◌, length, get_or}
use Rattle.guest_model.specs.Segment.{Segment, segment_at, e_phoff}
use Rattle.elf32_loader.proofs.table.read_segments.Given as goal

abbrev pub invariant-loop-i : goal.invariant-loop-i
invariant-loop-i l = record {
  size : length l.table ≡ 64;
  read : (k : ℕ) (d : Segment) → k < l.i → get_or l.table k d ≡ segment_at l.bytes (e_phoff l.bytes + 32 * k);
}
