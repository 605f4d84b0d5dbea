use Rattle.std.proofs.Common.{◌≡◌, ◌+◌, ◌*◌, ◌≤◌, length, take}
use Rattle.guest_model.specs.ByteMap.{write}
use Rattle.paged_image.specs.Builder.{built}
use Rattle.paged_image.proofs.builder.Builder.push_area.Given as goal

abbrev pub invariant-loop-k : goal.invariant-loop-k
invariant-loop-k l = (length l.self.entries.items ≤ l.first + l.k) × (length l.self.index.items ≡ length l.fn.self.index.items) × (built l.self ≡ write (built l.fn.self) l.area.base (take (l.k * 4096) l.bytes))
