use Rattle.std.proofs.Common.{◌≡◌, ℕ, ◌+◌, ◌<◌, ◌≤◌, Some, length, slice_index}
use Rattle.guest_model.specs.ByteMap.{ByteMap}
use Rattle.byte_runs.specs.Collection.{Collected}
use Rattle.byte_runs.proofs.collector.Collector.add_bytes.Given as goal

abbrev pub invariant-loop-k : goal.invariant-loop-k
invariant-loop-k l =
    (l.self.most ≡ l.initial.self.most)
    × (l.self.more ≤ l.first + l.k)
    × ((m n : ByteMap) → Collected m n l.first l.initial.self
    → ((k : ℕ) → k < length l.left → (m (l.first + k) ≡ Some (slice_index l.left k)) × (n (l.first + k) ≡ Some (slice_index l.right k)))
    → Collected m n (l.first + l.k) l.self)
