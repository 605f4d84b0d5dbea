use Rattle.std.proofs.Common.{◌≡◌, ◌+◌, ◌-◌, ◌≤◌, length}
use Rattle.std.specs.Io.KnownBytes.{Consumes}
use Rattle.host_io.proofs.take.take_source_by.Given as goal

-- the source lost exactly the bytes that are kept, and no call failed
abbrev pub invariant-loop-bytes : goal.invariant-loop-bytes
invariant-loop-bytes g l =
    (length l.bytes ≤ l.limit + 1)
    × Consumes (g.S.Source.remaining l.initial.source) (g.S.Source.remaining l.source) l.bytes
    × (g.S.Source.faults l.source ≡ g.S.Source.faults l.initial.source)

abbrev pub decreases-loop-bytes : goal.decreases-loop-bytes
decreases-loop-bytes g l = l.limit + 1 - length l.bytes
