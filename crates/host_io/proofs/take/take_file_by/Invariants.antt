use Rattle.std.proofs.Common.{◌≡◌, ◌+◌, ◌-◌, ◌≤◌, length, take, IfSome}
use Rattle.host_io.proofs.take.take_file_by.Given as goal

-- the bytes that are kept begin the file, and no call failed
abbrev pub invariant-loop-bytes : goal.invariant-loop-bytes
invariant-loop-bytes g l =
    (length l.bytes ≤ l.limit + 1)
    × IfSome (g.F.Files.contents l.initial.files l.name) (λ file. take (length l.bytes) file ≡ l.bytes)
    × (g.F.Files.contents l.files ≡ g.F.Files.contents l.initial.files)
    × (g.F.Files.faults l.files ≡ g.F.Files.faults l.initial.files)

abbrev pub decreases-loop-bytes : goal.decreases-loop-bytes
decreases-loop-bytes g l = l.limit + 1 - length l.bytes
