use Rattle.std.proofs.Common.{◌≡◌, ℕ, ◌<◌, None}
use Rattle.guest_model.specs.ImageFault.{first_overlap}
use Rattle.elf32_loader.proofs.segment_checks.check_overlaps.Given as goal

abbrev pub invariant-loop-i : goal.invariant-loop-i
invariant-loop-i l = (k : ℕ) → k < l.i → first_overlap l.segments k ≡ None
