use Rattle.std.proofs.Common.{◌≡◌, ℕ, ◌<◌, false}
use Rattle.guest_model.specs.ImageFault.{nth, is_bad}
use Rattle.elf32_loader.proofs.segment_checks.check_sizes.Given as goal

abbrev pub invariant-loop-i : goal.invariant-loop-i
invariant-loop-i l = (k : ℕ) → k < l.i → is_bad l.file_length (nth l.segments k) ≡ false
