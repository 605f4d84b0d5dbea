use Rattle.std.proofs.Common.{◌≡◌, ℕ, ◌<◌, false}
use Rattle.guest_model.specs.ImageFault.{nth, overlaps_stack}
use Rattle.elf32_loader.proofs.segment_checks.check_stack.Given as goal

abbrev pub invariant-loop-i : goal.invariant-loop-i
invariant-loop-i l = (k : ℕ) → k < l.i → overlaps_stack (nth l.segments k) ≡ false
