use Rattle.std.proofs.Common.{◌≡◌, ℕ, ◌<◌, false}
use Rattle.guest_model.specs.ImageFault.{nth}
use Rattle.guest_model.specs.Segment.{is_dynamic}
use Rattle.elf32_loader.proofs.segment_checks.check_dynamic.Given as goal

abbrev pub invariant-loop-i : goal.invariant-loop-i
invariant-loop-i l = (k : ℕ) → k < l.i → is_dynamic (nth l.segments k) ≡ false
