use Rattle.std.proofs.Common.{◌≡◌, ℕ, ◌<◌, false}
use Rattle.guest_model.specs.ImageFault.{nth, overlap}
use Rattle.elf32_loader.proofs.segment_checks.first_overlap.Given as goal

abbrev pub invariant-loop-j : goal.invariant-loop-j
invariant-loop-j l = (k : ℕ) → l.i < k → k < l.j → overlap (nth l.segments l.i) (nth l.segments k) ≡ false
