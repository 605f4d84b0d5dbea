use Rattle.std.proofs.Common.{◌≡◌, ℕ, ◌/◌, ◌<◌, ◌≤◌, true, is_some}
use Rattle.paged_image.specs.Changes.{page_of}
use Rattle.paged_image.proofs.image.PagedImage.is_mapped.Given as goal

abbrev pub invariant-loop-number : goal.invariant-loop-number
invariant-loop-number l = (p : ℕ) → l.a / 4096 ≤ p → p < l.number → is_some (page_of l.self p) ≡ true
