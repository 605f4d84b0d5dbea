use Rattle.std.proofs.Common.{◌≡◌, ℕ, ◌<◌, ◌≤◌, ◌&&◌, true, is_some}
use Rattle.std.specs.Prelude.{nat_le, nat_lt}
use Rattle.paged_image.specs.Changes.{Advances, page_of, owns}
use Rattle.paged_image.proofs.image.PagedImage.own_pages.Given as goal

abbrev pub invariant-loop-number : goal.invariant-loop-number
invariant-loop-number l =
    ((p : ℕ) → page_of l.self p ≡ page_of l.fn.self p)
    × Advances (λ p. nat_le l.first p && nat_lt p l.end) l.fn.self l.self
    × ((p : ℕ) → l.first ≤ p → p < l.number → is_some (page_of l.fn.self p) ≡ true → owns l.self p ≡ true)
