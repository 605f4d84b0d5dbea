-- Sets of page numbers, kept as rising lists
use Rattle.std.specs.Prelude.{ℕ, Bool, ◌==◌, List}
use Rattle.std.specs.List.{list_any}

-- the page is in the set
abbrev pub has : List ℕ → ℕ → Bool
has pages page = list_any (λ p. p == page) pages
