-- What the rows of a ledger add up to.
use Rattle.std.specs.Prelude.{◌≡◌, ℕ, ◌+◌, ◌≤◌, List, [], ◌∷◌}
use Rattle.speculation.specs.Verdicts.{Verdict, Kept, Differs, Stopped, Late}
use Rattle.speculation.specs.Ledger.{Row, originals, savings, path_count}

-- a fast version that is kept took at most as many instructions as its original
abbrev pub FastWithin : {D : Type 0} → ℕ → ℕ → Verdict D → Type 0
FastWithin original fast Kept = fast ≤ original
FastWithin original fast (Differs d) = Unit {0}
FastWithin original fast Stopped = Unit {0}
FastWithin original fast Late = Unit {0}

-- so of each row
abbrev pub RowsWithin : {D : Type 0} → List (Row D) → Type 0
RowsWithin [] = Unit {0}
RowsWithin (r ∷ rs) = FastWithin r.original r.judged.fast r.judged.verdict × RowsWithin rs

-- Rows that belong to a run of `count` instructions: the originals are part of it, and the path count is what the kept
-- rows leave of it.
pub record Totalled {D : Type 0} (count : ℕ) (rows : List (Row D)) : Type 0 where
  pub within : RowsWithin rows
  pub regions : originals rows ≤ count
  pub path : path_count count rows + savings rows ≡ count
