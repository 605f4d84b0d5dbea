-- What is printed of a journal that was checked. Numbers are plain decimal; each line ends with a line feed, which has the
-- code 10.
use Rattle.std.specs.Prelude.{ℕ, List, [], ◌∷◌, ◌++◌, codes, decimal}
use Rattle.region_ledger.specs.Ledger.{totals_of}
use Rattle.region_ledger.specs.declared.finished.Finished.{Finished}
use Rattle.region_ledger.specs.declared.row.Row.{Row}
use Rattle.report_text.specs.Reports.{named, totals_line, end_line}

-- the entries of a journal, and the bytes of output that it releases and leaves unreleased
abbrev pub journal_line : ℕ → ℕ → ℕ → List ℕ
journal_line entries released left =
    named (codes "journal ") entries (named (codes " released ") released (codes " left " ++ decimal left)) ++ 10 ∷ []

-- the line of the journal, the totals of the program's ledger, and the program's end
abbrev pub checked_text : ℕ → ℕ → ℕ → List Row → Finished → List ℕ
checked_text entries released left rows f =
    journal_line entries released left ++ (totals_line (totals_of rows f.count) ++ end_line f.end)
