-- What becomes of a loan while other seats act.
use Rattle.std.specs.Prelude.{◌≡◌, ℕ, List, [], ◌∷◌, Option, Some, None}
use Rattle.speculation.specs.declared.tracks.Name.{Name}
use Rattle.speculation.specs.declared.tracks.OpenLoan.{OpenLoan}
use Rattle.speculation.specs.declared.history.Entry.{Entry}
use Rattle.speculation.specs.declared.history.Entry.TheVariants.{Discard}
use Rattle.speculation.specs.Core.{Core, find_loan, find_track}

-- the row of the first discard among these entries
abbrev pub first_discard : List Entry → Option ℕ
first_discard [] = None
first_discard (Discard row ∷ xs) = Some row
first_discard (_ ∷ xs) = first_discard xs

-- what dropped a loan: what dropped it before, else the first discard since
abbrev pub dropped_since : Option ℕ → List Entry → Option ℕ
dropped_since (Some row) xs = Some row
dropped_since None xs = first_discard xs

-- The loan l of this name is still there after these entries, with the same seat. A loan that was not dropped is dropped by
-- the first discard that follows, with its row, and by nothing else.
pub record LoanStays (n : Name) (l : OpenLoan) (rest : List Entry) (loans : List OpenLoan) : Type 0 where
  pub loan : OpenLoan
  pub found : find_loan n loans ≡ Some loan
  pub same_seat : loan.seat ≡ l.seat
  pub fate : loan.dropped ≡ dropped_since l.dropped rest

-- and as long as it is not dropped, its track stays the same
pub record TrackStays {S E D : Type 0} (n : Name) (l : OpenLoan) (rest : List Entry) (c new : Core S E D) : Type 0 where
  pub stays : LoanStays n l rest new.loans
  pub track : stays.loan.dropped ≡ None → find_track new n ≡ find_track c n
