-- The loans of a history, told by its entries alone, and the seat to which an entry belongs.
use Rattle.std.specs.Prelude.{◌≢◌, ℕ, List, [], ◌∷◌, ◌++◌, Option, Some, None}
use Rattle.speculation.specs.declared.tracks.OpenLoan.{OpenLoan}
use Rattle.speculation.specs.declared.history.Entry.{Entry}
use Rattle.speculation.specs.declared.history.Entry.TheVariants.{Lend, Back, Gone, Discard, Release, Halt}
use Rattle.speculation.specs.Core.{find_loan}
use Rattle.speculation.specs.Effects.{drop_loans}
use Rattle.speculation.specs.Events.{end_loan}

-- the loans after one entry
abbrev pub loans_by : List OpenLoan → Entry → List OpenLoan
loans_by ls (Lend seat n) = ls ++ (record { seat = seat; name = n; dropped = None } ∷ [])
loans_by ls (Back n count) = end_loan n ls
loans_by ls (Gone n) = end_loan n ls
loans_by ls (Discard row) = drop_loans row ls
loans_by ls _ = ls

-- the loans after these entries
abbrev pub loans_after : List OpenLoan → List Entry → List OpenLoan
loans_after ls [] = ls
loans_after ls (x ∷ xs) = loans_after (loans_by ls x) xs

abbrev pub seat_of : Option OpenLoan → Option ℕ
seat_of None = None
seat_of (Some l) = Some l.seat

-- The seat to which an entry belongs, by the entries before it: what goes out and what halts to its seat, what comes home
-- to the seat that had it, what is released to seat 0, and the events that are due to none.
abbrev pub owner_of : List Entry → Entry → Option ℕ
owner_of before (Lend seat n) = Some seat
owner_of before (Back n count) = seat_of (find_loan n (loans_after [] before))
owner_of before (Gone n) = seat_of (find_loan n (loans_after [] before))
owner_of before (Release bytes) = Some 0
owner_of before (Halt seat) = Some seat
owner_of before _ = None

-- none of the entries that follow `before` belongs to this seat
abbrev pub IsForeign : ℕ → List Entry → List Entry → Type 0
IsForeign seat before [] = Unit {0}
IsForeign seat before (x ∷ rest) = (owner_of before x ≢ Some seat) × IsForeign seat (before ++ (x ∷ [])) rest
