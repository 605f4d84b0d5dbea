-- A plain run as one record, taken from its first instruction on. The program alone is such a run within its budget.
use Rattle.std.specs.Prelude.{◌≡◌, ℕ, zero, suc, List, [], ◌∷◌, ◌++◌, Option, Some, None}
use Rattle.speculation.specs.Machine.{Machine, Stepped, Next, Ends}
use Rattle.speculation.specs.Run.{Piece, Mark, marks, fresh, go, pieces, taken}

-- what a run wrote, its end (none where all instructions were spent), its last state and its count
pub record Ran (S E : Type 0) : Type 0 where
  pub pieces : List Piece
  pub end : Option E
  pub last : S
  pub count : ℕ

-- the numbers of these pieces raised by one
abbrev pub raised : List Piece → List Piece
raised [] = []
raised (p ∷ ps) = (record p { number = suc p.number }) ∷ raised ps

-- a run with one instruction before it, which wrote `first`
abbrev pub preceded : {S E : Type 0} → List Piece → Ran S E → Ran S E
preceded first r = record { pieces = first ++ raised r.pieces; end = r.end; last = r.last; count = suc r.count }

-- the piece of the first instruction
abbrev pub first_piece : ℕ → List ℕ → List Piece
first_piece stream [] = []
first_piece stream (b ∷ bs) = record { number = 1; stream = stream; bytes = b ∷ bs } ∷ []

-- the run whose first instruction in state s went so: nothing follows an end, and `rest` gives what follows a state
abbrev pub by_step : {S E : Type 0} → S → Stepped S E → (S → Ran S E) → Ran S E
by_step s (Ends e) rest = record { pieces = []; end = Some e; last = s; count = 1 }
by_step s (Next t stream bytes) rest = preceded (first_piece stream bytes) (rest t)

-- the run of at most n instructions from s
unfoldable pub run : {S E D : Type 0} → Machine S E D → S → ℕ → Ran S E
run m s zero = record { pieces = []; end = None; last = s; count = 0 }
run m s (suc n) = by_step s (m.step s) (λ t. run m t n)

-- the program alone from its start state within a budget
abbrev pub alone : {S E D : Type 0} → Machine S E D → S → ℕ → Ran S E
alone m start budget = run m start budget

-- the output of a run
abbrev pub output_of : {S E : Type 0} → Ran S E → List Mark
output_of r = marks r.pieces

-- these come first in those
abbrev pub IsPrefixOf : {A : Type 0} → List A → List A → Type 0
IsPrefixOf {A} xs ys = (rest : List A) × (xs ++ rest ≡ ys)

-- The same run, grown at its end, which is how the definitions of tracks speak of it; both are equal.
abbrev pub grown : {S E D : Type 0} → Machine S E D → S → ℕ → Ran S E
grown m s n = record {
  pieces = pieces m (fresh s) 0 n;
  end = (go m (fresh s) n).end;
  last = (go m (fresh s) n).state;
  count = taken m (fresh s) n;
}
