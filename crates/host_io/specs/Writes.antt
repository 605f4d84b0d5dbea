-- What it means to write a piece whole.
use Rattle.std.specs.Prelude.{ℕ, ◌<◌, List, length, take, Option, Result, Ok, Err}
use Rattle.std.specs.Io.KnownBytes.{Appends}

-- after `Ok` exactly the piece was appended, after `Err` a prefix of it that is shorter
abbrev pub WritesWhole : {T E : Type 0} → Option (List ℕ) → Option (List ℕ) → Result T E → List ℕ → Type 0
WritesWhole old new (Ok _) piece = Appends old new piece
WritesWhole old new (Err _) piece = (n : ℕ) × (n < length piece) × Appends old new (take n piece)
