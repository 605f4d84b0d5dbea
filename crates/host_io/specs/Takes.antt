-- What it means to take all bytes of a file or a source, up to a limit.
use Rattle.std.specs.Prelude.{◌≡◌, ℕ, ◌+◌, ◌<◌, ◌≤◌, List, length, Option, IfSome}
use Rattle.std.specs.Io.KnownBytes.{Consumes}
use Rattle.host_io.specs.declared.take.Took.{Took}
use Rattle.host_io.specs.declared.take.Took.TheVariants.{Whole, TooLong, Failed, NoMemory}
use Rattle.host_io.specs.Faults.{Rose}

-- the answer, of the bytes that were told before the call: all of them and no more than the limit,
-- or too long where they are more
abbrev pub Takes : Option (List ℕ) → ℕ → Took → Type 0
Takes told limit (Whole bytes) = (length bytes ≤ limit) × IfSome told (λ all. bytes ≡ all)
Takes told limit TooLong = IfSome told (λ all. limit < length all)
Takes told limit Failed = Unit {0}
Takes told limit NoMemory = Unit {0}

-- the first call that failed ended the taking, and is counted
abbrev pub CountsFailed : ℕ → ℕ → Took → Type 0
CountsFailed old new (Whole _) = new ≡ old
CountsFailed old new TooLong = new ≡ old
CountsFailed old new Failed = Rose old new
CountsFailed old new NoMemory = new ≡ old

-- what a source lost: the bytes that were handed out, or else at most one more than the limit
abbrev pub TakesFrom : Option (List ℕ) → Option (List ℕ) → ℕ → Took → Type 0
TakesFrom old new limit (Whole bytes) = Consumes old new bytes
TakesFrom old new limit TooLong = (bytes : List ℕ) × (length bytes ≡ limit + 1) × Consumes old new bytes
TakesFrom old new limit Failed = (bytes : List ℕ) × (length bytes ≤ limit) × Consumes old new bytes
TakesFrom old new limit NoMemory = (bytes : List ℕ) × (length bytes ≤ limit + 1) × Consumes old new bytes
