-- Counts of faults, before and after a call. A count stands still at 2^64 - 1.
use Rattle.std.specs.Prelude.{◌≡◌, ℕ, ◌+◌, ◌-◌, ◌^◌, ◌<◌, ◌≤◌, min, Result, Ok, Err}

-- the count rose, or stands at its last value, where it cannot rise
abbrev pub Rose : ℕ → ℕ → Type 0
Rose old new = min (old + 1) (2 ^ 64 - 1) ≤ new

-- the count did not rise, and a fault would have raised it
abbrev pub StayedCalm : ℕ → ℕ → Type 0
StayedCalm old new = (new ≡ old) × (old < 2 ^ 64 - 1)

-- a call that fails raises the count, and one that succeeds leaves it
abbrev pub CountsFaults : {T E : Type 0} → ℕ → ℕ → Result T E → Type 0
CountsFaults old new (Ok _) = new ≡ old
CountsFaults old new (Err _) = Rose old new
