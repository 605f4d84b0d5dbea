-- What the judge sees of a fast version is true of it.
use Rattle.std.specs.Prelude.{◌≡◌, ℕ, suc, Some}
use Rattle.speculation.specs.declared.tracks.Kind.TheVariants.{Normal, Fast}
use Rattle.speculation.specs.Machine.{Machine}
use Rattle.speculation.specs.Tracks.{point}
use Rattle.speculation.specs.Verdicts.{Seen, Running, Ended, Met}
use Rattle.speculation_law.specs.Facts.{Unstopped, Closes}

-- The fast version of the region that opens at s, whose original count is n: one that runs has met nothing yet, one that
-- ended did so with its last instruction and met nothing before, and one that closed the region did so for the first time,
-- with the difference of both versions' states.
abbrev pub Sees : {S E D : Type 0} → Machine S E D → S → ℕ → Seen D → Type 0
Sees m s n (Running k) = Unstopped m Fast s (suc k)
Sees {S} {E} {D} m s n (Ended k) = Unstopped m Fast s k × ((e : E) × ((point m Fast s k).end ≡ Some e))
Sees m s n (Met k d) = Closes m s k × (d ≡ m.difference (point m Normal s n).state (point m Fast s k).state)
