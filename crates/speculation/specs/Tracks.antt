-- Where the track of each kind stands after so many instructions, and where it meets its boundary.
use Rattle.std.specs.Prelude.{ℕ, zero, suc, Bool, false, ◌&&◌, Option, Some, None, if◌then◌else◌, nat_lt}
use Rattle.speculation.specs.declared.tracks.Kind.{Kind}
use Rattle.speculation.specs.declared.tracks.Kind.TheVariants.{Normal, Fast, Segment}
use Rattle.speculation.specs.Machine.{Machine}
use Rattle.speculation.specs.Run.{Point, fresh, go, taken}

-- The point of a track after `own` instructions from its start. The first instruction of a fast track is the opening
-- call, answered by 1; all others are plain steps.
abbrev pub point : {S E D : Type 0} → Machine S E D → Kind → S → ℕ → Point S E
point m Normal s own = go m (fresh s) own
point m Segment s own = go m (fresh s) own
point m Fast s zero = fresh s
point m Fast s (suc k) = go m (fresh (m.answer_one s)) k

-- A track that met no end stands at its boundary: a version of a region at the closing call, after at least one
-- instruction, and a segment at the next opening call.
abbrev pub meets : {S E D : Type 0} → Machine S E D → Kind → ℕ → S → Option E → Bool
meets m kind own s (Some e) = false
meets m Normal own s None = nat_lt 0 own && m.at_end s
meets m Fast own s None = nat_lt 0 own && m.at_end s
meets m Segment own s None = m.at_fast s

-- the track of this kind and start stands at its boundary after `own` instructions
abbrev pub boundary : {S E D : Type 0} → Machine S E D → Kind → S → ℕ → Bool
boundary m kind s own = meets m kind own (point m kind s own).state (point m kind s own).end

-- the least of k, k + 1, .., k + n - 1 at which f holds
unfoldable pub first_from : (ℕ → Bool) → ℕ → ℕ → Option ℕ
first_from f k zero = None
first_from f k (suc n) = let rest = first_from f (suc k) n in if f k then Some k else rest

-- The original count: the least number of instructions from 1 to the limit after which the original of a region that
-- opens at s stands at its end.
unfoldable pub original : {S E D : Type 0} → Machine S E D → S → ℕ → Option ℕ
original m s limit = first_from (boundary m Normal s) 1 limit

-- how many of n instructions the fast version takes: the opening call, and then those of a plain run
abbrev pub fast_count : {S E D : Type 0} → Machine S E D → S → ℕ → ℕ
fast_count m s zero = 0
fast_count m s (suc n) = suc (taken m (fresh (m.answer_one s)) n)
