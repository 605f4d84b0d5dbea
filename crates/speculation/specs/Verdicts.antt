-- The verdict on a region's two versions, and the judge, who has seen only a part of the fast one.
use Rattle.std.specs.Prelude.{ℕ, Bool, true, false, Option, Some, None, if◌then◌else◌, nat_lt, nat_le}
use Rattle.speculation.specs.declared.tracks.Kind.TheVariants.{Normal, Fast}
use Rattle.speculation.specs.Machine.{Machine}
use Rattle.speculation.specs.Tracks.{point, boundary, first_from, fast_count}

-- what is said of a fast version against its original
pub data Verdict (D : Type 0) : Type 0 where
  -- it closes the region in time and in the same state
  Kept : Verdict D
  -- it closes the region in time, and the states differ first here
  Differs : D → Verdict D
  -- it ends the program in time
  Stopped : Verdict D
  -- none of these within the original's count
  Late : Verdict D

-- a verdict with the number of fast instructions that its row tells
pub record Judged (D : Type 0) : Type 0 where
  pub verdict : Verdict D
  pub fast : ℕ

-- the verdict on a fast version that closes the region in time, by where the states differ
abbrev pub compared : {D : Type 0} → ℕ → Option D → Judged D
compared k None = record { verdict = Kept; fast = k }
compared k (Some d) = record { verdict = Differs d; fast = k }

-- the verdict on one that doesn't, by the end that it met within the original's count n
abbrev pub unclosed : {E D : Type 0} → ℕ → ℕ → Option E → Judged D
unclosed n k (Some e) = record { verdict = Stopped; fast = k }
unclosed n k None = record { verdict = Late; fast = n }

-- the verdict by the least count at which the fast version closes the region, if it does so within n
abbrev pub verdict_of : {S E D : Type 0} → Machine S E D → S → ℕ → Option ℕ → Judged D
verdict_of m s n (Some k) = compared k (m.difference (point m Normal s n).state (point m Fast s k).state)
verdict_of m s n None = unclosed n (fast_count m s n) (point m Fast s n).end

-- the verdict on the region that opens at s and whose original count is n
unfoldable pub verdict : {S E D : Type 0} → Machine S E D → S → ℕ → Judged D
verdict m s n = verdict_of m s n (first_from (boundary m Fast s) 1 n)

abbrev pub is_kept : {D : Type 0} → Verdict D → Bool
is_kept Kept = true
is_kept (Differs d) = false
is_kept Stopped = false
is_kept Late = false

-- what can be seen of a fast version after some instructions
pub data Seen (D : Type 0) : Type 0 where
  -- after so many it has met neither an end nor its boundary
  Running : ℕ → Seen D
  -- it met an end with the last of so many
  Ended : ℕ → Seen D
  -- it met its boundary after so many, and there the states differ so
  Met : ℕ → Option D → Seen D

-- The judge's answer by what is seen, n being the original's count: none while a fast version that has taken fewer
-- instructions may still close the region.
abbrev pub judge : {D : Type 0} → ℕ → Seen D → Option (Judged D)
judge n (Running k) = if nat_lt k n then None else Some (record { verdict = Late; fast = n })
judge n (Ended k) = if nat_le k n then Some (record { verdict = Stopped; fast = k }) else Some (record { verdict = Late; fast = n })
judge n (Met k d) = if nat_lt n k then Some (record { verdict = Late; fast = n }) else Some (compared k d)
