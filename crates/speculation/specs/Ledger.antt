-- The ledger: the rows that plain runs of both versions of each region of the program give, and the path count.
use Rattle.std.specs.Prelude.{ℕ, zero, suc, ◌+◌, ◌-◌, Bool, true, false, List, [], ◌∷◌, Option, Some, None}
use Rattle.speculation.specs.Machine.{Machine}
use Rattle.speculation.specs.Run.{fresh, go}
use Rattle.speculation.specs.Tracks.{original}
use Rattle.speculation.specs.Verdicts.{Verdict, Kept, Differs, Stopped, Late, Judged, verdict}

-- One region: the row's number from 0, the instructions of the program before the opening call, the call's address, the
-- original count, and the verdict.
pub record Row (D : Type 0) : Type 0 where
  pub number : ℕ
  pub at : ℕ
  pub pc : ℕ
  pub original : ℕ
  pub judged : Judged D

-- the row of the region that opens at s
abbrev pub row_at : {S E D : Type 0} → Machine S E D → S → ℕ → ℕ → ℕ → Row D
row_at m s number at n = record { number = number; at = at; pc = m.pc s; original = n; judged = verdict m s n }

-- One round of the walk, by the end that the next instruction meets, whether a region opens here, and its original
-- count within what is left: nothing more, the rest behind the region, or the rest behind one instruction. A region that
-- doesn't close within what is left has no row, and every later opening call lies inside it.
abbrev pub round : {E D : Type 0} → Option E → Bool → Option ℕ → (ℕ → List (Row D)) → List (Row D) → List (Row D)
round (Some e) fast n region plain = []
round None false n region plain = plain
round None true None region plain = []
round None true (Some n) region plain = region n

-- The walk from state s, which is reached after `at` instructions, with `left` still in the budget. Each round takes at
-- least one instruction, so as many rounds as instructions are enough.
unfoldable pub walk : {S E D : Type 0} → Machine S E D → ℕ → ℕ → S → ℕ → ℕ → List (Row D)
walk m zero left s number at = []
walk m (suc rounds) zero s number at = []
walk m (suc rounds) (suc l) s number at =
    round (go m (fresh s) 1).end (m.at_fast s) (original m s (suc l))
    (λ n. row_at m s number at n ∷ walk m rounds (suc l - n) (go m (fresh s) n).state (suc number) (at + n))
    (walk m rounds l (go m (fresh s) 1).state number (suc at))

-- the rows from state s on, the first with this number
unfoldable pub ledger_from : {S E D : Type 0} → Machine S E D → ℕ → S → ℕ → ℕ → List (Row D)
ledger_from m left s number at = walk m left left s number at

-- the ledger of the program alone within a budget
unfoldable pub ledger : {S E D : Type 0} → Machine S E D → S → ℕ → List (Row D)
ledger m start budget = ledger_from m budget start 0 0

-- the instructions of all the originals
abbrev pub originals : {D : Type 0} → List (Row D) → ℕ
originals [] = 0
originals (r ∷ rs) = r.original + originals rs

-- what a kept row saves: the original's instructions less those of the fast version
abbrev pub saving : {D : Type 0} → ℕ → ℕ → Verdict D → ℕ
saving original fast Kept = original - fast
saving original fast (Differs d) = 0
saving original fast Stopped = 0
saving original fast Late = 0

abbrev pub savings : {D : Type 0} → List (Row D) → ℕ
savings [] = 0
savings (r ∷ rs) = saving r.original r.judged.fast r.judged.verdict + savings rs

-- The path count: the instructions that one after the other could not be avoided, of `count` that the program takes alone.
abbrev pub path_count : {D : Type 0} → ℕ → List (Row D) → ℕ
path_count count rows = count - savings rows
