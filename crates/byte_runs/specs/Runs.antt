-- Runs of neighbouring addresses at which two byte maps differ
use Rattle.std.specs.Prelude.{◌≡◌, ℕ, zero, suc, ◌+◌, ◌-◌, ◌^◌, ◌<◌, ◌≤◌, Bool, true, false, not, ◌&&◌, ◌==◌, nat_lt, if◌then◌else◌, List, [], ◌∷◌, length, map, take, slice_index_or, All, AllPairs}
use Rattle.guest_model.specs.ByteMap.{ByteMap, bytes_from}
use Rattle.guest_model.specs.Difference.{same_byte}
use Rattle.byte_runs.specs.declared.run.Run.{Run}
use Rattle.byte_runs.specs.declared.run.Runs.{Runs}

-- where a run begins, and how many bytes it has
pub record Span : Type 0 where
  pub address : ℕ
  pub length : ℕ

-- The runs of some addresses, with one address more that lies above all of them: it belongs to the last run where it is
-- next to it, else it begins a run.
abbrev pub joined : List Span → ℕ → List Span
joined [] q = record { address = q; length = 1 } ∷ []
joined (r ∷ []) q =
    if r.address + r.length == q
    then record { address = r.address; length = r.length + 1 } ∷ []
    else r ∷ (record { address = q; length = 1 } ∷ [])
joined (r ∷ (s ∷ rs)) q = r ∷ joined (s ∷ rs) q

-- the runs of the marked addresses below q, from the lowest on
unfoldable pub runs_below : (ℕ → Bool) → ℕ → List Span
runs_below marked zero = []
runs_below marked (suc q) = let before = runs_below marked q in if marked q then joined before q else before

-- the bytes at the address differ
abbrev pub differs : ByteMap → ByteMap → ℕ → Bool
differs m n q = not (same_byte (m q) (n q))

-- all runs of bytes that differ
abbrev pub differing : ByteMap → ByteMap → List Span
differing m n = runs_below (differs m n) (2 ^ 32)

abbrev pub span_of : Run → Span
span_of r = record { address = r.address; length = r.length }

-- how many bytes of a run of this length are shown: all of them up to 16
abbrev pub shown : ℕ → ℕ
shown n = if nat_lt n 16 then n else 16

-- the first bytes of the run, those of m on the left and those of n on the right
pub record Shows (m n : ByteMap) (r : Run) : Type 0 where
  pub left : r.left.items ≡ bytes_from m r.address (shown r.length)
  pub right : r.right.items ≡ bytes_from n r.address (shown r.length)

-- the first runs with their bytes, and how many follow
pub record IsRunsOf (m n : ByteMap) (most : ℕ) (result : Runs) : Type 0 where
  pub kept : map span_of result.runs.items ≡ take most (differing m n)
  pub bytes : All (Shows m n) result.runs.items
  pub more : result.more ≡ length (differing m n) - most

-- ---- what the runs of marked addresses are, said without an order of search

-- the address is one of the run's
abbrev pub Holds : Span → ℕ → Type 0
Holds r q = (r.address ≤ q) × (q < r.address + r.length)

-- The run has a byte, all its addresses are marked, and its neighbours are not.
pub record IsRun (marked : ℕ → Bool) (r : Span) : Type 0 where
  pub some : 0 < r.length
  pub inside : (q : ℕ) → Holds r q → marked q ≡ true
  pub before : (q : ℕ) → q + 1 ≡ r.address → marked q ≡ false
  pub behind : marked (r.address + r.length) ≡ false

-- the marked addresses below q
abbrev pub marked_below : (ℕ → Bool) → ℕ → ℕ → Bool
marked_below marked q a = marked a && nat_lt a q

-- all runs of the marked addresses, from the lowest on
pub record AreRunsOf (marked : ℕ → Bool) (rs : List Span) : Type 0 where
  pub rising : AllPairs (λ r s. r.address < s.address) rs
  pub each : All (IsRun marked) rs
  pub every : (q : ℕ) → marked q ≡ true → (k : ℕ) × (k < length rs) × ((d : Span) → Holds (slice_index_or rs k d) q)

-- there is a run, and the first one begins at a
abbrev pub BeginsAt : List Span → ℕ → Type 0
BeginsAt rs a = (first : Span) × (rest : List Span) × (rs ≡ first ∷ rest) × (first.address ≡ a)
