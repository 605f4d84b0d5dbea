-- What a collector knows once all addresses below one of them were looked at
use Rattle.std.specs.Prelude.{◌≡◌, ℕ, ◌+◌, ◌-◌, ◌≤◌, nat_lt, if◌then◌else◌, ◌<◌, ◌⊎◌, List, [], ◌++◌, ◌∷◌, length, map, take, All, Option, Some, None}
use Rattle.guest_model.specs.ByteMap.{ByteMap}
use Rattle.byte_runs.specs.Runs.{Span, Shows, differs, span_of, runs_below}
use Rattle.byte_runs.specs.declared.run.Run.{Run}
use Rattle.byte_runs.specs.declared.collector.Collector.{Collector}

-- the address behind the last run, none where there is no run
abbrev pub IsEnd : List Span → Option ℕ → Type 0
IsEnd rs None = rs ≡ []
IsEnd rs (Some e) = (front : List Span) × (last : Span) × (rs ≡ front ++ (last ∷ [])) × (last.address + last.length ≡ e)

-- the collector has the runs of the bytes below q that differ
pub record Collected (m n : ByteMap) (q : ℕ) (c : Collector) : Type 0 where
  pub kept : map span_of c.runs.items ≡ take c.most (runs_below (differs m n) q)
  pub bytes : All (Shows m n) c.runs.items
  pub more : c.more ≡ length (runs_below (differs m n) q) - c.most
  pub few : c.more ≤ q
  pub end : IsEnd (runs_below (differs m n) q) c.end

-- a run of one byte is counted where the collector is full, else kept
abbrev pub Begins : Collector → Collector → ℕ → ℕ → ℕ → Type 0
Begins old new address left right =
    ((length old.runs.items ≡ old.most) × (new.runs.items ≡ old.runs.items) × (new.more ≡ old.more + 1))
    ⊎ ((length old.runs.items ≡ old.most → ⊥) × (new.more ≡ old.more)
    × ((run : Run) × (new.runs.items ≡ old.runs.items ++ (run ∷ [])) × (run.address ≡ address) × (run.length ≡ 1) × (run.left.items ≡ left ∷ []) × (run.right.items ≡ right ∷ [])))

-- the bytes of a run with one more, which is shown where fewer than 16 are
abbrev pub shown_more : List ℕ → ℕ → List ℕ
shown_more bytes byte = if nat_lt (length bytes) 16 then bytes ++ (byte ∷ []) else bytes

-- the last run, where there is one, has one byte more
abbrev pub Lengthens : List Run → List Run → ℕ → ℕ → Type 0
Lengthens old new left right =
    ((old ≡ []) × (new ≡ []))
    ⊎ ((front : List Run) × (was : Run) × (is : Run) × (old ≡ front ++ (was ∷ [])) × (new ≡ front ++ (is ∷ [])) × (is.address ≡ was.address)
    × (was.length + 1 < 18446744073709551616 → is.length ≡ was.length + 1)
    × (is.left.items ≡ shown_more was.left.items left) × (length was.left.items ≡ length was.right.items → is.right.items ≡ shown_more was.right.items right))
