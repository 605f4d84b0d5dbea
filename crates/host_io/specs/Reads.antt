-- What a read of a file puts into its buffer.
use Rattle.std.specs.Prelude.{◌≡◌, ℕ, ◌<◌, ◌≤◌, List, length, take, drop, Option, IfSome, Result, IfOk}

-- where the file's bytes are told, `Ok(k)` has put those from `at` on into the first k places, and
-- k is 0 only where there are none, or no place
abbrev pub ReadsFile : {E : Type 0} → Option (List ℕ) → ℕ → List ℕ → Result ℕ E → Type 0
ReadsFile told at into r =
    IfSome told (λ file. IfOk r (λ k. (take k into ≡ take k (drop at file)) × (k ≡ 0 → 0 < length into → length file ≤ at)))
