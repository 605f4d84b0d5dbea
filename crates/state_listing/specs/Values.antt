-- The value that a text writes
use Rattle.std.specs.Prelude.{◌≡◌, ◌≢◌, ℕ, ◌≤◌, List, length, slice_index, Option, MatchOption}

-- The value whose text this is; none of those that fit has this text where there is None.
abbrev pub IsValueOf : {V T : Type 0} → (V → Type 0) → (V → T) → T → Option V → Type 0
IsValueOf {V} Fits write text value = MatchOption value ((v : V) → Fits v → write v ≢ text) (λ v. Fits v × (write v ≡ text))

-- a number from `least` to `greatest`
pub record IsWithin (least greatest n : ℕ) : Type 0 where
  pub low : least ≤ n
  pub high : n ≤ greatest

-- no sign (43) stands in front, and no zero (48) with more behind it
pub record BeginsPlainly (word : List ℕ) : Type 0 where
  pub unsigned : slice_index word 0 ≢ 43
  pub plain : slice_index word 0 ≡ 48 → length word ≡ 1
