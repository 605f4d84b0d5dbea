-- Decimal numbers of a range, digit by digit
use Rattle.std.specs.Prelude.{◌≡◌, ℕ, ◌*◌, ◌%◌, ◌^◌, ◌<◌, ◌≤◌, true, ◌⊎◌, List, [], Option, Some, None, decimal}
use Rattle.rv32_text.specs.declared.number.Range.{Range}

-- the range has 2, which is even, and its numbers are small
pub record IsUsable (range : Range) : Type 0 where
  pub low : range.least ≤ 1
  pub wide : 2 ≤ range.greatest
  pub small : range.greatest < 2 ^ 24

-- a number of the range
pub record InRange (range : Range) (n : ℕ) : Type 0 where
  pub low : range.least ≤ n
  pub high : n ≤ range.greatest
  pub parity : range.even ≡ true → n % 2 ≡ 0

-- some number of the range begins with the digits of n: n itself, or n and one digit more
pub record MayBegin (range : Range) (n : ℕ) : Type 0 where
  pub low : range.least ≤ n
  pub high : n ≤ range.greatest
  pub parity : range.even ≡ true → (n % 2 ≡ 0) ⊎ (n * 10 ≤ range.greatest)

-- the digits that are read so far
abbrev pub digits_so_far : Option ℕ → List ℕ
digits_so_far None = []
digits_so_far (Some n) = decimal n

abbrev pub IsDigit : ℕ → Type 0
IsDigit letter = (48 ≤ letter) × (letter ≤ 57)
