-- What a list begins with, line by line
use Rattle.std.specs.Prelude.{◌≡◌, ℕ, ◌<◌, Bool, true, false, List, [], ◌∷◌, length, option_map, IfSome}
use Rattle.job_listing.specs.Lists.{lines_in, is_name}

-- the first line is this name, and the lines behind it are those of the rest
pub record BeginsWithName (bytes name rest : List ℕ) : Type 0 where
  pub is : is_name name ≡ true
  pub lines : lines_in bytes ≡ option_map (λ lines. name ∷ lines) (lines_in rest)
  pub less : length rest < length bytes

abbrev pub name_first : List (List ℕ) → Bool
name_first [] = false
name_first (line ∷ lines) = is_name line

-- there is no first line, it is no name, or the last line has no line feed
abbrev pub HasNoName : List ℕ → Type 0
HasNoName bytes = IfSome (lines_in bytes) (λ lines. name_first lines ≡ false)
