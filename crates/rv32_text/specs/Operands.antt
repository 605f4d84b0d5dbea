-- What can follow an operand
use Rattle.std.specs.Prelude.{◌≡◌, ℕ, ◌<◌, List, ◌∷◌}

-- the letters of fields: no space, no comma, no parenthesis and not the end of a text
abbrev pub InField : ℕ → Type 0
InField letter = (44 < letter) × (letter < 256)

-- a literal whose first letter is in no field
pub record IsMark (literal : List ℕ) : Type 0 where
  pub mark : ℕ
  pub behind : List ℕ
  pub is : literal ≡ mark ∷ behind
  pub outside : InField mark → ⊥
