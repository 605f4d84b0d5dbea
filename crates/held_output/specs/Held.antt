-- The pieces that a track holds back
use Rattle.std.specs.Prelude.{◌≡◌, ℕ, ◌^◌, ◌<◌, ◌⊎◌, nat_le, if◌then◌else◌, List, [], ◌∷◌, All}
use Rattle.speculation.specs.Run.{Piece}
use Rattle.speculation.specs.Core.{held_size}

-- the number of an output stream of the guest
abbrev pub IsStream : ℕ → Type 0
IsStream s = (s ≡ 1) ⊎ (s ≡ 2)

-- the pieces that are numbered at most `limit`; `left_over` has the others
abbrev pub taken_upto : ℕ → List Piece → List Piece
taken_upto limit [] = []
taken_upto limit (p ∷ ps) = if nat_le p.number limit then p ∷ taken_upto limit ps else taken_upto limit ps

-- each piece is numbered above those before it
abbrev pub Rises : List Piece → Type 0
Rises [] = Unit {0}
Rises (p ∷ ps) = All (λ q. p.number < q.number) ps × Rises ps

-- what holds of all pieces that are held
pub record IsHeld (ps : List Piece) : Type 0 where
  pub rises : Rises ps
  pub streams : All (λ p. IsStream p.stream) ps
  pub fits : held_size ps < 2 ^ 64
