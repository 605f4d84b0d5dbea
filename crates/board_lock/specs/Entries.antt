-- Lists of entries, each of which may belong to a seat, and values that have such a list.
use Rattle.std.specs.Prelude.{◌≡◌, ◌≢◌, ℕ, ◌≤◌, List, [], ◌∷◌, ◌++◌, Option, Some}

-- `belongs before e` is the seat to which the entry e belongs, where `before` are the entries before it
module _ {I : Type 0} (belongs : List I → I → Option ℕ) where
  -- no entry of the list, which stands behind `before`, belongs to the seat
  abbrev pub Foreign : ℕ → List I → List I → Type 0
  Foreign seat before [] = Unit {0}
  Foreign seat before (e ∷ rest) = (belongs before e ≢ Some seat) × Foreign seat (before ++ e ∷ []) rest

  -- the entries begin with what was seen, and nothing behind that belongs to the seat
  abbrev pub Extends : ℕ → List I → List I → Type 0
  Extends seat seen entries = (rest : List I) × (entries ≡ seen ++ rest) × Foreign seat seen rest

  -- the entries begin with what was seen, and nothing behind that belongs to another seat
  abbrev pub Appends : ℕ → List I → List I → Type 0
  Appends seat seen entries = (rest : List I) × (entries ≡ seen ++ rest) × ((k : ℕ) → k ≢ seat → Foreign k seen rest)

  -- no entry belongs to a number from `first` on
  abbrev pub Unborn : ℕ → List I → Type 0
  Unborn first entries = (k : ℕ) → first ≤ k → Foreign k [] entries

module _ {F I T : Type 0} (fixed : T → F) (entries : T → List I) (belongs : List I → I → Option ℕ) where
  -- the value has this fixed part, its entries extend what the seat has seen, and none belongs to a number from `stock` on
  pub record Continues (f : F) (seen : List I) (seat stock : ℕ) (x : T) : Type 0 where
    pub fixed_part : fixed x ≡ f
    pub seen_first : Extends belongs seat seen (entries x)
    pub stock_free : Unborn belongs stock (entries x)
