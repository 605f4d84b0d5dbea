-- Where a range of addresses lies in a list of areas
use Rattle.std.specs.Prelude.{◌≡◌, ℕ, ◌+◌, ◌<◌, ◌≤◌, Bool, true, false, List, length, slice_index_or}
use Rattle.guest_model.specs.AreaMap.{areas_bytes}
use Rattle.guest_model.specs.ByteMap.{ByteMap, mapped, bytes_from, write}
use Rattle.guest_model.specs.declared.areas.Area.{Area}
use Rattle.guest_model.specs.declared.access.Place.{Place}

-- the n bytes from a on are those at this place: in this area, from this offset on
pub record IsPlaceIn (x : Area) (offset a n : ℕ) : Type 0 where
  pub address : x.base + offset ≡ a
  pub within : offset + n ≤ length x.bytes

pub record IsPlace (xs : List Area) (a n : ℕ) (p : Place) : Type 0 where
  pub index : p.index < length xs
  pub here : (d : Area) → IsPlaceIn (slice_index_or xs p.index d) p.offset a n

-- the area does not have all of the n bytes from a on, or not the first of them
abbrev pub LacksRange : Area → ℕ → ℕ → Type 0
LacksRange x a n = x.base ≤ a → a + n ≤ x.base + length x.bytes → a < x.base + length x.bytes → ⊥

abbrev pub HasNoPlace : List Area → ℕ → ℕ → Type 0
HasNoPlace xs a n = (k : ℕ) (d : Area) → k < length xs → LacksRange (slice_index_or xs k d) a n

-- these are the n bytes from a on, and all of them are there
pub record IsPiece (m : ByteMap) (a n : ℕ) (bs : List ℕ) : Type 0 where
  pub count : length bs ≡ n
  pub mapped : mapped m a n ≡ true
  pub bytes : bytes_from m a n ≡ bs

-- what a write into one area answers and leaves
abbrev pub Pastes : List Area → List Area → ℕ → List ℕ → Bool → Type 0
Pastes old new a bs true = (mapped (areas_bytes old) a (length bs) ≡ true) × (areas_bytes new ≡ write (areas_bytes old) a bs)
Pastes old new a bs false = (new ≡ old) × HasNoPlace old a (length bs)
