-- When two byte maps are compared by their written pages
use Rattle.std.specs.Prelude.{◌≡◌, ℕ, ◌+◌, ◌*◌, ◌/◌, ◌^◌, ◌<◌, ◌≤◌, ◌⊎◌, false, not, List, length, count_by, slice_index, is_some}
use Rattle.guest_model.specs.ByteMap.{ByteMap}
use Rattle.guest_model.specs.Difference.{same_byte}
use Rattle.paged_image.specs.WriteSet.{has}

-- both have the same addresses
abbrev pub SameShape : ByteMap → ByteMap → Type 0
SameShape m n = (q : ℕ) → is_some (m q) ≡ is_some (n q)

-- outside of both write sets the bytes are the same
abbrev pub AgreeOutside : List ℕ → List ℕ → ByteMap → ByteMap → Type 0
AgreeOutside us ws m n = (q : ℕ) → has us (q / 4096) ≡ false → has ws (q / 4096) ≡ false → m q ≡ n q

-- the number of pages that are in either set
abbrev pub in_either : List ℕ → List ℕ → ℕ
in_either us ws = length us + count_by (λ p. not (has us p)) ws

-- the bytes of the page are the same
abbrev pub SamePage : ByteMap → ByteMap → ℕ → Type 0
SamePage m n page = (k : ℕ) → k < 4096 → m (page * 4096 + k) ≡ n (page * 4096 + k)

-- the lowest address of the page whose bytes differ
pub record DiffersFirst (m n : ByteMap) (page q : ℕ) : Type 0 where
  pub on_page : q / 4096 ≡ page
  pub space : q < 2 ^ 32
  pub differs : same_byte (m q) (n q) ≡ false
  pub below : (k : ℕ) → page * 4096 + k < q → m (page * 4096 + k) ≡ n (page * 4096 + k)

-- the least page of both lists from these places on
pub record IsNextPage (us : List ℕ) (i : ℕ) (ws : List ℕ) (j page : ℕ) : Type 0 where
  pub left : i < length us → page ≤ slice_index us i
  pub right : j < length ws → page ≤ slice_index ws j
  pub one : ((i < length us) × (slice_index us i ≡ page)) ⊎ ((j < length ws) × (slice_index ws j ≡ page))

-- the place is the next one exactly where the page stands at i
abbrev pub PassesPage : List ℕ → ℕ → ℕ → ℕ → Type 0
PassesPage pages i page next = ((i < length pages) × (slice_index pages i ≡ page) × (next ≡ i + 1)) ⊎ ((i < length pages → slice_index pages i ≡ page → ⊥) × (next ≡ i))
