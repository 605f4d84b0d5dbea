-- Pages of an image: an index from page numbers to places, and the entries at these places
use Rattle.std.specs.Prelude.{◌≡◌, ℕ, ◌+◌, ◌*◌, ◌/◌, ◌%◌, ◌^◌, ◌<◌, Bool, true, false, ◌&&◌, nat_le, nat_lt, not, List, length, slice_get, slice_index, count_by, All, Option, Some, None, option_map, option_and_then}
use Rattle.std.specs.Option.{option_map_or}
use Rattle.guest_model.specs.ByteMap.{ByteMap}
use Rattle.paged_image.specs.Owner.{page_bytes, is_own}
use Rattle.paged_image.specs.WriteSet.{has}
use Rattle.paged_image.specs.declared.entry.Entry.{Entry}

-- the entry of a page, none where the page is unmapped
unfoldable pub entry_at : List ℕ → List Entry → ℕ → Option Entry
entry_at index entries page = option_and_then (λ place. slice_get entries place) (slice_get index page)

-- its bytes
unfoldable pub bytes_at : List ℕ → List Entry → ℕ → Option (List ℕ)
unfolding entry_at
bytes_at index entries page = option_map (λ e. page_bytes e.page) (entry_at index entries page)

-- the image owns it
unfoldable pub own_at : List ℕ → List Entry → ℕ → Bool
unfolding entry_at
own_at index entries page = option_map_or (λ e. is_own e.page) (entry_at index entries page) false

-- the byte map of pages of 4,096 bytes
unfoldable pub paged : (ℕ → Option (List ℕ)) → ByteMap
paged pages = λ q. option_map (λ bytes. slice_index bytes (q % 4096)) (pages (q / 4096))

-- each entry has the number of the page that it is found for
abbrev pub Finds : List ℕ → List Entry → Type 0
Finds index entries = (page : ℕ) (e : Entry) → entry_at index entries page ≡ Some e → e.number ≡ page

-- own pages are in the write set
abbrev pub OwnIsWritten : List Entry → List ℕ → Type 0
OwnIsWritten entries written = All (λ e. is_own e.page ≡ true → has written e.number ≡ true) entries

-- the number of own pages
abbrev pub own_count : List Entry → ℕ
own_count entries = count_by (λ e. is_own e.page) entries

-- one of the n addresses from a on lies on the page
abbrev pub touches : ℕ → ℕ → ℕ → Bool
touches a n page = nat_lt 0 n && nat_le (a / 4096) page && nat_lt (page * 4096) (a + n)

-- the number of touched pages that are shared
abbrev pub shared_touched : List Entry → ℕ → ℕ → ℕ
shared_touched entries a n = count_by (λ e. not (is_own e.page) && touches a n e.number) entries

-- these are the bytes of the page with this number
pub record IsPage (m : ByteMap) (number : ℕ) (bytes : List ℕ) : Type 0 where
  pub below : number < 2 ^ 20
  pub count : length bytes ≡ 4096
  pub each : (k : ℕ) → k < 4096 → m (number * 4096 + k) ≡ Some (slice_index bytes k)

-- the map has no byte of the page
abbrev pub LacksPage : ByteMap → ℕ → Type 0
LacksPage m number = (k : ℕ) → k < 4096 → m (number * 4096 + k) ≡ None
