-- What an image shows: its bytes, its write set and how many pages it owns
use Rattle.std.specs.Prelude.{◌≡◌, ℕ, Bool, ◌/◌, ◌%◌, ◌^◌, ◌≤◌, List, length, slice_get, slice_index, Option, None, option_map, option_and_then}
use Rattle.std.proofs.Common.{ap, arith}
use Rattle.std.proofs.lemmas.Option.{slice_get_past}
use Rattle.guest_model.specs.ByteMap.{ByteMap}
use Rattle.paged_image.specs.Owner.{page_bytes}
use Rattle.paged_image.specs.Pages.{entry_at, bytes_at, own_at, paged, own_count, shared_touched}
use Rattle.paged_image.specs.declared.entry.Entry.{Entry}
use Rattle.paged_image.specs.declared.image.PagedImage.{PagedImage}

-- the byte at each mapped address
unfoldable pub content : PagedImage → ByteMap
content t = paged (bytes_at t.index.value.items t.entries.items)

-- the pages written since the image was made or last gave a snapshot
unfoldable pub written_of : PagedImage → List ℕ
written_of t = t.written

-- no other image has the page
unfoldable pub owns_page : PagedImage → ℕ → Bool
owns_page t page = own_at t.index.value.items t.entries.items page

-- the number of pages that no other image has
unfoldable pub owned_of : PagedImage → ℕ
owned_of t = own_count t.entries.items

-- the pages among those of the n bytes from a on that the image has to copy before it writes them
unfoldable pub shared_in : PagedImage → ℕ → ℕ → ℕ
shared_in t a n = shared_touched t.entries.items a n

-- no byte from 2 ^ 32 on, where the index ends
pub content-bounded : (t : PagedImage) (q : ℕ) → 2 ^ 32 ≤ q → content t q ≡ None
unfolding content paged bytes_at entry_at
content-bounded t q h =
    let past : length t.index.value.items ≤ q / 4096 = omega (arith, t.table) in
    ap (λ (o : Option ℕ). option_map (λ (bytes : List ℕ). slice_index bytes (q % 4096)) (option_map (λ (e : Entry). page_bytes e.page) (option_and_then (λ place. slice_get t.entries.items place) o)))
    (slice_get_past t.index.value.items (q / 4096) past)
