-- Ranges of pages, and the memory that they make
use Rattle.std.specs.Prelude.{◌≡◌, ℕ, ◌+◌, ◌-◌, ◌*◌, ◌/◌, ◌%◌, ◌^◌, ◌<◌, ◌≤◌, Bool, ◌&&◌, nat_lt, nat_le, if◌then◌else◌, List, length, slice_index, Some, None}
use Rattle.std.specs.List.{list_any, find, All, AllPairs}
use Rattle.guest_model.specs.ByteMap.{ByteMap}
use Rattle.guest_model.specs.Image.{byte_from}
use Rattle.guest_model.specs.Segment.{Segment, has_file_byte}
use Rattle.guest_model.specs.declared.areas.Area.{Area}
use Rattle.guest_model.specs.declared.state.Heap.{Heap}
use Rattle.elf32_loader.specs.declared.page_range.PageRange.{PageRange}

abbrev pub in_range : ℕ → PageRange → Bool
in_range p r = nat_le r.first p && nat_lt p r.end

-- one of the ranges has this page
abbrev pub has_range : List PageRange → ℕ → Bool
has_range rs p = list_any (in_range p) rs

-- it has a page, and ends at 2 ^ 32 at the latest
pub record IsPageRange (r : PageRange) : Type 0 where
  pub some : r.first < r.end
  pub within : r.end ≤ 2 ^ 20

abbrev pub IsBefore : PageRange → PageRange → Type 0
IsBefore r s = r.end ≤ s.first

-- ranges that rise without a common page
pub record IsRising (rs : List PageRange) : Type 0 where
  pub ranges : All IsPageRange rs
  pub order : AllPairs IsBefore rs

-- the heap has whole pages, and ends at 2 ^ 32 at the latest
pub record HasWholePages (h : Heap) : Type 0 where
  pub start : h.start % 4096 ≡ 0
  pub size : h.size % 4096 ≡ 0
  pub within : h.start + h.size ≤ 2 ^ 32

-- the byte at a mapped address: the file's, where a segment has one there, else 0
abbrev pub file_byte : List ℕ → List Segment → ℕ → ℕ
file_byte bs hs q = byte_from bs q (find (has_file_byte q) hs)

-- the byte with one more segment in front of those that make the byte `below`
abbrev pub byte_above : List ℕ → Segment → ℕ → ℕ → ℕ
byte_above bs s q below = if has_file_byte q s then slice_index bs (s.offset + (q - s.address)) else below

-- the area has the pages of the range, and these bytes
pub record IsAreaOf (byte : ℕ → ℕ) (r : PageRange) (x : Area) : Type 0 where
  pub base : x.base ≡ r.first * 4096
  pub size : length x.bytes ≡ (r.end - r.first) * 4096
  pub bytes : (k : ℕ) → k < length x.bytes → slice_index x.bytes k ≡ byte (x.base + k)

-- the memory of these pages with these bytes
abbrev pub pages_bytes : (ℕ → ℕ) → List PageRange → ByteMap
pages_bytes byte rs = λ q. if has_range rs (q / 4096) then Some (byte q) else None
