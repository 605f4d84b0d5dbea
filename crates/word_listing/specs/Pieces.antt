-- The listing piece by piece
use Rattle.std.specs.Prelude.{ℕ, ◌+◌, ◌*◌, ◌/◌, List, length, take, drop}
use Rattle.std.specs.Int.{w32, from_le_bytes}
use Rattle.guest_model.specs.declared.areas.Area.{Area}
use Rattle.word_listing.specs.Listing.{line_unless_zero, joined}

-- the k-th word of these bytes, little-endian
abbrev pub word_in : List ℕ → ℕ → ℕ
word_in bytes k = from_le_bytes w32 (take 4 (drop (4 * k) bytes))

-- its line, where the first word stands at this address
abbrev pub word_line : ℕ → List ℕ → ℕ → List ℕ
word_line base bytes k = line_unless_zero (base + 4 * k) (word_in bytes k)

-- the lines of these bytes, which stand from this address on
abbrev pub bytes_lines : ℕ → List ℕ → List ℕ
bytes_lines base bytes = joined (word_line base bytes) 0 (length bytes / 4)

abbrev pub area_lines : Area → List ℕ
area_lines area = bytes_lines area.base area.bytes
