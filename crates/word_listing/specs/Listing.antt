-- The listing of an image: the words of its initial memory as text
use Rattle.std.specs.Prelude.{ℕ, ◌*◌, ◌^◌, ◌==◌, if◌then◌else◌, List, [], ◌∷◌, ◌++◌, Option, Some, None, codes}
use Rattle.std.specs.Int.{w32}
use Rattle.std.specs.List.{flat_map, range_with_len}
use Rattle.guest_model.specs.ByteMap.{ByteMap, load}
use Rattle.guest_model.specs.Image.{Image}
use Rattle.report_text.specs.Texts.{address_text}
use Rattle.rv32_text.specs.Texts.{text_of}

-- the line of a word at an address: eight hexadecimal digits, a space, the text of the word and a line feed (10)
abbrev pub listing_line : ℕ → ℕ → List ℕ
listing_line address word = address_text address ++ (codes " " ++ (text_of word ++ (10 ∷ [])))

-- a word that is 0 has no line
abbrev pub line_unless_zero : ℕ → ℕ → List ℕ
line_unless_zero address word = if word == 0 then [] else listing_line address word

-- nor has a word that isn't there
abbrev pub line_if_mapped : ℕ → Option ℕ → List ℕ
line_if_mapped address None = []
line_if_mapped address (Some word) = line_unless_zero address word

-- the line of the word in memory at an address, where all of its four bytes are mapped
abbrev pub line_at : ByteMap → ℕ → List ℕ
line_at memory address = line_if_mapped address (load w32 memory address)

-- the texts of so many numbers in order: of `first`, `first` + 1 and so on
unfoldable pub joined : (ℕ → List ℕ) → ℕ → ℕ → List ℕ
joined text first count = flat_map text (range_with_len first count)

-- the lines of all addresses below 2 ^ 32 that are multiples of 4, in rising order
unfoldable pub listing_text : Image → List ℕ
listing_text image = joined (λ k. line_at image.memory (4 * k)) 0 (2 ^ 30)
