-- Small executable images: one program header, and the words and bytes of the program behind it (System V ABI, chapter 4
-- "Object Files" and chapter 5 "Program Loading", ELF32; all numbers are little-endian)
use Rattle.std.specs.Prelude.{◌≡◌, ℕ, ◌+◌, ◌*◌, ◌<◌, List, [], ◌∷◌, ◌++◌, length, slice_index, Some}
use Rattle.std.specs.Int.{w32, to_le_bytes}
use Rattle.std.specs.List.{flat_map}
use Rattle.guest_model.specs.ByteMap.{load}
use Rattle.guest_model.specs.Image.{Image}

-- where the words and bytes stand in memory; the program starts there
abbrev pub base : ℕ
base = 0x10000

-- the words in order, each little-endian
abbrev pub word_bytes : List ℕ → List ℕ
word_bytes words = flat_map (to_le_bytes w32) words

-- the first 52 bytes: an executable file (2) for RISC-V (243) of 32 bits, little-endian, version 1; entry 0x10000; one
-- program header of 32 bytes at 52
abbrev pub elf_header : List ℕ
elf_header =
    (0x7F ∷ 0x45 ∷ 0x4C ∷ 0x46 ∷ 1 ∷ 1 ∷ 1 ∷ 0 ∷ 0 ∷ 0 ∷ 0 ∷ 0 ∷ 0 ∷ 0 ∷ 0 ∷ 0
    ∷ 2 ∷ 0 ∷ 243 ∷ 0 ∷ 1 ∷ 0 ∷ 0 ∷ 0 ∷ 0 ∷ 0 ∷ 1 ∷ 0 ∷ 52 ∷ 0 ∷ 0 ∷ 0
    ∷ 0 ∷ 0 ∷ 0 ∷ 0 ∷ 0 ∷ 0 ∷ 0 ∷ 0 ∷ 52 ∷ 0 ∷ 32 ∷ 0 ∷ 1 ∷ 0 ∷ 0 ∷ 0
    ∷ 0 ∷ 0 ∷ 0 ∷ 0 ∷ [])

-- PT_LOAD, from offset 84 to 0x10000; its size in the file and in memory; flags (read, write, execute) and alignment
abbrev pub program_header : ℕ → List ℕ
program_header size = 1 ∷ 84 ∷ 0x10000 ∷ 0x10000 ∷ size ∷ size ∷ 7 ∷ 4 ∷ []

-- the 84 bytes of both headers, for so many bytes behind them
unfoldable pub headers : ℕ → List ℕ
headers size = elf_header ++ word_bytes (program_header size)

-- the words, and the placed bytes behind them
abbrev pub size_of : List ℕ → List ℕ → ℕ
size_of words placed = 4 * length words + length placed

unfoldable pub small_image : List ℕ → List ℕ → List ℕ
small_image words placed = headers (size_of words placed) ++ word_bytes words ++ placed

-- what the loader makes of a small image that isn't empty
pub record Holds (words placed : List ℕ) (i : Image) : Type 0 where
  pub entry : i.entry ≡ base
  pub words_at : (k : ℕ) → k < length words → load w32 i.memory (base + 4 * k) ≡ Some (slice_index words k)
  pub placed_at : (k : ℕ) → k < length placed → i.memory (base + 4 * length words + k) ≡ Some (slice_index placed k)
