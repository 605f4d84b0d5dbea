-- An image of three instructions at 0x10000: ADDI a0, x0, 0; ADDI a7, x0, 93; ECALL
use Rattle.std.specs.Prelude.{ℕ, ◌+◌, ◌/◌, ◌%◌, List, [], ◌∷◌, slice_set}

abbrev pub small_image : List ℕ
small_image =
    (0x7F ∷ 0x45 ∷ 0x4C ∷ 0x46 ∷ 1 ∷ 1 ∷ 1 ∷ 0 ∷ 0 ∷ 0 ∷ 0 ∷ 0 ∷ 0 ∷ 0 ∷ 0 ∷ 0
    ∷ 2 ∷ 0 ∷ 0xF3 ∷ 0 ∷ 1 ∷ 0 ∷ 0 ∷ 0 ∷ 0 ∷ 0 ∷ 1 ∷ 0 ∷ 0x34 ∷ 0 ∷ 0 ∷ 0
    ∷ 0 ∷ 0 ∷ 0 ∷ 0 ∷ 0 ∷ 0 ∷ 0 ∷ 0 ∷ 0x34 ∷ 0 ∷ 0x20 ∷ 0 ∷ 1 ∷ 0 ∷ 0 ∷ 0
    ∷ 0 ∷ 0 ∷ 0 ∷ 0 ∷ 1 ∷ 0 ∷ 0 ∷ 0 ∷ 0x54 ∷ 0 ∷ 0 ∷ 0 ∷ 0 ∷ 0 ∷ 1 ∷ 0
    ∷ 0 ∷ 0 ∷ 1 ∷ 0 ∷ 0x0C ∷ 0 ∷ 0 ∷ 0 ∷ 0x0C ∷ 0 ∷ 0 ∷ 0 ∷ 7 ∷ 0 ∷ 0 ∷ 0
    ∷ 4 ∷ 0 ∷ 0 ∷ 0 ∷ 0x13 ∷ 5 ∷ 0 ∷ 0 ∷ 0x93 ∷ 8 ∷ 0xD0 ∷ 5 ∷ 0x73 ∷ 0 ∷ 0 ∷ 0
    ∷ [])

-- the same with another byte at this place
abbrev pub with_byte : ℕ → ℕ → List ℕ
with_byte i x = slice_set small_image i x

-- the same with another word of four bytes from this place on
abbrev pub with_word : ℕ → ℕ → List ℕ
with_word i w = slice_set (slice_set (slice_set (slice_set small_image i (w % 256)) (i + 1) (w / 256 % 256)) (i + 2) (w / 65536 % 256)) (i + 3) (w / 16777216)
