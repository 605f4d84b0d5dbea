-- Words and their fields (RISC-V Unprivileged ISA, chapter RV32I, "Base Instruction Formats" and "Immediate Encoding
-- Variants")
use Rattle.std.specs.Prelude.{ℕ, ◌+◌, ◌-◌, ◌*◌, ◌/◌, ◌%◌, ◌^◌, nat_lt, if◌then◌else◌, ℤ, pos, ◌-ℤ◌}
use Rattle.std.specs.Int.{w32, cast_signed, cast_unsigned}

-- bits hi to lo of a word, as a number
abbrev pub field : ℕ → ℕ → ℕ → ℕ
field hi lo w = w / 2 ^ lo % 2 ^ (hi + 1 - lo)

-- a field of n bits, sign-extended from its highest bit
abbrev pub sign_extend : ℕ → ℕ → ℤ
sign_extend n x = if nat_lt x (2 ^ (n - 1)) then pos x else pos x -ℤ pos (2 ^ n)

abbrev pub opcode : ℕ → ℕ
opcode w = field 6 0 w

abbrev pub rd : ℕ → ℕ
rd w = field 11 7 w

abbrev pub funct3 : ℕ → ℕ
funct3 w = field 14 12 w

abbrev pub rs1 : ℕ → ℕ
rs1 w = field 19 15 w

abbrev pub rs2 : ℕ → ℕ
rs2 w = field 24 20 w

abbrev pub funct7 : ℕ → ℕ
funct7 w = field 31 25 w

abbrev pub imm_i : ℕ → ℤ
imm_i w = sign_extend 12 (field 31 20 w)

abbrev pub imm_s : ℕ → ℤ
imm_s w = sign_extend 12 (field 31 25 w * 2 ^ 5 + field 11 7 w)

abbrev pub imm_b : ℕ → ℤ
imm_b w = sign_extend 13 (field 31 31 w * 2 ^ 12 + field 7 7 w * 2 ^ 11 + field 30 25 w * 2 ^ 5 + field 11 8 w * 2)

abbrev pub imm_u : ℕ → ℕ
imm_u w = field 31 12 w * 2 ^ 12

abbrev pub imm_j : ℕ → ℤ
imm_j w = sign_extend 21 (field 31 31 w * 2 ^ 20 + field 19 12 w * 2 ^ 12 + field 20 20 w * 2 ^ 11 + field 30 21 w * 2)

-- the word of an integer, modulo 2 ^ 32
abbrev pub word_of : ℤ → ℕ
word_of z = cast_unsigned w32 z

-- the signed reading of a word
abbrev pub signed : ℕ → ℤ
signed w = cast_signed w32 w

-- sums of words are modulo 2 ^ 32
abbrev pub sum : ℕ → ℕ → ℕ
sum a b = (a + b) % 2 ^ 32
