-- The values that instructions compute (RISC-V Unprivileged ISA, chapter RV32I, "Integer Computational Instructions",
-- and chapter M)
use Rattle.std.specs.Prelude.{ℕ, ◌+◌, ◌-◌, ◌*◌, ◌/◌, ◌%◌, ◌^◌, Bool, not, nat_lt, ◌==◌, if◌then◌else◌, ℤ, pos, ◌*ℤ◌, int_lt, int_div, int_rem, bit_xor, bit_or, bit_and}
use Rattle.std.specs.Int.{w64, cast_unsigned, int_shr}
use Rattle.guest_model.specs.Word.{word_of, signed, sum}
use Rattle.guest_model.specs.declared.instr.Cond.{Cond}
use Rattle.guest_model.specs.declared.instr.Cond.TheVariants.{Eq, Ne, Lt, Ge, Ltu, Geu}
use Rattle.guest_model.specs.declared.instr.UpperOp.{UpperOp}
use Rattle.guest_model.specs.declared.instr.UpperOp.TheVariants.{Lui, Auipc}
use Rattle.guest_model.specs.declared.instr.ImmOp.{ImmOp}
use Rattle.guest_model.specs.declared.instr.ImmOp.TheVariants as I
use Rattle.guest_model.specs.declared.instr.RegOp.{RegOp}
use Rattle.guest_model.specs.declared.instr.RegOp.TheVariants as R

-- 1 where the test holds, else 0
abbrev pub flag : Bool → ℕ
flag b = if b then 1 else 0

abbrev pub word_difference : ℕ → ℕ → ℕ
word_difference a b = (a + (2 ^ 32 - b)) % 2 ^ 32

-- shifts take the low five bits of the second operand
abbrev pub shift_left : ℕ → ℕ → ℕ
shift_left a k = a * 2 ^ (k % 32) % 2 ^ 32

abbrev pub shift_right : ℕ → ℕ → ℕ
shift_right a k = a / 2 ^ (k % 32)

abbrev pub shift_right_signed : ℕ → ℕ → ℕ
shift_right_signed a k = word_of (int_shr (signed a) (k % 32))

-- the high word of a product of 64 bits
abbrev pub high_word : ℤ → ℕ
high_word z = cast_unsigned w64 z / 2 ^ 32

abbrev pub imm_value : ImmOp → ℕ → ℤ → ℕ
imm_value I.Add a i = sum a (word_of i)
imm_value I.Slt a i = flag (int_lt (signed a) i)
imm_value I.Sltu a i = flag (nat_lt a (word_of i))
imm_value I.Xor a i = bit_xor a (word_of i)
imm_value I.Or a i = bit_or a (word_of i)
imm_value I.And a i = bit_and a (word_of i)
imm_value I.Sll a i = shift_left a (word_of i)
imm_value I.Srl a i = shift_right a (word_of i)
imm_value I.Sra a i = shift_right_signed a (word_of i)

-- Division rounds towards zero. The quotient of -2 ^ 31 by -1 is 2 ^ 31, whose word is that of -2 ^ 31, and the
-- remainder is 0, as the manual wants.
abbrev pub op_value : RegOp → ℕ → ℕ → ℕ
op_value R.Add a b = sum a b
op_value R.Sub a b = word_difference a b
op_value R.Sll a b = shift_left a b
op_value R.Slt a b = flag (int_lt (signed a) (signed b))
op_value R.Sltu a b = flag (nat_lt a b)
op_value R.Xor a b = bit_xor a b
op_value R.Srl a b = shift_right a b
op_value R.Sra a b = shift_right_signed a b
op_value R.Or a b = bit_or a b
op_value R.And a b = bit_and a b
op_value R.Mul a b = a * b % 2 ^ 32
op_value R.Mulh a b = high_word (signed a *ℤ signed b)
op_value R.Mulhsu a b = high_word (signed a *ℤ pos b)
op_value R.Mulhu a b = a * b / 2 ^ 32
op_value R.Div a b = if b == 0 then 2 ^ 32 - 1 else word_of (int_div (signed a) (signed b))
op_value R.Divu a b = if b == 0 then 2 ^ 32 - 1 else a / b
op_value R.Rem a b = if b == 0 then a else word_of (int_rem (signed a) (signed b))
op_value R.Remu a b = if b == 0 then a else a % b

-- the branch is taken
abbrev pub taken : Cond → ℕ → ℕ → Bool
taken Eq a b = a == b
taken Ne a b = not (a == b)
taken Lt a b = int_lt (signed a) (signed b)
taken Ge a b = not (int_lt (signed a) (signed b))
taken Ltu a b = nat_lt a b
taken Geu a b = not (nat_lt a b)

abbrev pub upper_value : UpperOp → ℕ → ℕ → ℕ
upper_value Lui pc imm = imm
upper_value Auipc pc imm = sum pc imm
