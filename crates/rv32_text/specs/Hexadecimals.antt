-- Rows of hexadecimal digits: which numbers a row may write, digit by digit
use Rattle.std.specs.Prelude.{◌≡◌, ℕ, zero, suc, ◌+◌, ◌-◌, ◌*◌, ◌^◌, ◌<◌, Some, None}
use Rattle.guest_model.specs.InstructionTable.{instr}
use Rattle.guest_model.specs.declared.instr.Instr.TheVariants.{Fence}
use Rattle.rv32_text.specs.declared.digits.Digits.{Digits}
use Rattle.rv32_text.specs.declared.digits.Digits.TheVariants as Rows

abbrev pub digit_count : Digits → ℕ
digit_count Rows.Upper = 5
digit_count Rows.Fence = 8
digit_count Rows.Word = 8

-- a number that such a row writes
abbrev pub HasDigits : Digits → ℕ → Type 0
HasDigits Rows.Upper n = n < 2 ^ 20
HasDigits Rows.Fence n = (n < 2 ^ 32) × (instr n ≡ Some Fence)
HasDigits Rows.Word n = (n < 2 ^ 32) × (instr n ≡ None)

-- the last digit of FENCE's least word, and of a number that has no row in the instruction table
abbrev pub last_digit : Digits → ℕ
last_digit Rows.Upper = 0
last_digit Rows.Fence = 15
last_digit Rows.Word = 0

-- a number that begins with the digits of n, and has k more
abbrev pub completed : Digits → ℕ → ℕ → ℕ
completed digits zero n = n
completed digits (suc k) n = n * 16 ^ suc k + last_digit digits

-- n has this many digits, and some number of the row begins with them
abbrev pub CanComplete : Digits → ℕ → ℕ → Type 0
CanComplete digits used n = (n < 16 ^ used) × HasDigits digits (completed digits (digit_count digits - used) n)
