-- A number as the immediates of two instructions, LUI and ADDI (RISC-V Unprivileged ISA, chapter RV32I, "Integer
-- Register-Immediate Instructions")
use Rattle.std.specs.Prelude.{◌≡◌, ℕ, ◌+◌, ◌*◌, ◌/◌, ◌%◌, ◌^◌, ℤ}
use Rattle.guest_model.specs.Word.{sign_extend, word_of, sum}

-- the lower 12 bits, which ADDI extends by their sign
abbrev pub lower_part : ℕ → ℤ
lower_part value = sign_extend 12 (value % 2 ^ 12)

-- the upper 20 bits, one more where the lower part is below 0
abbrev pub upper_part : ℕ → ℕ
upper_part value = (value + 2 ^ 11) / 2 ^ 12 * 2 ^ 12 % 2 ^ 32

-- the two add up to the number
abbrev pub AddsUp : ℕ → Type 0
AddsUp value = sum (upper_part value) (word_of (lower_part value)) ≡ value
