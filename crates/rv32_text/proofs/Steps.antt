-- One digit more in a row: which digits go on towards a number of the row
use Rattle.std.proofs.Common.{◌≡◌, ℕ, zero, suc, ◌+◌, ◌*◌, ◌^◌, ◌<◌, arith, refl, subst}
use Rattle.std.specs.Prelude.{◌/◌, ◌%◌}
use Rattle.rv32_text.specs.declared.digits.Digits.TheVariants as Rows
use Rattle.rv32_text.specs.Hexadecimals.{CanComplete}
use Rattle.rv32_text.proofs.Words.{fence_has, fence_bits, even_word}

pub upper_step : (place n : ℕ) → place < 5 → CanComplete Rows.Upper place (n / 16) → CanComplete Rows.Upper (place + 1) n
upper_step zero n inside h = (omega (arith, h.0), omega (arith, h.0))
upper_step (suc zero) n inside h = (omega (arith, h.0), omega (arith, h.0))
upper_step (suc (suc zero)) n inside h = (omega (arith, h.0), omega (arith, h.0))
upper_step (suc (suc (suc zero))) n inside h = (omega (arith, h.0), omega (arith, h.0))
upper_step (suc (suc (suc (suc zero)))) n inside h = (omega (arith, h.0), omega (arith, h.0))
upper_step (suc (suc (suc (suc (suc place))))) n inside h = absurd (omega arith)

pub word_step : (place n : ℕ) → place < 7 → CanComplete Rows.Word place (n / 16) → CanComplete Rows.Word (place + 1) n
word_step zero n inside h = (omega (arith, h.0), (omega (arith, h.0), even_word (n * 16 ^ 7 + 0) (n * 8 * 16 ^ 6) (omega arith)))
word_step (suc zero) n inside h = (omega (arith, h.0), (omega (arith, h.0), even_word (n * 16 ^ 6 + 0) (n * 8 * 16 ^ 5) (omega arith)))
word_step (suc (suc zero)) n inside h = (omega (arith, h.0), (omega (arith, h.0), even_word (n * 16 ^ 5 + 0) (n * 8 * 16 ^ 4) (omega arith)))
word_step (suc (suc (suc zero))) n inside h = (omega (arith, h.0), (omega (arith, h.0), even_word (n * 16 ^ 4 + 0) (n * 8 * 16 ^ 3) (omega arith)))
word_step (suc (suc (suc (suc zero)))) n inside h = (omega (arith, h.0), (omega (arith, h.0), even_word (n * 16 ^ 3 + 0) (n * 8 * 16 ^ 2) (omega arith)))
word_step (suc (suc (suc (suc (suc zero))))) n inside h = (omega (arith, h.0), (omega (arith, h.0), even_word (n * 16 ^ 2 + 0) (n * 8 * 16) (omega arith)))
word_step (suc (suc (suc (suc (suc (suc zero)))))) n inside h = (omega (arith, h.0), (omega (arith, h.0), even_word (n * 16 ^ 1 + 0) (n * 8) (omega arith)))
word_step (suc (suc (suc (suc (suc (suc (suc place))))))) n inside h = absurd (omega arith)

-- the places at which FENCE's words have few digits
pub record FenceDigit (place n : ℕ) : Type 0 where
  pub funct3 : place ≡ 4 → n % 8 ≡ 0
  pub opcode_high : place ≡ 6 → n % 8 ≡ 0
  pub opcode_low : place ≡ 7 → n % 16 ≡ 15

pub fence_step : (place n : ℕ) → place < 8 → CanComplete Rows.Fence place (n / 16) → FenceDigit place n → CanComplete Rows.Fence (place + 1) n
fence_step zero n inside h d =
    (omega (arith, h.0), (omega (arith, h.0), fence_has (n * 16 ^ 7 + 15) (record { opcode_is = omega arith; funct3_is = omega arith })))
fence_step (suc zero) n inside h d =
    (omega (arith, h.0), (omega (arith, h.0), fence_has (n * 16 ^ 6 + 15) (record { opcode_is = omega arith; funct3_is = omega arith })))
fence_step (suc (suc zero)) n inside h d =
    (omega (arith, h.0), (omega (arith, h.0), fence_has (n * 16 ^ 5 + 15) (record { opcode_is = omega arith; funct3_is = omega arith })))
fence_step (suc (suc (suc zero))) n inside h d =
    (omega (arith, h.0), (omega (arith, h.0), fence_has (n * 16 ^ 4 + 15) (record { opcode_is = omega arith; funct3_is = omega arith })))
fence_step (suc (suc (suc (suc zero)))) n inside h d =
    let now : n % 8 ≡ 0 = d.funct3 refl in
    (omega (arith, h.0), (omega (arith, h.0), fence_has (n * 16 ^ 3 + 15) (record { opcode_is = omega arith; funct3_is = omega arith })))
fence_step (suc (suc (suc (suc (suc zero))))) n inside h d =
    let bits = fence_bits (n / 16 * 16 ^ 3 + 15) h.1.1 in
    (omega (arith, h.0), (omega (arith, h.0), fence_has (n * 16 ^ 2 + 15) (record { opcode_is = omega arith; funct3_is = omega (arith, bits.funct3_is) })))
fence_step (suc (suc (suc (suc (suc (suc zero)))))) n inside h d =
    let bits = fence_bits (n / 16 * 16 ^ 2 + 15) h.1.1 in
    let now : n % 8 ≡ 0 = d.opcode_high refl in
    (omega (arith, h.0), (omega (arith, h.0), fence_has (n * 16 ^ 1 + 15) (record { opcode_is = omega arith; funct3_is = omega (arith, bits.funct3_is) })))
fence_step (suc (suc (suc (suc (suc (suc (suc zero))))))) n inside h d =
    let bits = fence_bits (n / 16 * 16 ^ 1 + 15) h.1.1 in
    let now : n % 16 ≡ 15 = d.opcode_low refl in
    (omega (arith, h.0), (omega (arith, h.0), fence_has n (record { opcode_is = omega (arith, bits.opcode_is); funct3_is = omega (arith, bits.funct3_is) })))
fence_step (suc (suc (suc (suc (suc (suc (suc (suc place)))))))) n inside h d = absurd (omega arith)

pub fence_digit : (place n : ℕ) → CanComplete Rows.Fence (place + 1) n → FenceDigit place n
fence_digit place n h = record {
  funct3 = λ e. (let there : CanComplete Rows.Fence 5 n = subst (λ (x : ℕ). CanComplete Rows.Fence (x + 1) n) e h in let bits = fence_bits (n * 16 ^ 3 + 15) there.1.1 in omega (arith, bits.funct3_is));
  opcode_high = λ e. (let there : CanComplete Rows.Fence 7 n = subst (λ (x : ℕ). CanComplete Rows.Fence (x + 1) n) e h in let bits = fence_bits (n * 16 ^ 1 + 15) there.1.1 in omega (arith, bits.opcode_is));
  opcode_low = λ e. (let there : CanComplete Rows.Fence 8 n = subst (λ (x : ℕ). CanComplete Rows.Fence (x + 1) n) e h in let bits = fence_bits n there.1.1 in omega (arith, bits.opcode_is));
}

pub last_small : (n : ℕ) → CanComplete Rows.Word 7 (n / 16) → n < 2 ^ 32
last_small n h = omega (arith, h.0)
