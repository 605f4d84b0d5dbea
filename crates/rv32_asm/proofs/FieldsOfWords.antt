-- The fields and the immediates of a word that was put together from them
use Rattle.std.proofs.Common.{◌≡◌, ℕ, ◌+◌, ◌*◌, ◌<◌, ◌^◌, ℤ, pos, negsuc, arith, ap, ◌∙◌}
use Rattle.std.specs.Prelude.{◌/◌, ◌%◌}
use Rattle.std.proofs.lemmas.Int.{ints}
use Rattle.std.proofs.lemmas.Bool.Decides.{nat_tests}
use Rattle.guest_model.specs.Word.{field, sign_extend, word_of, opcode, rd, funct3, rs1, rs2, funct7, imm_i, imm_s, imm_b, imm_u, imm_j}
use Rattle.rv32_asm.specs.Encoding.{r_type, i_type, s_type, b_type, u_type, j_type, IsShortOffset, IsBranchOffset, IsJumpOffset}

-- the fields of a word
pub record HasFields (w o f d a b g : ℕ) : Type 0 where
  pub opcode_is : opcode w ≡ o
  pub funct3_is : funct3 w ≡ f
  pub rd_is : rd w ≡ d
  pub rs1_is : rs1 w ≡ a
  pub rs2_is : rs2 w ≡ b
  pub funct7_is : funct7 w ≡ g

pub fields_of : (w o f d a b g : ℕ) → w ≡ r_type o f d a b g
    → o < 128 → f < 8 → d < 32 → a < 32 → b < 32 → g < 128 → HasFields w o f d a b g
fields_of w o f d a b g e po pf pd pa pb pg = record {
  opcode_is = omega arith;
  funct3_is = omega arith;
  rd_is = omega arith;
  rs1_is = omega arith;
  rs2_is = omega arith;
  funct7_is = omega arith;
}

-- each immediate is got back from the low bits of its word
pub extend_short : (z : ℤ) (n : ℕ) → n ≡ field 11 0 (word_of z) → IsShortOffset z → sign_extend 12 n ≡ z
extend_short (pos m) n e h = grind (arith, nat_tests, ints)
extend_short (negsuc m) n e h = grind (arith, nat_tests, ints)

pub extend_branch : (z : ℤ) (n : ℕ) → n ≡ word_of z % 2 ^ 13 → IsBranchOffset z → sign_extend 13 n ≡ z
extend_branch (pos m) n e h = grind (arith, nat_tests, ints)
extend_branch (negsuc m) n e h = grind (arith, nat_tests, ints)

pub extend_jump : (z : ℤ) (n : ℕ) → n ≡ word_of z % 2 ^ 21 → IsJumpOffset z → sign_extend 21 n ≡ z
extend_jump (pos m) n e h = grind (arith, nat_tests, ints)
extend_jump (negsuc m) n e h = grind (arith, nat_tests, ints)

-- ---- the formats with an immediate, given as a word n

pub i_fields : (w o f d a n : ℕ) → w ≡ i_type o f d a n → o < 128 → f < 8 → d < 32 → a < 32
    → HasFields w o f d a (n % 2 ^ 5) (n / 2 ^ 5 % 2 ^ 7)
i_fields w o f d a n e po pf pd pa =
    fields_of w o f d a (n % 2 ^ 5) (n / 2 ^ 5 % 2 ^ 7) (omega arith) po pf pd pa (omega arith) (omega arith)

pub imm_i_of : (w o f d a n : ℕ) (z : ℤ) → w ≡ i_type o f d a n → n ≡ word_of z → IsShortOffset z → o < 128 → f < 8 → d < 32 → a < 32
    → imm_i w ≡ z
imm_i_of w o f d a n z e en h po pf pd pa =
    let same : field 31 20 w ≡ field 11 0 n = omega arith in
    extend_short z (field 31 20 w) (same ∙ ap (field 11 0) en) h

pub s_fields : (w o f a b n : ℕ) → w ≡ s_type o f a b n → o < 128 → f < 8 → a < 32 → b < 32
    → HasFields w o f (n % 2 ^ 5) a b (n / 2 ^ 5 % 2 ^ 7)
s_fields w o f a b n e po pf pa pb =
    fields_of w o f (n % 2 ^ 5) a b (n / 2 ^ 5 % 2 ^ 7) (omega arith) po pf (omega arith) pa pb (omega arith)

pub imm_s_of : (w o f a b n : ℕ) (z : ℤ) → w ≡ s_type o f a b n → n ≡ word_of z → IsShortOffset z → o < 128 → f < 8 → a < 32 → b < 32
    → imm_s w ≡ z
imm_s_of w o f a b n z e en h po pf pa pb =
    let same : field 31 25 w * 2 ^ 5 + field 11 7 w ≡ field 11 0 n = omega arith in
    extend_short z (field 31 25 w * 2 ^ 5 + field 11 7 w) (same ∙ ap (field 11 0) en) h

pub b_fields : (w o f a b n : ℕ) → w ≡ b_type o f a b n → o < 128 → f < 8 → a < 32 → b < 32
    → HasFields w o f (field 11 11 n + field 4 1 n * 2) a b (field 10 5 n + field 12 12 n * 2 ^ 6)
b_fields w o f a b n e po pf pa pb =
    fields_of w o f (field 11 11 n + field 4 1 n * 2) a b (field 10 5 n + field 12 12 n * 2 ^ 6)
    (omega arith) po pf (omega arith) pa pb (omega arith)

-- the bits of a branch's offset, of which the lowest is 0
low_13 : (n : ℕ) → n % 2 ≡ 0
    → field 12 12 n * 2 ^ 12 + field 11 11 n * 2 ^ 11 + field 10 5 n * 2 ^ 5 + field 4 1 n * 2 ≡ n % 2 ^ 13
low_13 n h = omega arith

pub imm_b_of : (w o f a b n : ℕ) (z : ℤ) → w ≡ b_type o f a b n → n ≡ word_of z → IsBranchOffset z → o < 128 → f < 8 → a < 32 → b < 32
    → imm_b w ≡ z
imm_b_of w o f a b n z e en h po pf pa pb =
    let e31 : field 31 31 w ≡ field 12 12 n = omega arith in
    let e7 : field 7 7 w ≡ field 11 11 n = omega arith in
    let e25 : field 30 25 w ≡ field 10 5 n = omega arith in
    let e8 : field 11 8 w ≡ field 4 1 n = omega arith in
    let even : n % 2 ≡ 0 = ap (λ m. m % 2) en ∙ h.2 in
    let same : field 31 31 w * 2 ^ 12 + field 7 7 w * 2 ^ 11 + field 30 25 w * 2 ^ 5 + field 11 8 w * 2 ≡ n % 2 ^ 13 = omega (arith, low_13 n even) in
    extend_branch z (field 31 31 w * 2 ^ 12 + field 7 7 w * 2 ^ 11 + field 30 25 w * 2 ^ 5 + field 11 8 w * 2) (same ∙ ap (λ m. m % 2 ^ 13) en) h

pub u_fields : (w o d n : ℕ) → w ≡ u_type o d n → o < 128 → d < 32 → n < 2 ^ 32 → n % 2 ^ 12 ≡ 0
    → (opcode w ≡ o) × (rd w ≡ d) × (imm_u w ≡ n)
u_fields w o d n e po pd pn h = (omega arith, omega arith, omega arith)

pub j_fields : (w o d n : ℕ) → w ≡ j_type o d n → o < 128 → d < 32 → (opcode w ≡ o) × (rd w ≡ d)
j_fields w o d n e po pd = (omega arith, omega arith)

low_21 : (n : ℕ) → n % 2 ≡ 0
    → field 20 20 n * 2 ^ 20 + field 19 12 n * 2 ^ 12 + field 11 11 n * 2 ^ 11 + field 10 1 n * 2 ≡ n % 2 ^ 21
low_21 n h = omega arith

pub imm_j_of : (w o d n : ℕ) (z : ℤ) → w ≡ j_type o d n → n ≡ word_of z → IsJumpOffset z → o < 128 → d < 32 → imm_j w ≡ z
imm_j_of w o d n z e en h po pd =
    let e31 : field 31 31 w ≡ field 20 20 n = omega arith in
    let e12 : field 19 12 w ≡ field 19 12 n = omega arith in
    let e20 : field 20 20 w ≡ field 11 11 n = omega arith in
    let e21 : field 30 21 w ≡ field 10 1 n = omega arith in
    let even : n % 2 ≡ 0 = ap (λ m. m % 2) en ∙ h.2 in
    let same : field 31 31 w * 2 ^ 20 + field 19 12 w * 2 ^ 12 + field 20 20 w * 2 ^ 11 + field 30 21 w * 2 ≡ n % 2 ^ 21 = omega (arith, low_21 n even) in
    extend_jump z (field 31 31 w * 2 ^ 20 + field 19 12 w * 2 ^ 12 + field 20 20 w * 2 ^ 11 + field 30 21 w * 2) (same ∙ ap (λ m. m % 2 ^ 21) en) h
