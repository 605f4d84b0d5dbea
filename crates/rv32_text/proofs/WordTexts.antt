-- Hexadecimal digits as they are printed, byte by byte
use Rattle.std.proofs.Common.{◌≡◌, ℕ, ◌<◌, ◌^◌, [], ◌∷◌, ◌++◌, refl, arith}
use Rattle.std.specs.Prelude.{◌/◌, ◌%◌}
use Rattle.report_text.specs.Texts.{hex_digit, byte_text, address_text}
use Rattle.rv32_text.specs.Texts.{hex_text}

-- a list of eight digits by its members
eight : (a b c d e f g h i j k l m n o p : ℕ) → a ≡ i → b ≡ j → c ≡ k → d ≡ l → e ≡ m → f ≡ n → g ≡ o → h ≡ p
    → hex_digit a ∷ (hex_digit b ∷ (hex_digit c ∷ (hex_digit d ∷ (hex_digit e ∷ (hex_digit f ∷ (hex_digit g ∷ (hex_digit h ∷ [])))))))
    ≡ hex_digit i ∷ (hex_digit j ∷ (hex_digit k ∷ (hex_digit l ∷ (hex_digit m ∷ (hex_digit n ∷ (hex_digit o ∷ (hex_digit p ∷ [])))))))
eight a b c d e f g h i j k l m n o p ea eb ec ed ee ef eg eh = rw (ea, eb, ec, ed, ee, ef, eg, eh) refl

five : (a b c d e i j k l m : ℕ) → a ≡ i → b ≡ j → c ≡ k → d ≡ l → e ≡ m
    → hex_digit a ∷ (hex_digit b ∷ (hex_digit c ∷ (hex_digit d ∷ (hex_digit e ∷ []))))
    ≡ hex_digit i ∷ (hex_digit j ∷ (hex_digit k ∷ (hex_digit l ∷ (hex_digit m ∷ []))))
five a b c d e i j k l m ea eb ec ed ee = rw (ea, eb, ec, ed, ee) refl

pub word_digits : (w : ℕ) → address_text w ≡ hex_text 8 w
word_digits w =
    eight (w / 2 ^ 24 % 256 / 16) (w / 2 ^ 24 % 256 % 16) (w / 2 ^ 16 % 256 / 16) (w / 2 ^ 16 % 256 % 16) (w / 2 ^ 8 % 256 / 16) (w / 2 ^ 8 % 256 % 16) (w % 256 / 16) (w % 256 % 16)
    (w / 16 / 16 / 16 / 16 / 16 / 16 / 16 % 16) (w / 16 / 16 / 16 / 16 / 16 / 16 % 16) (w / 16 / 16 / 16 / 16 / 16 % 16) (w / 16 / 16 / 16 / 16 % 16) (w / 16 / 16 / 16 % 16) (w / 16 / 16 % 16) (w / 16 % 16) (w % 16)
    (omega arith) (omega arith) (omega arith) (omega arith) (omega arith) (omega arith) (omega arith) (omega arith)

pub upper_digits : (w : ℕ) → w < 2 ^ 32 → byte_text (w / 2 ^ 24) ++ (byte_text (w / 2 ^ 16 % 256) ++ (hex_digit (w / 2 ^ 12 % 16 % 16) ∷ [])) ≡ hex_text 5 (w / 2 ^ 12)
upper_digits w small =
    five (w / 2 ^ 24 / 16) (w / 2 ^ 24 % 16) (w / 2 ^ 16 % 256 / 16) (w / 2 ^ 16 % 256 % 16) (w / 2 ^ 12 % 16 % 16)
    (w / 2 ^ 12 / 16 / 16 / 16 / 16 % 16) (w / 2 ^ 12 / 16 / 16 / 16 % 16) (w / 2 ^ 12 / 16 / 16 % 16) (w / 2 ^ 12 / 16 % 16) (w / 2 ^ 12 % 16)
    (omega arith) (omega arith) (omega arith) (omega arith) (omega arith)
