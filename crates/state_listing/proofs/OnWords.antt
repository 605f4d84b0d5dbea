-- The words of a line: how a number's text begins; and of an address, which bytes its text lacks, how long it is, and that it
-- tells the address
use Rattle.std.proofs.Common.{◌≡◌, ◌≢◌, ℕ, zero, suc, ◌+◌, ◌^◌, ◌<◌, List, [], ◌∷◌, ◌++◌, length, get_or, All, Result, Ok, Err, decimal, refl, sym, ap, arith}
use Rattle.std.specs.Prelude.{◌/◌, ◌%◌}
use Rattle.std.specs.Int.{w32, from_be_bytes, to_be_bytes}
use Rattle.std.specs.Result.{result_ok}
use Rattle.std.specs.Str.Parse.{AllDigits, digits_value, ParsesUnsigned}
use Rattle.std.proofs.lemmas.Str.Parse.{IsNumeralModel, numerals_by_value, tells_digits, parse_plain}
use Rattle.std.proofs.lemmas.Bool.Decides.{nat_tests}
use Rattle.std.proofs.lemmas.Nat.{be_bytes_4}
use Rattle.std.proofs.lemmas.Slice.Eq.{text_from_reads}
use Rattle.board_events.proofs.Bytes.{Lacks, lacks_cons, lacks_append}
use Rattle.board_events.proofs.Numbers.{decimal_first, decimal_zero, parsed_is, parsed_none}
use Rattle.report_text.specs.Texts.{hex_digit, byte_text, address_text}
use Rattle.state_listing.specs.Values.{IsValueOf, BeginsPlainly}

pub lacks-all : (c : ℕ) (bs : List ℕ) → All (λ b. b ≢ c) bs → Lacks c bs
lacks-all c bs h i inside = h i 0 inside

pub lacks-nil : (c : ℕ) → Lacks c []
lacks-nil c i inside = absurd (omega arith)

-- ---- numbers

pub decimal_plain : (n : ℕ) → n < 2 ^ 64 → BeginsPlainly (decimal n)
decimal_plain n small = record { unsigned = λ is. decimal_first 43 n small (omega arith) is; plain = λ is. decimal_zero n small is }

own : IsNumeralModel (AllDigits 10) (digits_value 10)
own = numerals_by_value _ tells_digits

-- the number that is parsed
pub parsed_value : {E : Type 0} (bs : List ℕ) → BeginsPlainly bs → (r : Result ℕ E) → ParsesUnsigned 64 10 bs r → IsValueOf (λ n. n < 2 ^ 64) decimal bs (result_ok r)
parsed_value {E} bs plain (Ok n) h =
    let p = parse_plain own {E = E} 64 bs (Ok n) h plain.unsigned in (
      rw p.1 p.0.2,
      sym (parsed_is {E = E} bs plain.unsigned plain.plain (Ok n) h),
    )
parsed_value {E} bs plain (Err e) h = λ n small is. parsed_none {E = E} bs plain.unsigned plain.plain (Err e) h n small (sym is)

-- ---- which bytes an address lacks

digit_above : (c d : ℕ) → c < 48 → hex_digit d ≢ c
digit_above c d low e = grind (arith, nat_tests)

byte_lacks : (c b : ℕ) → c < 48 → Lacks c (byte_text b)
byte_lacks c b low = lacks_cons c (hex_digit (b / 16)) (hex_digit (b % 16) ∷ []) (digit_above c (b / 16) low) (lacks_cons c (hex_digit (b % 16)) [] (digit_above c (b % 16) low) (lacks-nil c))

pub address_lacks : (c a : ℕ) → c < 48 → Lacks c (address_text a)
address_lacks c a low =
    lacks_append c (byte_text (a / 2 ^ 24 % 256)) (byte_text (a / 2 ^ 16 % 256) ++ (byte_text (a / 2 ^ 8 % 256) ++ byte_text (a % 256))) (byte_lacks c (a / 2 ^ 24 % 256) low)
    (lacks_append c (byte_text (a / 2 ^ 16 % 256)) (byte_text (a / 2 ^ 8 % 256) ++ byte_text (a % 256)) (byte_lacks c (a / 2 ^ 16 % 256) low)
    (lacks_append c (byte_text (a / 2 ^ 8 % 256)) (byte_text (a % 256)) (byte_lacks c (a / 2 ^ 8 % 256) low) (byte_lacks c (a % 256) low)))

pub length-address_text : (a : ℕ) → length (address_text a) ≡ 8
length-address_text a = refl

-- ---- that it tells the value

digit_told : (a b : ℕ) → a < 16 → b < 16 → hex_digit a ≡ hex_digit b → a ≡ b
digit_told a b p q e = grind (arith, nat_tests)

byte_told : (a b : ℕ) → a < 256 → b < 256 → byte_text a ≡ byte_text b → a ≡ b
byte_told a b p q e =
    let high : hex_digit (a / 16) ≡ hex_digit (b / 16) = ap (λ (xs : List ℕ). get_or xs 0 0) e in
    let low : hex_digit (a % 16) ≡ hex_digit (b % 16) = ap (λ (xs : List ℕ). get_or xs 1 0) e in
    let front : a / 16 ≡ b / 16 = digit_told (a / 16) (b / 16) (omega arith) (omega arith) high in
    let last : a % 16 ≡ b % 16 = digit_told (a % 16) (b % 16) (omega arith) (omega arith) low in
    omega arith

-- the bytes at two places of a text
pair_at : List ℕ → ℕ → List ℕ
pair_at xs i = get_or xs i 0 ∷ get_or xs (i + 1) 0 ∷ []

pub address_told : (a b : ℕ) → a < 2 ^ 32 → b < 2 ^ 32 → address_text a ≡ address_text b → a ≡ b
unfolding pair_at
address_told a b p q e =
    let first : a / 2 ^ 24 % 256 ≡ b / 2 ^ 24 % 256 = byte_told (a / 2 ^ 24 % 256) (b / 2 ^ 24 % 256) (omega arith) (omega arith) (ap (λ (xs : List ℕ). pair_at xs 0) e) in
    let second : a / 2 ^ 16 % 256 ≡ b / 2 ^ 16 % 256 = byte_told (a / 2 ^ 16 % 256) (b / 2 ^ 16 % 256) (omega arith) (omega arith) (ap (λ (xs : List ℕ). pair_at xs 2) e) in
    let third : a / 2 ^ 8 % 256 ≡ b / 2 ^ 8 % 256 = byte_told (a / 2 ^ 8 % 256) (b / 2 ^ 8 % 256) (omega arith) (omega arith) (ap (λ (xs : List ℕ). pair_at xs 4) e) in
    let last : a % 256 ≡ b % 256 = byte_told (a % 256) (b % 256) (omega arith) (omega arith) (ap (λ (xs : List ℕ). pair_at xs 6) e) in
    omega arith

bytes_below : (a b c d : ℕ) → a < 256 → b < 256 → c < 256 → d < 256 → (i : ℕ) → get_or (a ∷ b ∷ c ∷ d ∷ []) i 0 < 256
bytes_below a b c d p q r s zero = p
bytes_below a b c d p q r s (suc zero) = q
bytes_below a b c d p q r s (suc (suc zero)) = r
bytes_below a b c d p q r s (suc (suc (suc zero))) = s
bytes_below a b c d p q r s (suc (suc (suc (suc i)))) = omega arith

-- the address of four bytes
pub address_text-from_bytes : (n a b c d : ℕ) → a < 256 → b < 256 → c < 256 → d < 256 → n ≡ from_be_bytes w32 (a ∷ b ∷ c ∷ d ∷ []) → address_text n ≡ byte_text a ++ (byte_text b ++ (byte_text c ++ byte_text d))
address_text-from_bytes n a b c d p q r s e =
    let bytes : to_be_bytes w32 n ≡ a ∷ b ∷ c ∷ d ∷ [] = be_bytes_4 (a ∷ b ∷ c ∷ d ∷ []) n refl (bytes_below a b c d p q r s) e in
    ap (λ (xs : List ℕ). byte_text (get_or xs 0 0) ++ (byte_text (get_or xs 1 0) ++ (byte_text (get_or xs 2 0) ++ byte_text (get_or xs 3 0)))) bytes

-- a text of eight bytes
pub eight_bytes : (xs : List ℕ) → length xs ≡ 8 → xs ≡ get_or xs 0 0 ∷ get_or xs 1 0 ∷ get_or xs 2 0 ∷ get_or xs 3 0 ∷ get_or xs 4 0 ∷ get_or xs 5 0 ∷ get_or xs 6 0 ∷ get_or xs 7 0 ∷ []
eight_bytes xs h = text_from_reads xs (get_or xs 0 0 ∷ get_or xs 1 0 ∷ get_or xs 2 0 ∷ get_or xs 3 0 ∷ get_or xs 4 0 ∷ get_or xs 5 0 ∷ get_or xs 6 0 ∷ get_or xs 7 0 ∷ []) h (refl, (refl, (refl, (refl, (refl, (refl, (refl, (refl, tt))))))))
