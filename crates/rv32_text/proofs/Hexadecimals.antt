-- Rows of hexadecimal digits and their beginnings
use Rattle.std.proofs.Common.{◌≡◌, ◌≢◌, ℕ, zero, suc, ◌+◌, ◌-◌, ◌*◌, ◌^◌, ◌<◌, ◌≤◌, List, [], ◌∷◌, ◌++◌, length, refl, sym, ap, subst, ◌∙◌, arith, add-one, append_assoc, length-append, take}
use Rattle.std.specs.Prelude.{◌/◌, ◌%◌}
use Rattle.std.proofs.lemmas.Bool.Decides.{nat_tests}
use Rattle.std.proofs.lemmas.List.{same_from_push, append-nil, take_at}
use Rattle.std.proofs.Math.Nat.{pow-suc, mul_assoc, add-suc, pow-le-pow_right}
use Rattle.report_text.specs.Texts.{hex_digit}
use Rattle.rv32_text.specs.Texts.{hex_text}
use Rattle.rv32_text.specs.declared.digits.Digits.{Digits}
use Rattle.rv32_text.specs.declared.digits.Digits.TheVariants as Rows
use Rattle.rv32_text.specs.Hexadecimals.{digit_count, HasDigits, last_digit, completed, CanComplete}
use Rattle.rv32_text.specs.Languages.{CanBegin, NoneBegins}
use Rattle.rv32_text.proofs.Languages.{Each, each_append, each_front, each_back}
use Rattle.rv32_text.proofs.Words.{HasFenceBits, fence_has, fence_bits, even_word}

pub hex_more : (k n d : ℕ) → d < 16 → hex_text (suc k) (n * 16 + d) ≡ hex_text k n ++ (hex_digit d ∷ [])
hex_more k n d h =
    let front : (n * 16 + d) / 16 ≡ n = omega arith in
    let last : (n * 16 + d) % 16 ≡ d = omega arith in
    ap (λ (x : ℕ). hex_text k x ++ (hex_digit ((n * 16 + d) % 16) ∷ [])) front ∙ ap (λ (x : ℕ). hex_text k n ++ (hex_digit x ∷ [])) last

pub hex_next : (k n d letter : ℕ) → d < 16 → hex_digit d ≡ letter → hex_text (k + 1) (n * 16 + d) ≡ hex_text k n ++ (letter ∷ [])
hex_next k n d letter h is =
    ap (λ (x : ℕ). hex_text x (n * 16 + d)) (add-one k) ∙ (hex_more k n d h ∙ ap (λ (x : ℕ). hex_text k n ++ (x ∷ [])) is)

pub length_hex : (k n : ℕ) → length (hex_text k n) ≡ k
length_hex zero n = refl
length_hex (suc k) n = length-append (hex_text k (n / 16)) (hex_digit (n % 16) ∷ []) ∙ (ap (λ (x : ℕ). x + 1) (length_hex k (n / 16)) ∙ (omega arith))

-- a number without its last k digits
abbrev pub high : ℕ → ℕ → ℕ
high zero n = n
high (suc k) n = high k (n / 16)

record HexFront (k j n : ℕ) : Type 0 where
  tail : List ℕ
  is : hex_text (k + j) n ≡ hex_text k (high j n) ++ tail

hex_front : (j k n : ℕ) → HexFront k j n
hex_front zero k n = (let e : k + 0 ≡ k = omega arith in record { tail = []; is = ap (λ (x : ℕ). hex_text x n) e ∙ sym (append-nil (hex_text k n)) })
hex_front (suc j) k n =
    let h = hex_front j k (n / 16) in
    record {
      tail = h.tail ++ (hex_digit (n % 16) ∷ []);
      is = ap (λ (x : ℕ). hex_text x n) (add-suc k j) ∙ (ap (λ (x : List ℕ). x ++ (hex_digit (n % 16) ∷ [])) h.is ∙ append_assoc (hex_text k (high j (n / 16))) h.tail (hex_digit (n % 16) ∷ []));
    }

digit_told : (a b : ℕ) → a < 16 → b < 16 → hex_digit a ≡ hex_digit b → a ≡ b
digit_told a b p q e = grind (arith, nat_tests)

pub hex_told : (k a b : ℕ) → a < 16 ^ k → b < 16 ^ k → hex_text k a ≡ hex_text k b → a ≡ b
hex_told zero a b p q e = omega arith
hex_told (suc k) a b p q e =
    let power : 16 ^ suc k ≡ 16 ^ k * 16 = pow-suc 16 k in
    let h = same_from_push (hex_text k (a / 16)) (hex_text k (b / 16)) (hex_digit (a % 16)) (hex_digit (b % 16)) e in
    let front : a / 16 ≡ b / 16 = hex_told k (a / 16) (b / 16) (omega arith) (omega arith) h.0 in
    let last : a % 16 ≡ b % 16 = digit_told (a % 16) (b % 16) (omega arith) (omega arith) h.1 in
    omega arith

high_small : (j k n : ℕ) → n < 16 ^ (k + j) → high j n < 16 ^ k
high_small zero k n h = (let e : k + 0 ≡ k = omega arith in rw e at h)
high_small (suc j) k n h =
    let power : 16 ^ (k + suc j) ≡ 16 ^ (k + j) * 16 = ap (λ (x : ℕ). 16 ^ x) (add-suc k j) ∙ pow-suc 16 (k + j) in
    high_small j k (n / 16) (omega arith)

same_front : (xs ys us vs : List ℕ) (k : ℕ) → length xs ≡ k → length ys ≡ k → xs ++ us ≡ ys ++ vs → xs ≡ ys
same_front xs ys us vs k p q e = sym (take_at xs us k p) ∙ (ap (λ (x : List ℕ). take k x) e ∙ take_at ys vs k q)

-- the digits that a number begins with
pub high_told : (j k n m : ℕ) (more : List ℕ) → n < 16 ^ (k + j) → m < 16 ^ k → hex_text (k + j) n ≡ hex_text k m ++ more → high j n ≡ m
high_told j k n m more small small_m e =
    let h = hex_front j k n in
    hex_told k (high j n) m (high_small j k n small) small_m
    (same_front (hex_text k (high j n)) (hex_text k m) h.tail more k (length_hex k (high j n)) (length_hex k m) (sym h.is ∙ e))

high_of : (j n r : ℕ) → r < 16 ^ j → high j (n * 16 ^ j + r) ≡ n
high_of zero n r h = omega arith
high_of (suc j) n r h =
    let power : 16 ^ suc j ≡ 16 ^ j * 16 = pow-suc 16 j in
    let product : n * 16 ^ suc j ≡ n * 16 ^ j * 16 = ap (λ (x : ℕ). n * x) power ∙ sym (mul_assoc n (16 ^ j) 16) in
    let front : (n * 16 ^ suc j + r) / 16 ≡ n * 16 ^ j + r / 16 = omega arith in
    ap (λ (x : ℕ). high j x) front ∙ high_of j n (r / 16) (omega arith)

pow_least : (j : ℕ) → 0 < 16 ^ j
pow_least zero = omega arith
pow_least (suc j) = (let power : 16 ^ suc j ≡ 16 ^ j * 16 = pow-suc 16 j in let least : 0 < 16 ^ j = pow_least j in omega arith)

digit_small : (digits : Digits) → last_digit digits < 16
digit_small Rows.Upper = omega arith
digit_small Rows.Fence = omega arith
digit_small Rows.Word = omega arith

high_completed : (digits : Digits) (j n : ℕ) → high j (completed digits j n) ≡ n
high_completed digits zero n = refl
high_completed digits (suc j) n =
    let power : 16 ^ suc j ≡ 16 ^ j * 16 = pow-suc 16 j in
    let least : 0 < 16 ^ j = pow_least j in
    high_of (suc j) n (last_digit digits) (omega (arith, digit_small digits))

pub can_begin : (digits : Digits) (used n : ℕ) → used ≤ digit_count digits → CanComplete digits used n
    → CanBegin (HasDigits digits) (λ m. hex_text (digit_count digits) m) (hex_text used n)
can_begin digits used n inside h =
    let count : digit_count digits ≡ used + (digit_count digits - used) = omega arith in
    let f = hex_front (digit_count digits - used) used (completed digits (digit_count digits - used) n) in
    record {
      value = completed digits (digit_count digits - used) n;
      more = f.tail;
      fits = h.1;
      is = ap (λ (x : ℕ). hex_text x (completed digits (digit_count digits - used) n)) count ∙ (f.is ∙ ap (λ (x : ℕ). hex_text used x ++ f.tail) (high_completed digits (digit_count digits - used) n));
    }

-- ---- letters

pub record IsHexDigit (letter : ℕ) : Type 0 where
  pub digit : ℕ
  pub small : digit < 16
  pub is : hex_digit digit ≡ letter

pub hex_letters : (k n : ℕ) → Each IsHexDigit (hex_text k n)
hex_letters zero n = tt
hex_letters (suc k) n = each_append IsHexDigit (hex_text k (n / 16)) (hex_digit (n % 16) ∷ []) (hex_letters k (n / 16)) (record { digit = n % 16; small = omega arith; is = refl }, tt)

-- ---- numbers of a row by their first digits

high_below : (j n : ℕ) → high j n * 16 ^ j ≤ n
high_below zero n = omega arith
high_below (suc j) n =
    let product : high j (n / 16) * 16 ^ suc j ≡ high j (n / 16) * 16 ^ j * 16 = ap (λ (x : ℕ). high j (n / 16) * x) (pow-suc 16 j) ∙ sym (mul_assoc (high j (n / 16)) (16 ^ j) 16) in
    let rest : high j (n / 16) * 16 ^ j ≤ n / 16 = high_below j (n / 16) in
    omega arith

pub small_row : (digits : Digits) (n : ℕ) → HasDigits digits n → n < 16 ^ digit_count digits
small_row Rows.Upper n h = omega arith
small_row Rows.Fence n h = h.0
small_row Rows.Word n h = h.0

power_of_three : (j m : ℕ) → m * 16 ^ suc (suc (suc j)) ≡ m * 16 ^ j * 4096
power_of_three j m =
    let one : 16 ^ suc j ≡ 16 ^ j * 16 = pow-suc 16 j in
    let two : 16 ^ suc (suc j) ≡ 16 ^ suc j * 16 = pow-suc 16 (suc j) in
    let three : 16 ^ suc (suc (suc j)) ≡ 16 ^ suc (suc j) * 16 = pow-suc 16 (suc (suc j)) in
    let all : 16 ^ suc (suc (suc j)) ≡ 16 ^ j * 4096 = omega arith in
    ap (λ (x : ℕ). m * x) all ∙ sym (mul_assoc m (16 ^ j) 4096)

-- FENCE's bits stand where a word's last digits become those of its least word
fence_completes : (j n : ℕ) → HasFenceBits n → HasFenceBits (completed Rows.Fence j (high j n))
fence_completes zero n h = h
fence_completes (suc zero) n h = record { opcode_is = omega (arith, h.opcode_is); funct3_is = omega (arith, h.opcode_is, h.funct3_is) }
fence_completes (suc (suc zero)) n h = record { opcode_is = omega (arith, h.opcode_is); funct3_is = omega (arith, h.opcode_is, h.funct3_is) }
fence_completes (suc (suc (suc zero))) n h = record { opcode_is = omega (arith, h.opcode_is); funct3_is = omega (arith, h.opcode_is, h.funct3_is) }
fence_completes (suc (suc (suc (suc j)))) n h =
    let product : high j (n / 16 / 16 / 16 / 16) * 16 ^ suc (suc (suc (suc j))) ≡ high j (n / 16 / 16 / 16 / 16) * 16 ^ suc j * 4096 = power_of_three (suc j) (high j (n / 16 / 16 / 16 / 16)) in
    let again : high j (n / 16 / 16 / 16 / 16) * 16 ^ suc j ≡ high j (n / 16 / 16 / 16 / 16) * 16 ^ j * 16 = ap (λ (x : ℕ). high j (n / 16 / 16 / 16 / 16) * x) (pow-suc 16 j) ∙ sym (mul_assoc (high j (n / 16 / 16 / 16 / 16)) (16 ^ j) 16) in
    record { opcode_is = omega arith; funct3_is = omega arith }

completes_high : (digits : Digits) (j n : ℕ) → HasDigits digits n → HasDigits digits (completed digits j (high j n))
completes_high digits zero n h = h
completes_high Rows.Upper (suc j) n h = omega (arith, high_below (suc j) n)
completes_high Rows.Word (suc j) n h =
    let product : high (suc j) n * 16 ^ suc j ≡ high (suc j) n * 16 ^ j * 16 = ap (λ (x : ℕ). high (suc j) n * x) (pow-suc 16 j) ∙ sym (mul_assoc (high (suc j) n) (16 ^ j) 16) in
    (omega (arith, high_below (suc j) n, h.0), even_word (high (suc j) n * 16 ^ suc j + 0) (high (suc j) n * 16 ^ j * 8) (omega arith))
completes_high Rows.Fence (suc j) n h =
    let bits = fence_bits n h.1 in
    let product : high (suc j) n * 16 ^ suc j ≡ high (suc j) n * 16 ^ j * 16 = ap (λ (x : ℕ). high (suc j) n * x) (pow-suc 16 j) ∙ sym (mul_assoc (high (suc j) n) (16 ^ j) 16) in
    let below : high j (n / 16) * 16 ^ j ≤ n / 16 = high_below j (n / 16) in
    (omega (arith, h.0, bits.opcode_is), fence_has (high (suc j) n * 16 ^ suc j + 15) (fence_completes (suc j) n bits))

few_digits : (digits : Digits) → digit_count digits ≤ 8
few_digits Rows.Upper = omega arith
few_digits Rows.Fence = omega arith
few_digits Rows.Word = omega arith

pub small_part : (digits : Digits) (used n : ℕ) → used < digit_count digits → CanComplete digits used n → n < 2 ^ 28
small_part digits used n inside h =
    let few : used ≤ 7 = omega (arith, few_digits digits) in
    let some : 0 < 16 = omega arith in
    let bound : 16 ^ used ≤ 16 ^ 7 = pow-le-pow_right some few in
    omega (arith, h.0)

pub small_next : (used n d : ℕ) → n < 16 ^ used → d < 16 → n * 16 + d < 16 ^ (used + 1)
small_next used n d h k =
    let power : 16 ^ (used + 1) ≡ 16 ^ used * 16 = ap (λ (x : ℕ). 16 ^ x) (add-one used) ∙ pow-suc 16 used in
    omega arith

-- ---- what is refused

module _ (digits : Digits) (used n letter : ℕ) where
  pub refuses_letter : ((d : ℕ) → d < 16 → hex_digit d ≢ letter) → NoneBegins (HasDigits digits) (λ m. hex_text (digit_count digits) m) (hex_text used n ++ (letter ∷ []))
  refuses_letter never m more fits e =
      let each : Each IsHexDigit ((hex_text used n ++ (letter ∷ [])) ++ more) = rw e at (hex_letters (digit_count digits) m) in
      let h = (each_back IsHexDigit (hex_text used n) (letter ∷ []) (each_front IsHexDigit (hex_text used n ++ (letter ∷ [])) more each)).0 in
      never h.digit h.small h.is

  pub refuses_digit : (long : ℕ) → used < digit_count digits → long < 16 ^ (used + 1) → hex_text (used + 1) long ≡ hex_text used n ++ (letter ∷ [])
      → (CanComplete digits (used + 1) long → ⊥) → NoneBegins (HasDigits digits) (λ m. hex_text (digit_count digits) m) (hex_text used n ++ (letter ∷ []))
  refuses_digit long inside small is never m more fits e =
      let count : digit_count digits ≡ used + 1 + (digit_count digits - (used + 1)) = omega arith in
      let below : m < 16 ^ (used + 1 + (digit_count digits - (used + 1))) = (let h : m < 16 ^ digit_count digits = small_row digits m fits in subst (λ (x : ℕ). m < 16 ^ x) count h) in
      let same : high (digit_count digits - (used + 1)) m ≡ long =
      high_told (digit_count digits - (used + 1)) (used + 1) m long more below small
      (ap (λ (x : ℕ). hex_text x m) (sym count) ∙ (e ∙ ap (λ (x : List ℕ). x ++ more) (sym is))) in
      never (small, (let P : ℕ → Type 0 = λ x. HasDigits digits (completed digits (digit_count digits - (used + 1)) x) in subst P same (completes_high digits (digit_count digits - (used + 1)) m fits)))

-- a row that lacks digits
pub part_of_row : (digits : Digits) (used n m : ℕ) → used ≢ digit_count digits → hex_text (digit_count digits) m ≢ hex_text used n
part_of_row digits used n m part e =
    let whole : length (hex_text (digit_count digits) m) ≡ digit_count digits = length_hex (digit_count digits) m in
    let some : length (hex_text used n) ≡ used = length_hex used n in
    part (sym some ∙ (ap length (sym e) ∙ whole))
