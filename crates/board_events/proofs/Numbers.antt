-- Plain decimal text and what `parse` gives of it
use Rattle.std.proofs.Common.{◌≡◌, ◌≢◌, ℕ, zero, suc, ◌<◌, ◌^◌, List, length, get_or, Result, Ok, Err, sym, ap, ◌∙◌, arith, slice_get, unwrap_or, decimal, IfSome, IfNone}
use Rattle.std.specs.Result.{result_ok}
use Rattle.std.specs.Str.Parse.{AllDigits, digits_value, ParsesUnsigned}
use Rattle.std.proofs.lemmas.Str.Parse.{IsNumeralModel, numerals_by_value, tells_digits, not_in_digits, parse_plain}
use Rattle.std.proofs.lemmas.Fmt.{digits_decimal, digits_value-decimal, decimal_nonempty, decimal_digit, first_decimal, decimal-digits_value}
use Rattle.std.proofs.lemmas.Option.{unwrap_or-slice_get}
use Rattle.board_events.proofs.Bytes.{Lacks}

own : IsNumeralModel (AllDigits 10) (digits_value 10)
own = numerals_by_value _ tells_digits

-- digits are neither signs nor dots nor spaces
pub decimal_lacks : (c n : ℕ) → n < 2 ^ 64 → c < 48 → Lacks c (decimal n)
decimal_lacks c n small low = not_in_digits own (decimal n) c (digits_decimal own n small) (λ r. omega (arith, r.0))

pub decimal_first : (c n : ℕ) → n < 2 ^ 64 → c < 48 → get_or (decimal n) 0 0 ≡ c → ⊥
decimal_first c n small low is = decimal_lacks c n small low 0 (decimal_nonempty n small) is

-- a number that begins with 0 is 0
pub decimal_zero : (n : ℕ) → n < 2 ^ 64 → get_or (decimal n) 0 0 ≡ 48 → length (decimal n) ≡ 1
decimal_zero zero small is = ap length (decimal_digit 0 (omega arith))
decimal_zero (suc k) small is = absurd (omega (arith, first_decimal (suc k) (omega arith) small, is))

module _ {E : Type 0} (bs : List ℕ) (unsigned : get_or bs 0 0 ≢ 43) (plain : get_or bs 0 0 ≡ 48 → length bs ≡ 1) where
  pub parsed_is : (r : Result ℕ E) → ParsesUnsigned 64 10 bs r → IfSome (result_ok r) (λ n. bs ≡ decimal n)
  parsed_is (Ok n) h =
      let p = parse_plain own {E = E} 64 bs (Ok n) h unsigned in
      rw p.1 (sym (decimal-digits_value own bs p.0.0 p.0.1 plain p.0.2))
  parsed_is (Err e) h = tt {0}

  pub parsed_none : (r : Result ℕ E) → ParsesUnsigned 64 10 bs r → IfNone (result_ok r) ((n : ℕ) → n < 2 ^ 64 → bs ≡ decimal n → ⊥)
  parsed_none (Ok n) h = tt {0}
  parsed_none (Err e) h = λ n small is.
      let value : digits_value 10 (decimal n) < 2 ^ 64 = rw (digits_value-decimal own n small) small in
      parse_plain own {E = E} 64 bs (Err e) h unsigned (rw is (digits_decimal own n small, decimal_nonempty n small, value))

-- the first byte by what the code reads
pub first_byte : (bs ds : List ℕ) (x : ℕ) → ds ≡ bs → x ≡ unwrap_or (slice_get ds 0) 0 → x ≡ get_or bs 0 0
first_byte bs ds x same is = is ∙ (unwrap_or-slice_get ds 0 0 ∙ ap (λ xs. get_or xs 0 0) same)
