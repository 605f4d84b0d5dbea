-- Which texts are the number of a bench
use Rattle.std.proofs.Common.{◌≡◌, ◌∙◌, ◌<◌, ◌≤◌, ◌≢◌, ◌^◌, ap, subst, refl, sym, ℕ, Bool, true, false, List, [], ◌∷◌, Some, None, Result, Ok, Err, length, slice_index, ltb-true, lt-ltb, le-leb, cond}
use Rattle.std.specs.Prelude.{◌&&◌, nat_lt}
use Rattle.std.specs.List.{list_all}
use Rattle.std.specs.Result.{result_ok}
use Rattle.std.proofs.lemmas.Str.Parse.{without_leading_plus_none}
use Rattle.std.specs.Char.{digit_value}
use Rattle.std.specs.Str.Parse.{AllDigits, IsNumeral, ParsesUnsigned, digits_value, without_leading_plus}
use Rattle.program_words.specs.CommandLine.{bench_number, is_short_numeral}
use Rattle.program_words.proofs.Values.{both}

all_listed : (cs : List ℕ) → AllDigits 10 cs → list_all (λ c. nat_lt (digit_value c) 10) cs ≡ true
all_listed [] all = refl
all_listed (c ∷ cs) all = rw (lt-ltb _ _ all.0) (all_listed cs all.1)

all_digits : (cs : List ℕ) → list_all (λ c. nat_lt (digit_value c) 10) cs ≡ true → AllDigits 10 cs
all_digits [] e = tt
all_digits (c ∷ cs) e = let parts = both _ _ e in (ltb-true _ _ parts.0, all_digits cs parts.1)

is_numeral : (text : List ℕ) → is_short_numeral text ≡ true → IsNumeral 10 text
is_numeral text e = let parts = both _ _ e in (ltb-true _ _ parts.0, all_digits text (both _ _ parts.1).1)

is_short : (text : List ℕ) → IsNumeral 10 text → length text ≤ 10 → is_short_numeral text ≡ true
is_short text numeral short = rw (lt-ltb _ _ numeral.0, le-leb _ _ short) (all_listed text numeral.1)

-- a parse of a text of at most ten bytes that begins with no plus reads exactly the numbers of benches
pub reads : {E : Type 0} (text : List ℕ) (r : Result ℕ E) → length text ≤ 10 → slice_index text 0 ≢ 43 → ParsesUnsigned 32 10 text r
    → result_ok r ≡ bench_number text
reads {E} text r short no_plus = go r (without_leading_plus_none text no_plus)
  where
    go : (r : Result ℕ E) → without_leading_plus text ≡ text → ParsesUnsigned 32 10 text r → result_ok r ≡ bench_number text
    go (Ok n) same parses =
        let numeral : IsNumeral 10 text = subst (IsNumeral 10) same parses.0.0 in
        let fits : digits_value 10 text < 2 ^ 32 = subst (λ t. digits_value 10 t < 2 ^ 32) same parses.0.1 in
        let value : n ≡ digits_value 10 text = parses.1 ∙ ap (digits_value 10) same in
        rw (is_short text numeral short, lt-ltb _ _ fits) (ap Some value)
    go (Err e) same parses = none _ refl
      where
        none : (b : Bool) → (is_short_numeral text && nat_lt (digits_value 10 text) (2 ^ 32)) ≡ b
            → None ≡ cond b (Some (digits_value 10 text)) None
        none false is = refl
        none true is =
            let parts = both _ _ is in
            absurd (parses (subst (λ t. IsNumeral 10 t × (digits_value 10 t < 2 ^ 32)) (sym same) (is_numeral text parts.0, ltb-true _ _ parts.1)))
