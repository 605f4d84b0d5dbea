-- The fields of instructions, by the numbers and digits that they are made of
use Rattle.std.proofs.Common.{◌≡◌, ℕ, zero, suc, ◌+◌, ◌<◌, ◌^◌, false, List, [], ◌∷◌, ◌++◌, drop, refl, sym, ap, subst, ◌∙◌, Option, None, arith, decimal, ℤ, pos, negsuc}
use Rattle.std.specs.Prelude.{option_map}
use Rattle.std.specs.Fmt.{signed_decimal}
use Rattle.std.proofs.lemmas.Int.{ints, to_z-of_z}
use mir.Val.{SFits, to_z, of_z}
use mir.Syntax.{w64}
use Rattle.std.proofs.lemmas.Bool.Decides.{nat_tests}
use Rattle.report_text.specs.Texts.{hex_digit}
use Rattle.rv32_asm.specs.Encoding.{IsShiftAmount}
use Rattle.rv32_text.specs.Texts.{hex_text}
use Rattle.rv32_text.specs.Languages.{BeginsBy, Reads}
use Rattle.rv32_text.specs.Numbers.{InRange, IsDigit}
use Rattle.rv32_text.specs.Hexadecimals.{HasDigits}
use Rattle.rv32_text.specs.declared.digits.Digits.TheVariants as Rows
use Rattle.rv32_text.specs.declared.fields.Offset.{Offset}
use Rattle.rv32_text.specs.declared.fields.Offset.TheVariants as Offsets
use Rattle.rv32_text.specs.declared.fields.Field.{Field}
use Rattle.rv32_text.specs.declared.fields.Field.TheVariants as Fields
use Rattle.rv32_text.specs.declared.number.Range.{Range}
use Rattle.rv32_text.specs.Fields.{IsOffset, Fits, natural, write_field, positive_range, negative_range, minus}
use Rattle.rv32_text.proofs.Languages.{Each, cons_head, cons_tail}
use Rattle.rv32_text.proofs.Behind.{StartsAs, Source, Becomes, reads_behind}
use Rattle.rv32_text.proofs.Decimals.{decimal_digits}
use Rattle.rv32_text.proofs.Hexadecimals.{IsHexDigit, hex_letters}
use Rattle.rv32_text.specs.Operands.{InField}

-- ---- ranges

abbrev pub below_32 : Range
below_32 = record { least = 0; greatest = 31; even = false }

amount_in : (n : ℕ) → IsShiftAmount (pos n) → InRange below_32 n
amount_in n h = record { low = omega arith; high = omega (arith, ints, h.1); parity = λ e. absurd (cc) }

amount_fits : (n : ℕ) → InRange below_32 n → IsShiftAmount (pos n)
amount_fits n h = (omega (arith, ints), omega (arith, ints, h.high))

no_negative_amount : (n : ℕ) → IsShiftAmount (negsuc n) → ⊥
no_negative_amount n h = omega (arith, ints, h.0)

positive_in : (o : Offset) (n : ℕ) → IsOffset o (pos n) → InRange (positive_range o) n
positive_in Offsets.Short n h = record { low = omega arith; high = omega (arith, ints, h.1); parity = λ e. absurd (cc) }
positive_in Offsets.Branch n h = record { low = omega arith; high = omega (arith, ints, h.1); parity = λ e. omega (arith, ints, h.2) }
positive_in Offsets.Jump n h = record { low = omega arith; high = omega (arith, ints, h.1); parity = λ e. omega (arith, ints, h.2) }

positive_fits : (o : Offset) (n : ℕ) → InRange (positive_range o) n → IsOffset o (pos n)
positive_fits Offsets.Short n h = (omega (arith, ints), omega (arith, ints, h.high))
positive_fits Offsets.Branch n h = (omega (arith, ints), omega (arith, ints, h.high), omega (arith, ints, h.high, h.parity refl))
positive_fits Offsets.Jump n h = (omega (arith, ints), omega (arith, ints, h.high), omega (arith, ints, h.high, h.parity refl))

negative_in : (o : Offset) (n : ℕ) → IsOffset o (negsuc n) → InRange (negative_range o) (suc n)
negative_in Offsets.Short n h = record { low = omega arith; high = omega (arith, ints, h.0); parity = λ e. absurd (cc) }
negative_in Offsets.Branch n h = record { low = omega arith; high = omega (arith, ints, h.0); parity = λ e. omega (arith, ints, h.0, h.2) }
negative_in Offsets.Jump n h = record { low = omega arith; high = omega (arith, ints, h.0); parity = λ e. omega (arith, ints, h.0, h.2) }

negative_fits : (o : Offset) (n : ℕ) → InRange (negative_range o) (suc n) → IsOffset o (negsuc n)
negative_fits Offsets.Short n h = (omega (arith, ints, h.high), omega (arith, ints))
negative_fits Offsets.Branch n h = (omega (arith, ints, h.high), omega (arith, ints), omega (arith, ints, h.high, h.parity refl))
negative_fits Offsets.Jump n h = (omega (arith, ints, h.high), omega (arith, ints), omega (arith, ints, h.high, h.parity refl))

no_zero_behind_minus : (o : Offset) → InRange (negative_range o) 0 → ⊥
no_zero_behind_minus Offsets.Short h = omega (arith, h.low)
no_zero_behind_minus Offsets.Branch h = omega (arith, h.low)
no_zero_behind_minus Offsets.Jump h = omega (arith, h.low)

small_offset : (o : Offset) (n : ℕ) → IsOffset o (pos n) → n < 2 ^ 64
small_offset Offsets.Short n h = omega (arith, ints, h.1)
small_offset Offsets.Branch n h = omega (arith, ints, h.1)
small_offset Offsets.Jump n h = omega (arith, ints, h.1)

small_negative : (o : Offset) (n : ℕ) → IsOffset o (negsuc n) → suc n < 2 ^ 64
small_negative Offsets.Short n h = omega (arith, ints, h.0)
small_negative Offsets.Branch n h = omega (arith, ints, h.0)
small_negative Offsets.Jump n h = omega (arith, ints, h.0)

-- a field's value fits 64 bits
pub field_fits : (field : Field) (z : ℤ) → Fits field z → SFits w64 z
field_fits Fields.Register (pos n) h = record { sfits = omega (arith, ints, h.1) }
field_fits Fields.Register (negsuc n) h = absurd (no_negative_amount n h)
field_fits Fields.Amount (pos n) h = record { sfits = omega (arith, ints, h.1) }
field_fits Fields.Amount (negsuc n) h = absurd (no_negative_amount n h)
field_fits (Fields.Offset Offsets.Short) (pos n) h = record { sfits = omega (arith, ints, h.1) }
field_fits (Fields.Offset Offsets.Short) (negsuc n) h = record { sfits = omega (arith, ints, h.0) }
field_fits (Fields.Offset Offsets.Branch) (pos n) h = record { sfits = omega (arith, ints, h.1) }
field_fits (Fields.Offset Offsets.Branch) (negsuc n) h = record { sfits = omega (arith, ints, h.0) }
field_fits (Fields.Offset Offsets.Jump) (pos n) h = record { sfits = omega (arith, ints, h.1) }
field_fits (Fields.Offset Offsets.Jump) (negsuc n) h = record { sfits = omega (arith, ints, h.0) }
field_fits Fields.Upper (pos n) h = record { sfits = omega (arith, ints, h.1) }
field_fits Fields.Upper (negsuc n) h = absurd (omega (arith, ints, h.0))

pub value_same : (field : Field) (z : ℤ) → Fits field z → to_z w64 (of_z w64 z) ≡ z
value_same field z h = to_z-of_z w64 z (field_fits field z h)

-- ---- the letters of fields

each_digit : (ds : List ℕ) → Each IsDigit ds → Each InField ds
each_digit [] h = tt
each_digit (d ∷ ds) h = ((omega (arith, h.0.0), omega (arith, h.0.1)), each_digit ds h.1)

hex_in_value : (d : ℕ) → d < 16 → InField (hex_digit d)
hex_in_value d h = grind (arith, nat_tests)

each_hex : (ds : List ℕ) → Each IsHexDigit ds → Each InField ds
each_hex [] h = tt
each_hex (d ∷ ds) h = (subst (λ (x : ℕ). InField x) h.0.is (hex_in_value h.0.digit h.0.small), each_hex ds h.1)

pub row_letters : (k n : ℕ) → Each InField (hex_text k n)
row_letters k n = each_hex (hex_text k n) (hex_letters k n)

number_letters : (n : ℕ) → n < 2 ^ 64 → Each InField (decimal n)
number_letters n h = each_digit (decimal n) (decimal_digits n h)

amount_letters : (z : ℤ) → IsShiftAmount z → Each InField (signed_decimal z)
amount_letters (pos n) h = number_letters n (omega (arith, ints, h.1))
amount_letters (negsuc n) h = absurd (no_negative_amount n h)

offset_letters : (o : Offset) (z : ℤ) → IsOffset o z → Each InField (signed_decimal z)
offset_letters o (pos n) h = number_letters n (small_offset o n h)
offset_letters o (negsuc n) h = ((omega arith, omega arith), number_letters (suc n) (small_negative o n h))

pub field_letters : (field : Field) (z : ℤ) → Fits field z → Each InField (write_field field z)
field_letters Fields.Register z h = ((omega arith, omega arith), amount_letters z h)
field_letters Fields.Amount z h = amount_letters z h
field_letters (Fields.Offset o) z h = offset_letters o z h
field_letters Fields.Upper z h = row_letters 5 (natural z)

-- ---- registers

register_into : (n : ℕ) → InRange below_32 n → Becomes (Fits Fields.Register) (write_field Fields.Register) (120 ∷ []) (decimal n) (pos n)
register_into n h = record { fits = amount_fits n h; is = refl }

register_back : (s : List ℕ) (z : ℤ) (t : List ℕ) → Fits Fields.Register z → write_field Fields.Register z ≡ (120 ∷ []) ++ t → StartsAs t s
    → Source (InRange below_32) (λ n. decimal n) t
register_back s (pos n) t h e starts = record { value = n; fits = amount_in n h; is = cons_tail 120 120 (decimal n) t e }
register_back s (negsuc n) t h e starts = absurd (no_negative_amount n h)

pub register_reads : (text : List ℕ) (used : ℕ) (o : Option ℕ) → BeginsBy text 120 → Reads (InRange below_32) (λ n. decimal n) (drop 1 text) used o
    → Reads (Fits Fields.Register) (write_field Fields.Register) text (1 + used) (option_map (λ n. pos n) o)
register_reads text used o b h =
    let tail_reads : Reads (InRange below_32) (λ n. decimal n) b.tail used o =
    subst (λ (x : List ℕ). Reads (InRange below_32) (λ n. decimal n) (drop 1 x) used o) b.is h in
    subst (λ (x : List ℕ). Reads (Fits Fields.Register) (write_field Fields.Register) x (1 + used) (option_map (λ n. pos n) o)) (sym b.is)
    (reads_behind (InRange below_32) (λ n. decimal n) (Fits Fields.Register) (write_field Fields.Register) (120 ∷ []) (λ n. pos n) b.tail
    register_into (register_back b.tail) (1 + used) used o refl tail_reads)

pub no_register : (text : List ℕ) → (BeginsBy text 120 → ⊥) → Reads (Fits Fields.Register) (write_field Fields.Register) text 0 None
no_register text never = record {
  front = [];
  after = text;
  splits = refl;
  used_is = refl;
  begins = record { value = pos 0; more = 120 ∷ decimal 0; fits = (omega (arith, ints), omega (arith, ints)); is = refl };
  longest = λ letter more is can.
      (let same : 120 ≡ letter = cons_head 120 letter (signed_decimal can.value) can.more can.is in
      never (record { tail = more; is = is ∙ ap (λ (x : ℕ). x ∷ more) (sym same) }));
  value_is = λ z fits e. absurd (cc);
}

-- ---- amounts of shifts

amount_into : (n : ℕ) → InRange below_32 n → Becomes (Fits Fields.Amount) (write_field Fields.Amount) [] (decimal n) (pos n)
amount_into n h = record { fits = amount_fits n h; is = refl }

amount_back : (s : List ℕ) (z : ℤ) (t : List ℕ) → Fits Fields.Amount z → write_field Fields.Amount z ≡ [] ++ t → StartsAs t s
    → Source (InRange below_32) (λ n. decimal n) t
amount_back s (pos n) t h e starts = record { value = n; fits = amount_in n h; is = e }
amount_back s (negsuc n) t h e starts = absurd (no_negative_amount n h)

pub amount_reads : (text : List ℕ) (used : ℕ) (o : Option ℕ) → Reads (InRange below_32) (λ n. decimal n) text used o
    → Reads (Fits Fields.Amount) (write_field Fields.Amount) text used (option_map (λ n. pos n) o)
amount_reads text used o h =
    reads_behind (InRange below_32) (λ n. decimal n) (Fits Fields.Amount) (write_field Fields.Amount) [] (λ n. pos n) text
    amount_into (amount_back text) used used o (omega arith) h

-- ---- offsets

module _ (o : Offset) where
  positive_into : (n : ℕ) → InRange (positive_range o) n → Becomes (Fits (Fields.Offset o)) (write_field (Fields.Offset o)) [] (decimal n) (pos n)
  positive_into n h = record { fits = positive_fits o n h; is = refl }

  -- a text without a minus sign is no negative number's
  positive_back : (s : List ℕ) → (BeginsBy s 45 → ⊥) → (z : ℤ) (t : List ℕ) → Fits (Fields.Offset o) z → write_field (Fields.Offset o) z ≡ [] ++ t → StartsAs t s
      → Source (InRange (positive_range o)) (λ n. decimal n) t
  positive_back s unsigned (pos n) t h e starts = record { value = n; fits = positive_in o n h; is = e }
  positive_back s unsigned (negsuc n) t h e starts = absurd (unsigned (starts 45 (decimal (suc n)) (sym e)))

  pub positive_reads : (text : List ℕ) (used : ℕ) (v : Option ℕ) → (BeginsBy text 45 → ⊥) → Reads (InRange (positive_range o)) (λ n. decimal n) text used v
      → Reads (Fits (Fields.Offset o)) (write_field (Fields.Offset o)) text used (option_map (λ n. pos n) v)
  positive_reads text used v unsigned h =
      reads_behind (InRange (positive_range o)) (λ n. decimal n) (Fits (Fields.Offset o)) (write_field (Fields.Offset o)) [] (λ n. pos n) text
      positive_into (positive_back text unsigned) used used v (omega arith) h

  negative_into : (n : ℕ) → InRange (negative_range o) n → Becomes (Fits (Fields.Offset o)) (write_field (Fields.Offset o)) (45 ∷ []) (decimal n) (minus n)
  negative_into zero h = absurd (no_zero_behind_minus o h)
  negative_into (suc n) h = record { fits = negative_fits o n h; is = refl }

  not_minus : (n : ℕ) (t : List ℕ) → n < 2 ^ 64 → decimal n ≡ 45 ∷ t → ⊥
  not_minus n t small e =
      let each : Each IsDigit (45 ∷ t) = rw e at (decimal_digits n small) in
      omega (arith, each.0.0)

  negative_back : (s : List ℕ) (z : ℤ) (t : List ℕ) → Fits (Fields.Offset o) z → write_field (Fields.Offset o) z ≡ (45 ∷ []) ++ t → StartsAs t s
      → Source (InRange (negative_range o)) (λ n. decimal n) t
  negative_back s (pos n) t h e starts = absurd (not_minus n t (small_offset o n h) e)
  negative_back s (negsuc n) t h e starts = record { value = suc n; fits = negative_in o n h; is = cons_tail 45 45 (decimal (suc n)) t e }

  pub negative_reads : (text : List ℕ) (used : ℕ) (v : Option ℕ) → BeginsBy text 45 → Reads (InRange (negative_range o)) (λ n. decimal n) (drop 1 text) used v
      → Reads (Fits (Fields.Offset o)) (write_field (Fields.Offset o)) text (1 + used) (option_map minus v)
  negative_reads text used v b h =
      let tail_reads : Reads (InRange (negative_range o)) (λ n. decimal n) b.tail used v =
      subst (λ (x : List ℕ). Reads (InRange (negative_range o)) (λ n. decimal n) (drop 1 x) used v) b.is h in
      subst (λ (x : List ℕ). Reads (Fits (Fields.Offset o)) (write_field (Fields.Offset o)) x (1 + used) (option_map minus v)) (sym b.is)
      (reads_behind (InRange (negative_range o)) (λ n. decimal n) (Fits (Fields.Offset o)) (write_field (Fields.Offset o)) (45 ∷ []) minus b.tail
      negative_into (negative_back b.tail) (1 + used) used v refl tail_reads)

-- ---- upper immediates

upper_into : (n : ℕ) → HasDigits Rows.Upper n → Becomes (Fits Fields.Upper) (write_field Fields.Upper) [] (hex_text 5 n) (pos n)
upper_into n h = record { fits = (omega (arith, ints), omega (arith, ints)); is = refl }

upper_back : (s : List ℕ) (z : ℤ) (t : List ℕ) → Fits Fields.Upper z → write_field Fields.Upper z ≡ [] ++ t → StartsAs t s
    → Source (HasDigits Rows.Upper) (λ n. hex_text 5 n) t
upper_back s (pos n) t h e starts = record { value = n; fits = omega (arith, ints, h.1); is = e }
upper_back s (negsuc n) t h e starts = absurd (omega (arith, ints, h.0))

pub upper_reads : (text : List ℕ) (used : ℕ) (v : Option ℕ) → Reads (HasDigits Rows.Upper) (λ n. hex_text 5 n) text used v
    → Reads (Fits Fields.Upper) (write_field Fields.Upper) text used (option_map (λ n. pos n) v)
upper_reads text used v h =
    reads_behind (HasDigits Rows.Upper) (λ n. hex_text 5 n) (Fits Fields.Upper) (write_field Fields.Upper) [] (λ n. pos n) text
    upper_into (upper_back text) used used v (omega arith) h
