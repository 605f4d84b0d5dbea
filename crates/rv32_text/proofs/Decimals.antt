-- Decimal numbers and their beginnings
use Rattle.std.proofs.Common.{◌≡◌, ◌≢◌, ℕ, zero, suc, ◌+◌, ◌*◌, ◌^◌, ◌<◌, ◌≤◌, Bool, true, false, List, [], ◌∷◌, ◌++◌, length, get_or, refl, sym, ap, ◌∙◌, ◌⊎◌, inl, inr, Option, Some, None, arith, decimal}
use Rattle.std.specs.Prelude.{◌/◌, ◌%◌, IfSome}
use Rattle.std.proofs.lemmas.List.{same_from_push, append-nil}
use Rattle.std.proofs.lemmas.Bool.{cases_eq}
use Rattle.std.proofs.lemmas.Fmt.{decimal_by_steps, decimal_step, decimal_digit, decimal_injective, decimal_nonempty, first_decimal}
use Rattle.rv32_text.specs.declared.number.Range.{Range}
use Rattle.rv32_text.specs.Numbers.{IsUsable, InRange, MayBegin, IsDigit, digits_so_far}
use Rattle.rv32_text.specs.Languages.{CanBegin, NoneBegins}
use Rattle.rv32_text.proofs.Languages.{Each, each_append, each_front, each_back}

pub decimal_digits : (n : ℕ) → n < 2 ^ 64 → Each IsDigit (decimal n)
decimal_digits n small =
    decimal_by_steps (λ m ds. Each IsDigit ds)
    (λ m h. ((omega arith, omega arith), tt))
    (λ m ds h k. each_append IsDigit ds ((48 + m % 10) ∷ []) k ((omega arith, omega arith), tt)) n small

pub digit_more : (n d : ℕ) → 0 < n → d < 10 → n * 10 + d < 2 ^ 64 → decimal (n * 10 + d) ≡ decimal n ++ ((48 + d) ∷ [])
digit_more n d h k small =
    let front : (n * 10 + d) / 10 ≡ n = omega arith in
    let last : (n * 10 + d) % 10 ≡ d = omega arith in
    decimal_step (n * 10 + d) (omega arith) small ∙ (ap (λ (x : ℕ). decimal x ++ ((48 + (n * 10 + d) % 10) ∷ [])) front ∙ ap (λ (x : ℕ). decimal n ++ ((48 + x) ∷ [])) last)

nil_from_append : (xs ys : List ℕ) → xs ++ ys ≡ [] → ys ≡ []
nil_from_append [] ys e = e
nil_from_append (x ∷ xs) ys e = absurd (cc)

nil_before : (xs ys : List ℕ) → xs ++ ys ≡ [] → xs ≡ []
nil_before [] ys e = refl
nil_before (x ∷ xs) ys e = absurd (cc)

-- a list with a last element that is cut in two
pub record CutBeforeLast (xs ys zs : List ℕ) (a : ℕ) : Type 0 where
  pub middle : List ℕ
  pub behind : zs ≡ middle ++ (a ∷ [])
  pub before : xs ≡ ys ++ middle

pub cut_before_last : (xs ys zs : List ℕ) (a : ℕ) → xs ++ (a ∷ []) ≡ ys ++ zs → (zs ≡ []) ⊎ CutBeforeLast xs ys zs a
cut_before_last xs [] zs a e = inr (record { middle = xs; behind = sym e; before = refl })
cut_before_last [] (y ∷ ys) zs a e = inl (nil_from_append ys zs (cc))
cut_before_last (x ∷ xs) (y ∷ ys) zs a e =
    elim (cut_before_last xs ys zs a (cc)) [
      | inl none ↦ inl none
      | inr cut ↦ (let same : x ≡ y = cc in let front : xs ≡ ys ++ cut.middle = cut.before in inr (record { middle = cut.middle; behind = cut.behind; before = cc }))
    ]

-- decimal m begins with the digits of n
abbrev Begun : ℕ → List ℕ → Type 0
Begun m ds = m < 2 ^ 64 → decimal m ≡ ds → (n : ℕ) (more : List ℕ) → n < 2 ^ 64 → ds ≡ decimal n ++ more → (m ≡ n) ⊎ (n * 10 ≤ m)

whole : (m : ℕ) (ds : List ℕ) → m < 2 ^ 64 → decimal m ≡ ds → (n : ℕ) (more : List ℕ) → n < 2 ^ 64 → ds ≡ decimal n ++ more → more ≡ [] → m ≡ n
whole m ds small is n more fits e none = decimal_injective m n small fits (is ∙ (e ∙ (ap (λ (x : List ℕ). decimal n ++ x) none ∙ append-nil (decimal n))))

no_digits : (n : ℕ) (more : List ℕ) → n < 2 ^ 64 → [] ≡ decimal n ++ more → ⊥
no_digits n more fits e =
    let none : decimal n ≡ [] = nil_before (decimal n) more (sym e) in
    let some : 0 < length (decimal n) = decimal_nonempty n fits in
    let never : length (decimal n) ≡ 0 = ap length none in
    omega arith

begun_one : (m : ℕ) → m < 10 → Begun m ((48 + m) ∷ [])
begun_one m h small is n more fits e =
    elim (cut_before_last [] (decimal n) more (48 + m) e) [
      | inl none ↦ inl (whole m ((48 + m) ∷ []) small is n more fits e none)
      | inr cut ↦ absurd (no_digits n cut.middle fits cut.before)
    ]

begun_more : (m : ℕ) (ds : List ℕ) → 10 ≤ m → Begun (m / 10) ds → Begun m (ds ++ ((48 + m % 10) ∷ []))
begun_more m ds h ih small is n more fits e =
    let fewer : decimal (m / 10) ≡ ds = (same_from_push (decimal (m / 10)) ds (48 + m % 10) (48 + m % 10) (sym (decimal_step m h small) ∙ is)).0 in
    elim (cut_before_last ds (decimal n) more (48 + m % 10) e) [
      | inl none ↦ inl (whole m (ds ++ ((48 + m % 10) ∷ [])) small is n more fits e none)
      | inr cut ↦ elim (ih (omega arith) fewer n cut.middle fits cut.before) [
        | inl same ↦ inr (omega arith)
        | inr above ↦ inr (omega arith)
      ]
    ]

pub begun : (m n : ℕ) (more : List ℕ) → m < 2 ^ 64 → n < 2 ^ 64 → decimal m ≡ decimal n ++ more → (m ≡ n) ⊎ (n * 10 ≤ m)
begun m n more small fits e = decimal_by_steps Begun begun_one begun_more m small small refl n more fits e

-- only 0 begins with the digit 0
pub begins_with_zero : (m : ℕ) (more : List ℕ) → m < 2 ^ 64 → decimal m ≡ 48 ∷ more → m ≡ 0
begins_with_zero zero more small e = refl
begins_with_zero (suc m) more small e =
    let first : 48 < get_or (decimal (suc m)) 0 0 = first_decimal (suc m) (omega arith) small in
    let is : get_or (decimal (suc m)) 0 0 ≡ 48 = ap (λ (x : List ℕ). get_or x 0 0) e in
    absurd (omega arith)

pub zero_alone : (m letter : ℕ) (more : List ℕ) → m < 2 ^ 64 → decimal m ≡ (decimal 0 ++ (letter ∷ [])) ++ more → ⊥
zero_alone m letter more small e =
    let zero_is : decimal 0 ≡ 48 ∷ [] = decimal_digit 0 (omega arith) in
    let begins : decimal m ≡ 48 ∷ (letter ∷ more) = e ∙ ap (λ (x : List ℕ). (x ++ (letter ∷ [])) ++ more) zero_is in
    let none : m ≡ 0 = begins_with_zero m (letter ∷ more) small begins in
    let two : 48 ∷ [] ≡ 48 ∷ (letter ∷ more) = sym zero_is ∙ (ap decimal (sym none) ∙ begins) in
    cc

pub other_letter : (m letter : ℕ) (ds more : List ℕ) → m < 2 ^ 64 → (IsDigit letter → ⊥) → decimal m ≡ (ds ++ (letter ∷ [])) ++ more → ⊥
other_letter m letter ds more small never e =
    let each : Each IsDigit ((ds ++ (letter ∷ [])) ++ more) = rw e at (decimal_digits m small) in
    never (each_back IsDigit ds (letter ∷ []) (each_front IsDigit (ds ++ (letter ∷ [])) more each)).0

module _ (range : Range) (usable : IsUsable range) where
  -- the numbers that begin with the digits of n
  pub may_begin_if : (m n : ℕ) (more : List ℕ) → InRange range m → n < 2 ^ 64 → decimal m ≡ decimal n ++ more → MayBegin range n
  may_begin_if m zero more fits small e =
      let small_m : m < 2 ^ 64 = omega (arith, fits.high, usable.small) in
      let begins : decimal m ≡ 48 ∷ more = e ∙ ap (λ (x : List ℕ). x ++ more) (decimal_digit 0 (omega arith)) in
      let none : m ≡ 0 = begins_with_zero m more small_m begins in
      record { low = omega (arith, fits.low); high = omega arith; parity = λ h. inl refl }
  may_begin_if m (suc n) more fits small e =
      let small_m : m < 2 ^ 64 = omega (arith, fits.high, usable.small) in
      elim (begun m (suc n) more small_m small e) [
        | inl same ↦ record { low = omega (arith, usable.low); high = omega (arith, fits.high); parity = λ h. (let even : m % 2 ≡ 0 = fits.parity h in inl (omega arith)) }
        | inr above ↦ record { low = omega (arith, usable.low); high = omega (arith, fits.high); parity = λ h. inr (omega (arith, fits.high)) }
      ]

  pub begins_two : CanBegin (InRange range) (λ n. decimal n) []
  begins_two = record {
    value = 2;
    more = decimal 2;
    fits = record { low = omega (arith, usable.low); high = usable.wide; parity = λ h. refl };
    is = refl;
  }

  can_begin_even : (n : ℕ) → MayBegin range n → (range.even ≡ true → n % 2 ≡ 0) → CanBegin (InRange range) (λ m. decimal m) (decimal n)
  can_begin_even n h even = record {
    value = n;
    more = [];
    fits = record { low = h.low; high = h.high; parity = even };
    is = sym (append-nil (decimal n));
  }

  can_begin_odd : (n : ℕ) → MayBegin range n → n * 10 ≤ range.greatest → n % 2 ≡ 1 → CanBegin (InRange range) (λ m. decimal m) (decimal n)
  can_begin_odd n h above odd = record {
    value = n * 10 + 0;
    more = 48 ∷ [];
    fits = record { low = omega (arith, h.low); high = omega arith; parity = λ e. omega arith };
    is = digit_more n 0 (omega arith) (omega arith) (omega (arith, usable.small));
  }

  can_begin_by : (b : Bool) (n : ℕ) → range.even ≡ b → MayBegin range n → CanBegin (InRange range) (λ m. decimal m) (decimal n)
  can_begin_by false n is h = can_begin_even n h (λ e. absurd (cc))
  can_begin_by true n is h =
      elim (h.parity is) [
        | inl even ↦ can_begin_even n h (λ e. even)
        | inr above ↦ elim (cases_eq (n % 2) 0) [
          | inl even ↦ can_begin_even n h (λ e. even)
          | inr odd ↦ can_begin_odd n h above (omega arith)
        ]
      ]

  pub can_begin : (n : ℕ) → MayBegin range n → CanBegin (InRange range) (λ m. decimal m) (decimal n)
  can_begin n h = can_begin_by range.even n refl h

  pub can_begin_so_far : (o : Option ℕ) → IfSome o (MayBegin range) → CanBegin (InRange range) (λ m. decimal m) (digits_so_far o)
  can_begin_so_far None h = begins_two
  can_begin_so_far (Some n) h = can_begin n h

  small : (n : ℕ) → InRange range n → n < 2 ^ 64
  small n h = omega (arith, h.high, usable.small)

  -- what `longer` refuses
  pub refuses_letter : (o : Option ℕ) (letter : ℕ) → (IsDigit letter → ⊥) → NoneBegins (InRange range) (λ n. decimal n) (digits_so_far o ++ (letter ∷ []))
  refuses_letter o letter never n more h e = other_letter n letter (digits_so_far o) more (small n h) never e

  pub refuses_zero : (o : Option ℕ) (letter : ℕ) → o ≡ Some 0 → NoneBegins (InRange range) (λ n. decimal n) (digits_so_far o ++ (letter ∷ []))
  refuses_zero o letter is n more h e = zero_alone n letter more (small n h) (e ∙ ap (λ (x : Option ℕ). (digits_so_far x ++ (letter ∷ [])) ++ more) is)

  pub refuses_long : (o : Option ℕ) (letter long : ℕ) → long < 2 ^ 28 → decimal long ≡ digits_so_far o ++ (letter ∷ []) → (MayBegin range long → ⊥)
      → NoneBegins (InRange range) (λ n. decimal n) (digits_so_far o ++ (letter ∷ []))
  refuses_long o letter long fits is never n more h e = never (may_begin_if n long more h (omega arith) (e ∙ ap (λ (x : List ℕ). x ++ more) (sym is)))

  -- what `complete` refuses
  pub refuses_nothing : (n : ℕ) → InRange range n → decimal n ≢ []
  refuses_nothing n h e = no_digits n [] (small n h) (sym e ∙ sym (append-nil (decimal n)))

  pub refuses_other : (m n : ℕ) → MayBegin range m → (InRange range m → ⊥) → InRange range n → decimal n ≢ decimal m
  refuses_other m n may never h e =
      let same : n ≡ m = decimal_injective n m (small n h) (omega (arith, may.high, usable.small)) e in
      never (rw same at h)
