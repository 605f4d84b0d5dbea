-- The names in a list, as they are read line by line
use Rattle.std.proofs.Common.{◌≡◌, ◌≢◌, ℕ, ◌<◌, ◌≤◌, inl, inr, true, false, nat_le, ◌==◌, List, [], ◌∷◌, ◌++◌, length, All, Option, Some, None, IfSome, option_map, option_and_then, refl, sym, ap, ◌∙◌, subst, arith, length-append}
use Rattle.std.specs.List.{list_all}
use Rattle.std.specs.Str.{IsUtf8, is_utf8}
use Rattle.std.proofs.lemmas.Bool.{ne_eqb, eqb-true, eqb-false, le-leb, leb-true, and_parts, and_from, and_right, cond-true, cond-false, cases_Bool, false_from_ne_true}
use Rattle.std.proofs.lemmas.List.Elements.{All-nil, All-cons, All-head, All-tail}
use Rattle.std.proofs.lemmas.Str.{IsUtf8-from_is_utf8, is_utf8-from_IsUtf8}
use Rattle.job_listing.specs.Lists.{with_byte, lines_in, is_name, are_names, names_of, names_in, IsName, lines_of, IsListOf}
use Rattle.job_listing.specs.Lines.{BeginsWithName, name_first, HasNoName}

-- ---- lines

abbrev IsOther : ℕ → Type 0
IsOther byte = byte ≢ 10

abbrev IsOneLine : List ℕ → Type 0
IsOneLine line = All IsOther line

-- a byte before a line
before : (b : ℕ) (line : List ℕ) (lines : Option (List (List ℕ))) → option_and_then (with_byte b) (option_map (λ ls. line ∷ ls) lines) ≡ option_map (λ ls. (b ∷ line) ∷ ls) lines
before b line None = refl
before b line (Some ls) = refl

-- a byte that is no line feed
lines-byte : (b : ℕ) (bytes : List ℕ) → b ≢ 10 → lines_in (b ∷ bytes) ≡ option_and_then (with_byte b) (lines_in bytes)
lines-byte b bytes ne = cond-false (b == 10) _ _ (ne_eqb b 10 ne)

-- the first line is cut at its line feed
pub lines-cut : (line rest : List ℕ) → IsOneLine line → lines_in (line ++ (10 ∷ rest)) ≡ option_map (λ ls. line ∷ ls) (lines_in rest)
lines-cut [] rest one = refl
lines-cut (b ∷ line) rest one =
    lines-byte b (line ++ (10 ∷ rest)) (All-head IsOther b line one)
    ∙ ap (option_and_then (with_byte b)) (lines-cut line rest (All-tail IsOther b line one))
    ∙ before b line (lines_in rest)

-- there is no line feed
pub lines-uncut : (bytes : List ℕ) → IsOneLine bytes → 0 < length bytes → lines_in bytes ≡ None
lines-uncut [] one some = absurd (omega arith)
lines-uncut (b ∷ []) one some = lines-byte b [] (All-head IsOther b [] one)
lines-uncut (b ∷ (c ∷ bytes)) one some =
    lines-byte b (c ∷ bytes) (All-head IsOther b (c ∷ bytes) one)
    ∙ ap (option_and_then (with_byte b)) (lines-uncut (c ∷ bytes) (All-tail IsOther b (c ∷ bytes) one) (omega arith))

-- ---- what lines tell

pub record Told (bytes : List ℕ) (lines : List (List ℕ)) : Type 0 where
  pub each : All IsOneLine lines
  pub is : bytes ≡ lines_of lines

told-feed : (bytes : List ℕ) (found : Option (List (List ℕ))) (lines : List (List ℕ)) → ((ls : List (List ℕ)) → found ≡ Some ls → Told bytes ls)
    → option_map (λ ls. [] ∷ ls) found ≡ Some lines → Told (10 ∷ bytes) lines
told-feed bytes None lines h e = absurd (cc)
told-feed bytes (Some ls) [] h e = absurd (cc)
told-feed bytes (Some ls) (line ∷ lines) h e =
    let first : line ≡ [] = cc in
    let more : ls ≡ lines = cc in
    let told = h ls refl in
    record {
      each = All-cons IsOneLine line lines (subst IsOneLine (sym first) (All-nil IsOther)) (subst (All IsOneLine) more told.each);
      is = rw first (ap (λ xs. 10 ∷ xs) (told.is ∙ ap lines_of more));
    }

told-byte : (b : ℕ) (bytes : List ℕ) (found : Option (List (List ℕ))) (lines : List (List ℕ)) → b ≢ 10 → ((ls : List (List ℕ)) → found ≡ Some ls → Told bytes ls)
    → option_and_then (with_byte b) found ≡ Some lines → Told (b ∷ bytes) lines
told-byte b bytes None lines ne h e = absurd (cc)
told-byte b bytes (Some []) lines ne h e = absurd (cc)
told-byte b bytes (Some (l ∷ ls)) [] ne h e = absurd (cc)
told-byte b bytes (Some (l ∷ ls)) (line ∷ lines) ne h e =
    let first : line ≡ b ∷ l = cc in
    let more : ls ≡ lines = cc in
    let told = h (l ∷ ls) refl in
    record {
      each = All-cons IsOneLine line lines (subst IsOneLine (sym first) (All-cons IsOther b l ne (All-head IsOneLine l ls told.each))) (subst (All IsOneLine) more (All-tail IsOneLine l ls told.each));
      is = rw first (ap (λ xs. b ∷ xs) (told.is ∙ ap (λ xs. l ++ (10 ∷ lines_of xs)) more));
    }

pub lines-tell : (bytes : List ℕ) (lines : List (List ℕ)) → lines_in bytes ≡ Some lines → Told bytes lines
lines-tell [] lines e = let none : lines ≡ [] = cc in record { each = subst (All IsOneLine) (sym none) (All-nil IsOneLine); is = rw none refl }
lines-tell (b ∷ bytes) lines e = elim (cases_Bool (b == 10)) [
  | inl is ↦
      let ten : b ≡ 10 = eqb-true b 10 is in
      let here = sym (cond-true (b == 10) _ _ is) ∙ e in
      subst (λ n. Told (n ∷ bytes) lines) (sym ten) (told-feed bytes (lines_in bytes) lines (lines-tell bytes) here)
  | inr not ↦
      let here = sym (cond-false (b == 10) _ _ not) ∙ e in
      told-byte b bytes (lines_in bytes) lines (eqb-false b 10 not) (lines-tell bytes) here
]

-- ---- names

pub name_true : (line : List ℕ) → 1 ≤ length line → length line ≤ 255 → IsUtf8 line → is_name line ≡ true
name_true line some few utf8 = and_from _ _ (le-leb 1 (length line) some) (and_from _ _ (le-leb (length line) 255 few) (is_utf8-from_IsUtf8 line utf8))

name-from : (line : List ℕ) → IsName line → is_name line ≡ true
name-from line h = name_true line h.some h.few h.utf8

name-is : (line : List ℕ) → IsOneLine line → is_name line ≡ true → IsName line
name-is line one t =
    let some = and_parts _ _ t in
    let few = and_parts _ _ some.1 in
    record { some = leb-true 1 (length line) some.0; few = leb-true (length line) 255 few.0; utf8 = IsUtf8-from_is_utf8 line few.1; one_line = one }

pub name_false : (line : List ℕ) → ¬ IsUtf8 line → is_name line ≡ false
name_false line not = and_right _ _ (and_right _ _ (false_from_ne_true (is_utf8 line) (λ t. not (IsUtf8-from_is_utf8 line t))))

names-from : (names : List (List ℕ)) → All IsName names → list_all is_name names ≡ true
names-from [] each = refl
names-from (name ∷ names) each = and_from _ _ (name-from name (All-head IsName name names each)) (names-from names (All-tail IsName name names each))

names-are : (lines : List (List ℕ)) → All IsOneLine lines → list_all is_name lines ≡ true → All IsName lines
names-are [] one t = All-nil IsName
names-are (line ∷ lines) one t =
    let both = and_parts _ _ t in
    All-cons IsName line lines (name-is line (All-head IsOneLine line lines one) both.0) (names-are lines (All-tail IsOneLine line lines one) both.1)

lines-made : (names : List (List ℕ)) → All IsName names → lines_in (lines_of names) ≡ Some names
lines-made [] each = refl
lines-made (name ∷ names) each =
    lines-cut name (lines_of names) (All-head IsName name names each).one_line
    ∙ ap (option_map (λ ls. name ∷ ls)) (lines-made names (All-tail IsName name names each))

-- ---- the first line

pub first-name : (bytes line name behind : List ℕ) → bytes ≡ line ++ (10 ∷ behind) → IsOneLine line → name ≡ line → is_name line ≡ true → BeginsWithName bytes name behind
first-name bytes line name behind parts one same is = record {
  is = ap is_name same ∙ is;
  lines = ap lines_in parts ∙ lines-cut line behind one ∙ ap (λ n. option_map (λ ls. n ∷ ls) (lines_in behind)) (sym same);
  less = omega (arith, ap length parts, length-append line (10 ∷ behind));
}

bad-first : (line : List ℕ) (lines : Option (List (List ℕ))) → is_name line ≡ false → IfSome (option_map (λ ls. line ∷ ls) lines) (λ ls. name_first ls ≡ false)
bad-first line None not = tt
bad-first line (Some ls) not = not

pub no-name-cut : (bytes line behind : List ℕ) → bytes ≡ line ++ (10 ∷ behind) → IsOneLine line → is_name line ≡ false → HasNoName bytes
no-name-cut bytes line behind parts one not =
    subst (λ (lines : Option (List (List ℕ))). IfSome lines (λ ls. name_first ls ≡ false)) (sym (ap lines_in parts ∙ lines-cut line behind one)) (bad-first line (lines_in behind) not)

pub no-name-uncut : (bytes : List ℕ) → IsOneLine bytes → HasNoName bytes
no-name-uncut [] one = refl
no-name-uncut (b ∷ bytes) one = subst (λ (lines : Option (List (List ℕ))). IfSome lines (λ ls. name_first ls ≡ false)) (sym (lines-uncut (b ∷ bytes) one (omega arith))) tt

-- ---- lists

-- at most 4,096 bytes of these lines
pub short-list : (bytes : List ℕ) (lines : Option (List (List ℕ))) → length bytes ≤ 4096 → lines_in bytes ≡ lines → names_in bytes ≡ option_and_then names_of lines
short-list bytes lines short is = cond-true _ _ _ (le-leb (length bytes) 4096 short) ∙ ap (option_and_then names_of) is

pub many-names : (names : List (List ℕ)) → 1 ≤ length names → length names ≤ 16 → list_all is_name names ≡ true → names_of names ≡ Some names
many-names names some few each = cond-true _ _ _ (and_from _ _ (le-leb 1 (length names) some) (and_from _ _ (le-leb (length names) 16 few) each))

-- what is made of names is read back to them
pub list-told : (bytes : List ℕ) (names : List (List ℕ)) → IsListOf bytes names → names_in bytes ≡ Some names
list-told bytes names h =
    short-list bytes (Some names) h.short (ap lines_in h.lines ∙ lines-made names h.each)
    ∙ many-names names h.some h.few (names-from names h.each)

record Kept (lines names : List (List ℕ)) : Type 0 where
  pub same : lines ≡ names
  pub are : are_names names ≡ true

kept : (lines names : List (List ℕ)) → names_of lines ≡ Some names → Kept lines names
kept lines names e = elim (cases_Bool (are_names lines)) [
  | inl are ↦
      let here : Some lines ≡ Some names = sym (cond-true (are_names lines) _ _ are) ∙ e in
      let same : lines ≡ names = cc in
      record { same = same; are = ap are_names (sym same) ∙ are }
  | inr not ↦
      let here : None ≡ Some names = sym (cond-false (are_names lines) _ _ not) ∙ e in
      absurd (cc)
]

list-of : (bytes : List ℕ) (found : Option (List (List ℕ))) (names : List (List ℕ)) → length bytes ≤ 4096 → lines_in bytes ≡ found → option_and_then names_of found ≡ Some names → IsListOf bytes names
list-of bytes None names short is e = absurd (cc)
list-of bytes (Some lines) names short is e =
    let k = kept lines names e in
    let told = lines-tell bytes names (is ∙ ap (λ ls. Some ls) k.same) in
    let some = and_parts _ _ k.are in
    let few = and_parts _ _ some.1 in
    record {
      each = names-are names told.each few.1;
      some = leb-true 1 (length names) some.0;
      few = leb-true (length names) 16 few.0;
      short = short;
      lines = told.is;
    }

-- no other bytes are read to these names
pub list-only : (bytes : List ℕ) (names : List (List ℕ)) → names_in bytes ≡ Some names → IsListOf bytes names
list-only bytes names e = elim (cases_Bool (nat_le (length bytes) 4096)) [
  | inl short ↦ list-of bytes (lines_in bytes) names (leb-true (length bytes) 4096 short) refl (sym (cond-true (nat_le (length bytes) 4096) _ _ short) ∙ e)
  | inr long ↦
      let here : None ≡ Some names = sym (cond-false (nat_le (length bytes) 4096) _ _ long) ∙ e in
      absurd (cc)
]

-- ---- what is said of the names in bytes

pub names-some : (bytes : List ℕ) (names : List (List ℕ)) → names_in bytes ≡ Some names → 1 ≤ length names
names-some bytes names e = (list-only bytes names e).some

pub names-few : (bytes : List ℕ) (names : List (List ℕ)) → names_in bytes ≡ Some names → length names ≤ 16
names-few bytes names e = (list-only bytes names e).few

pub names-each : (bytes : List ℕ) (names : List (List ℕ)) → names_in bytes ≡ Some names → All IsName names
names-each bytes names e = (list-only bytes names e).each
