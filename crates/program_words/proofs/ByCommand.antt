-- What a parse of the command line gives: numbers in their ranges, and flags that are `true` or `false`
use Rattle.std.proofs.Common.{◌≡◌, ◌∙◌, ◌<◌, ◌≤◌, ◌^◌, ◌⊎◌, ap, subst, refl, sym, ℕ, Bool, true, false, true≢false, List, [], ◌∷◌, Option, Some, None, Result, Ok, Err, inl, inr, arith, codes, leb-true}
use Rattle.std.specs.Prelude.{◌&&◌, ◌||◌, not, nat_le, option_and_then, option_map, slice_get, unwrap_or}
use Rattle.std.specs.List.{list_all, list_any}
use Rattle.std.specs.Str.{bytes_eq}
use Rattle.std.specs.Str.Parse.{IsNumeral, ParsesUnsigned, without_leading_plus}
use Rattle.std.proofs.lemmas.Slice.Eq.{bytes_eq-Decides}
use Rattle.clap.specs.Values.{Accepts, read_as, reading_of}
use Rattle.clap.specs.Facts.{IsParsed, groups_of, parser_of, parser_of_value}
use Rattle.clap.specs.Matches.{ReadsOne, first_value, matched_of, one_text}
use Rattle.clap.specs.declared.parser.matches.MatchedArg.{MatchedArg}
use Rattle.clap.specs.declared.builder.value_parser.Reading.{Reading}
use Rattle.std.specs.Borrow.{Bor}
use Rattle.clap.specs.Simple.{App, app_of, built, has_plain_fields, is_buildable}
use Rattle.clap.specs.Walk.{Rule, Text, is_empty, rows_of}
use Rattle.clap.specs.declared.Command.{Command}
use Rattle.clap.specs.declared.Command.TheViews.{out-Command}
use Rattle.clap.specs.declared.builder.ValueParser.{ValueParser}
use Rattle.clap.specs.declared.builder.ValueParser.TheVariants as vp
use Rattle.clap.specs.declared.builder.value_parser.Reading.TheVariants as reading
use Rattle.clap.specs.declared.parser.matches.Found.{Found}
use Rattle.clap.specs.Takes.{is_given}
use Rattle.clap.specs.Words.{BuildsOrBreaks, is_broken}
use Rattle.clap.proofs.CallerLemmas.{present_has_entry}
use Rattle.clap.proofs.TakesLemmas.{present_row}
use Rattle.clap.proofs.SimpleLemmas.{is_nil}
use Rattle.clap.proofs.WalkLemmas.{first_value-rows}
use Rattle.program_words.specs.CommandLine.{HasFlag, HasNumber, HasText, HeldTexts, HoldsValues, command_with, flag_at, number_of, value_of}
use Rattle.program_words.proofs.OnWords.{ArePlaced}
use Rattle.program_words.proofs.Values.{both, default_given, entry_given, first_passes, takes_value}

-- a parser of numbers from `low` or more to `high` or less
abbrev is_within : ℕ → ℕ → ValueParser → Bool
is_within low high (vp.Unsigned least most) = nat_le low least && nat_le most high
is_within low high _ = false

abbrev is_flag : ValueParser → Bool
is_flag vp.Bool = true
is_flag _ = false

no : {X : Type 0} → false ≡ true → X
no e = absurd (true≢false (sym e))

-- a number in digits between two ends
abbrev IsWithin : ℕ → ℕ → Text → Type 0
IsWithin low high text = IsNumeral 10 (without_leading_plus text) × (low ≤ number_of text) × (number_of text ≤ high)

range_is : (low high : ℕ) (q : ValueParser) → is_within low high q ≡ true
    → (least : ℕ) × (most : ℕ) × (q ≡ vp.Unsigned least most) × (low ≤ least) × (most ≤ high)
range_is low high (vp.Unsigned least most) e =
    let ends = both _ _ e in
    (least, most, refl, leb-true _ _ ends.0, leb-true _ _ ends.1)
range_is low high vp.String e = no e
range_is low high vp.NonEmptyString e = no e
range_is low high vp.Bool e = no e
range_is low high vp.Boolish e = no e
range_is low high vp.Falsey e = no e
range_is low high (vp.Signed a b) e = no e
range_is low high vp.Float e = no e
range_is low high vp.Char e = no e
range_is low high (vp.Names names) e = no e
range_is low high (vp.Values values) e = no e

number_text : (low high : ℕ) (ic : Bool) (q : ValueParser) (t : Text) → is_within low high q ≡ true → Accepts ic q t → IsWithin low high t
number_text low high ic q t e h =
    let range = range_is low high q e in
    let passed : Accepts ic (vp.Unsigned range.0 range.1) t = subst (λ (w : ValueParser). Accepts ic w t) range.2 h in
    (passed.0, omega arith, omega arith)

fits_below : (high number : ℕ) → high < 2 ^ 64 → number ≤ high → number < 2 ^ 64
fits_below high number fits below = omega (arith, fits, below)

abbrev IsSwitch : Text → Type 0
IsSwitch t = (t ≡ codes "true") ⊎ (t ≡ codes "false")

flag_is : (q : ValueParser) → is_flag q ≡ true → q ≡ vp.Bool
flag_is vp.Bool e = refl
flag_is vp.String e = no e
flag_is vp.NonEmptyString e = no e
flag_is vp.Boolish e = no e
flag_is vp.Falsey e = no e
flag_is (vp.Signed low high) e = no e
flag_is (vp.Unsigned low high) e = no e
flag_is vp.Float e = no e
flag_is vp.Char e = no e
flag_is (vp.Names names) e = no e
flag_is (vp.Values values) e = no e

either : (t : Text) (a b : Bool) → bytes_eq t (codes "true") ≡ a → bytes_eq t (codes "false") ≡ b → (a || b) ≡ true → IsSwitch t
either t true b is_true is_false e = inl ((bytes_eq-Decides t (codes "true")).0 is_true)
either t false true is_true is_false e = inr ((bytes_eq-Decides t (codes "false")).0 is_false)
either t false false is_true is_false e = no e

flag_text : (ic : Bool) (q : ValueParser) (t : Text) → is_flag q ≡ true → Accepts ic q t → IsSwitch t
flag_text ic q t e h =
    let passed : Accepts ic vp.Bool t = subst (λ (w : ValueParser). Accepts ic w t) (flag_is q e) h in
    either t _ _ refl refl passed

abbrev good_number : ℕ → ℕ → Rule → Bool
good_number low high a = takes_value a && is_within low high (parser_of_value a.parser)

abbrev good_flag : Rule → Bool
good_flag a = is_flag (parser_of_value a.parser)

-- each rule with this id passes a test
abbrev each_with : Text → (Rule → Bool) → App → Bool
each_with id good a = list_all (λ r. not (bytes_eq r.id id) || good r) a.top.rules

-- there is an option of this id with a default, and it takes numbers between these ends
abbrev has_number : Text → ℕ → ℕ → App → Bool
has_number id low high a =
    each_with id (good_number low high) a && list_any (λ r. bytes_eq r.id id && (not (is_empty r.defaults) && r.is_simple)) a.top.rules

abbrev has_flag : Text → App → Bool
has_flag id a = each_with id good_flag a

abbrev has_text : Text → App → Bool
has_text id a = each_with id takes_value a

-- what the rules of the command are, before and after it is built
abbrev IsCommand : HeldTexts → Command → Type 0
IsCommand names c = (app_of c ≡ command_with names) ⊎ (app_of c ≡ built (command_with names))

by_app : (P : App → Type 0) (names : HeldTexts) (c : Command) → IsCommand names c → P (command_with names) → P (built (command_with names)) → P (app_of c)
by_app P names c (inl is) before after = subst P (sym is) before
by_app P names c (inr is) before after = subst P (sym is) after

is_command : (names : HeldTexts) (old new : Command) → app_of old ≡ command_with names
    → (app_of new ≡ app_of old) ⊎ (is_buildable (app_of old) ≡ true → app_of new ≡ built (app_of old)) → IsCommand names new
is_command names old new is (inl stays) = inl (stays ∙ is)
is_command names old new is (inr builds) = inr (builds (ap is_buildable is) ∙ ap built is)

-- the value of an argument that has a first one
pub value_is : (f : Found) (id t : Text) → first_value f id ≡ Some t → value_of id (rows_of f) ≡ t
value_is f id t has = ap (λ o. unwrap_or o []) (sym (first_value-rows f id) ∙ has)

module _ (names : HeldTexts) (c : Command) (is : IsCommand names c) where
  plain : has_plain_fields (out-Command c) ≡ true
  plain = by_app (λ a. a.top.is_plain ≡ true) names c is refl refl

  no_groups : groups_of c ≡ []
  no_groups = is_nil (groups_of c) (both _ _ plain).0

  no_globals : (out-Command c).has_globals ≡ false
  no_globals = not_true (out-Command c).has_globals (both _ _ (both _ _ (both _ _ plain).1).1).0
    where
      not_true : (b : Bool) → not b ≡ true → b ≡ false
      not_true true e = no e
      not_true false e = refl

  module _ (f : Found) (used : Bool) (parsed : IsParsed c f used) where
    module _ (id : Text) (named : id ≡ [] → ⊥) where
      -- an option has its number
      number_there : (low high : ℕ) → high < 2 ^ 64 → has_number id low high (command_with names) ≡ true → has_number id low high (built (command_with names)) ≡ true
          → HasNumber f id
      number_there low high fits before after =
          let there = both _ _ (by_app (λ a. has_number id low high a ≡ true) names c is before after) in
          let has = default_given c f id no_groups named (good_number low high) there.0 parsed.values parsed.defaults (λ a g. (both _ _ g).0) there.1 in
          let got = first_passes c f id no_groups named (good_number low high) there.0 (IsWithin low high) reading.AsWritten parsed.values
          (λ a g v h. number_text low high a.ignore_case (parser_of a) v (both _ _ g).1 h)
          (λ a g. ap reading_of (range_is low high (parser_of a) (both _ _ g).1).2) has.0 has.1 in
          (has.0, has.1, got.1, got.0.0, fits_below high (number_of has.0) fits got.0.2)

      -- a positional that is given has its text
      text_there : has_text id (command_with names) ≡ true → has_text id (built (command_with names)) ≡ true → is_given id (rows_of f) ≡ true → HasText f id
      text_there before after given =
          entry_given c f id no_groups named takes_value (by_app (λ a. has_text id a ≡ true) names c is before after) parsed.values (λ a g. g)
          (present_has_entry f id (present_row f id ∙ given))

      -- a flag has one of its two values
      flag_there : has_flag id (command_with names) ≡ true → has_flag id (built (command_with names)) ≡ true → HasFlag f id
      flag_there before after t has =
          let got = first_passes c f id no_groups named good_flag (by_app (λ a. has_flag id a ≡ true) names c is before after) IsSwitch reading.AsWritten parsed.values
          (λ a g v h. flag_text a.ignore_case (parser_of a) v g h)
          (λ a g. ap reading_of (flag_is (parser_of a) g)) t has in
          (got.1, got.0)

pub values_hold : (names : HeldTexts) (old new : Command) → app_of old ≡ command_with names → BuildsOrBreaks old new → (is_broken new ≡ true → ⊥)
    → (f : Found) (used : Bool) → ((out-Command new).has_globals ≡ false → IsParsed new f used) → ArePlaced (rows_of f) → HoldsValues f
values_hold names old new made (inl broken) whole f used parse placed = absurd (whole broken)
values_hold names old new made (inr kept) whole f used parse placed =
    let is = is_command names old new made kept.2 in
    let parsed = parse (no_globals names new is) in
    let tracks = number_there names new is f used parsed (codes "tracks") (λ e. cc) 1 32 (omega arith) refl refl in
    let workers = number_there names new is f used parsed (codes "workers") (λ e. cc) 0 64 (omega arith) refl refl in
    let budget = number_there names new is f used parsed (codes "budget") (λ e. cc) 1 1099511627776 (omega arith) refl refl in (
      (
        text_there names new is f used parsed (codes "COMMAND") (λ e. cc) refl refl placed.0,
        text_there names new is f used parsed (codes "IMAGE") (λ e. cc) refl refl placed.1,
      ),
      (tracks, workers, budget),
      (
        flag_there names new is f used parsed (codes "no-input") (λ e. cc) refl refl,
        flag_there names new is f used parsed (codes "report") (λ e. cc) refl refl,
        flag_there names new is f used parsed (codes "journal") (λ e. cc) refl refl,
      ),
    )

-- ---- what the getters read

pub number_reads : (E : Type 0) (G : Text → Result ℕ E → Type 0) (t : Text) (r : Option ℕ)
    → ReadsOne G t r → ((u : Text) (x : Result ℕ E) → G u x → ParsesUnsigned 64 10 u x)
    → IsNumeral 10 (without_leading_plus t) × (number_of t < 2 ^ 64) → r ≡ Some (number_of t)
number_reads E G t (Some v) h only good = ap Some (only t (Ok v) h).1
number_reads E G t None h only good = absurd (only t (Err h.0) h.1 good)

none_read : (f : Found) (id : Text) → first_value f id ≡ None → one_text f id ≡ None
none_read f id e = go (matched_of f id) e
  where
    vals : (how : Reading) (vs : List (Bor Text)) → option_map (λ s. s.now) (slice_get vs 0) ≡ None
        → option_map (λ s. read_as how s.now) (slice_get vs 0) ≡ None
    vals how [] e = refl
    vals how (v ∷ vs) e = cc

    go : (o : Option MatchedArg) → option_and_then (λ a. option_map (λ s. s.now) (slice_get a.vals.items 0)) o ≡ None
        → option_and_then (λ a. option_map (λ s. read_as a.reading s.now) (slice_get a.vals.items 0)) o ≡ None
    go None e = refl
    go (Some x) e = vals x.reading x.vals.items e

pub flag_reads : (f : Found) (id : Text) (b : Bool) → HasFlag f id → (one_text f id ≡ None → b ≡ false)
    → (one_text f id ≡ Some (codes "true") → b ≡ true) → (one_text f id ≡ Some (codes "false") → b ≡ false)
    → b ≡ flag_at id (rows_of f)
flag_reads f id b flag none value other = go (first_value f id) refl
  where
    at : (t : Text) → value_of id (rows_of f) ≡ t → bytes_eq t (codes "true") ≡ flag_at id (rows_of f)
    at t e = ap (λ u. bytes_eq u (codes "true")) (sym e)

    go : (o : Option Text) → first_value f id ≡ o → b ≡ flag_at id (rows_of f)
    go None e = none (none_read f id e) ∙ at [] (ap (λ o. unwrap_or o []) (sym (first_value-rows f id) ∙ e))
    go (Some t) e = elim (flag t e).1 [
      | inl is ↦ value ((flag t e).0 ∙ ap Some is) ∙ at (codes "true") (value_is f id t e ∙ is)
      | inr is ↦ other ((flag t e).0 ∙ ap Some is) ∙ at (codes "false") (value_is f id t e ∙ is)
    ]

-- a text that is there
pub text_reads : (f : Found) (id : Text) (s : Bor Text) → option_map (λ s. s.now) (Some s) ≡ first_value f id → s.now ≡ value_of id (rows_of f)
text_reads f id s is = ap (λ t. unwrap_or t []) (is ∙ first_value-rows f id)
