-- What the matches hold for an argument: values that passed its parser, and at least one where it has a default
use Rattle.std.proofs.Common.{◌≡◌, ◌∙◌, ◌<◌, ap, subst, refl, sym, ℕ, zero, suc, Bool, true, false, true≢false, List, [], ◌∷◌, Option, Some, None, is_some, map, option_map, length, inl, inr, arith, slice_index_or, find, cond, ltb-true}
use Rattle.std.specs.Prelude.{slice_get, ◌&&◌, ◌||◌, not, nat_lt, unwrap_or}
use Rattle.std.specs.List.{All, Any, list_all, list_any}
use Rattle.std.specs.Str.{bytes_eq}
use Rattle.std.specs.Borrow.{Bor}
use Rattle.std.proofs.lemmas.Slice.Eq.{bytes_eq-Decides}
use Rattle.std.proofs.lemmas.List.Elements.{All-get_or}
use Rattle.clap.specs.Texts.{items_of}
use Rattle.clap.specs.Values.{Accepts, read_as, reading_of}
use Rattle.clap.specs.Facts.{AllowsNone, Entry, EntryPasses, HasDefaults, HasId, HasReading, IsCountArg, MayBeEmpty, PassesArg, ValuesPass, WantsDefault, args_of, groups_of, least_values, parser_of, unwrap_or_range}
use Rattle.clap.specs.Matches.{first_value, matched_of, one_text}
use Rattle.clap.specs.Walk.{Rule, Text, action_of, is_empty, is_simple_arg, rule_of, texts}
use Rattle.clap.specs.declared.Command.{Command}
use Rattle.clap.specs.declared.Arg.{Arg}
use Rattle.clap.specs.declared.builder.ArgAction.{ArgAction}
use Rattle.clap.specs.declared.builder.ArgAction.TheVariants.{Count, Set}
use Rattle.clap.specs.declared.parser.matches.Found.{Found}
use Rattle.clap.specs.declared.parser.matches.MatchedArg.{MatchedArg}
use Rattle.clap.specs.declared.builder.value_parser.Reading.{Reading}
use Rattle.clap.proofs.CallerLemmas.{entry_by_id}
use Rattle.clap.proofs.TakesLemmas.{each_rule}
use Rattle.clap.proofs.SimpleLemmas.{is_nil}

pub both : (a b : Bool) → (a && b) ≡ true → (a ≡ true) × (b ≡ true)
both true b e = (refl, e)
both false b e = absurd (true≢false (sym e))

given : (a b : Bool) → (not a || b) ≡ true → a ≡ true → b ≡ true
given true b e t = e
given false b e t = absurd (true≢false (sym t))

abbrev is_count : ArgAction → Bool
is_count Count = true
is_count _ = false

-- a use of the argument gives a value
abbrev pub takes_value : Rule → Bool
takes_value a = nat_lt 0 (unwrap_or_range a.range).start_inclusive && (not (is_count (action_of a)) && a.is_simple)

value_taken : (a : Rule) → takes_value a ≡ true
    → (0 < (unwrap_or_range a.range).start_inclusive) × (not (is_count (action_of a)) ≡ true) × (a.is_simple ≡ true)
value_taken a e =
    let parts = both _ _ e in
    let rest = both _ _ parts.1 in
    (ltb-true _ _ parts.0, rest.0, rest.1)

undelimited : (a : Arg) → is_simple_arg a ≡ true → not (is_some a.val_delim) ≡ true
undelimited a e = fourth (is_empty a.overrides.items) (is_empty a.default_vals_ifs.items) (is_empty a.groups.items) (not (is_some a.val_delim))
    (not (is_some a.terminator) && (not a.allow_hyphen_values && (not a.allow_negative_numbers && (not a.require_equals && (not a.last && not a.global))))) e
  where
    fourth : (w x y z rest : Bool) → (w && (x && (y && (z && rest)))) ≡ true → z ≡ true
    fourth true true true true rest e = refl
    fourth true true true false rest e = e
    fourth true true false z rest e = absurd (true≢false (sym e))
    fourth true false y z rest e = absurd (true≢false (sym e))
    fourth false x y z rest e = absurd (true≢false (sym e))

module _ (c : Command) (f : Found) (id : Text) (no_groups : groups_of c ≡ []) (named : id ≡ [] → ⊥) where
  -- the entry of the id is no group's
  no_group : (e : Entry) → e.0.now ≡ id → EntryPasses c e → e.1.is_group ≡ true → ⊥
  no_group e is pass g = elim (pass.3 g) [
    | inl empty ↦ named (sym is ∙ empty)
    | inr lots ↦
        let bad : 0 < 0 = rw no_groups at lots in
        absurd (omega arith)
  ]

  entry_found : (xs : List Entry) (i : ℕ) → i < length xs → ((d : Entry) → bytes_eq (slice_index_or xs i d).0.now id ≡ true)
      → is_some (find (λ e. bytes_eq e.0.now id) xs) ≡ true
  entry_found [] i lt h = absurd (omega arith)
  entry_found (x ∷ xs) i lt h = go (bytes_eq x.0.now id) refl i lt h (entry_found xs)
    where
      go : (b : Bool) → bytes_eq x.0.now id ≡ b → (i : ℕ) → i < length (x ∷ xs)
          → ((d : Entry) → bytes_eq (slice_index_or (x ∷ xs) i d).0.now id ≡ true)
          → ((i : ℕ) → i < length xs → ((d : Entry) → bytes_eq (slice_index_or xs i d).0.now id ≡ true)
          → is_some (find (λ e. bytes_eq e.0.now id) xs) ≡ true)
          → is_some (cond b (Some x) (find (λ e. bytes_eq e.0.now id) xs)) ≡ true
      go true e i lt h more = refl
      go false e zero lt h more = absurd (true≢false (sym (h x) ∙ e))
      go false e (suc i) lt h more = more i (omega arith) h

  -- an argument with the id that has a default has an entry
  default_there : (xs : List Arg) → list_any (λ a. bytes_eq a.id id && (not (is_empty a.defaults) && a.is_simple)) (map rule_of xs) ≡ true
      → All (λ a. WantsDefault a → HasId f a.id.now) xs → HasId f id
  default_there [] e h = absurd (true≢false (sym e))
  default_there (x ∷ xs) e h = go (bytes_eq x.id.now id) refl (not (is_empty (rule_of x).defaults)) refl (is_simple_arg x) refl e
      (λ r. default_there xs r (λ k d lt. h (suc k) d (omega arith)))
    where
      more : (ys : List (Bor Text)) → not (is_empty (texts ys)) ≡ true → 0 < length ys
      more [] e = absurd (true≢false (sym e))
      more (y ∷ ys) e = omega arith

      go : (a : Bool) → bytes_eq x.id.now id ≡ a → (b : Bool) → not (is_empty (rule_of x).defaults) ≡ b → (s : Bool) → is_simple_arg x ≡ s
          → (a && (b && s) || list_any (λ a. bytes_eq a.id id && (not (is_empty a.defaults) && a.is_simple)) (map rule_of xs)) ≡ true
          → (list_any (λ a. bytes_eq a.id id && (not (is_empty a.defaults) && a.is_simple)) (map rule_of xs) ≡ true → HasId f id) → HasId f id
      go true is true some true simple e rest =
          let first : 0 < length (x ∷ xs) = omega arith in
          let ifs : x.default_vals_ifs.items ≡ [] = is_nil x.default_vals_ifs.items (both _ _ (both _ _ simple).1).0 in
          subst (HasId f) ((bytes_eq-Decides x.id.now id).0 is) (h 0 x first (ifs, more (items_of x.default_vals) some))
      go true is true some false simple e rest = rest e
      go true is false some s simple e rest = rest e
      go false is b some s simple e rest = rest e

  -- a test that the rules of each argument with the id pass
  module _ (good : Rule → Bool) (all_good : list_all (λ a. not (bytes_eq a.id id) || good a) (map rule_of (args_of c)) ≡ true) where
    good_arg : (P : Arg → Type 0) → Any (λ a. (bytes_eq a.id.now id ≡ true) × P a) (args_of c) → (a : Arg) × (good (rule_of a) ≡ true) × P a
    good_arg P any =
        let at = each_rule (λ a. not (bytes_eq a.id id) || good a) (args_of c) all_good any.0 any.1 any.2 in
        let here = rw any.3 at at in
        (any.1, given _ _ here any.4.0, any.4.1)

    -- the first value of the id passed its parser, and is read as that parser says
    pub first_passes : (Q : Text → Type 0) (how : Reading) → ValuesPass c f
        → ((a : Arg) → good (rule_of a) ≡ true → (v : Text) → Accepts a.ignore_case (parser_of a) v → Q v)
        → ((a : Arg) → good (rule_of a) ≡ true → reading_of (parser_of a) ≡ how)
        → (t : Text) → first_value f id ≡ Some t → Q t × (one_text f id ≡ Some (read_as how t))
    first_passes Q how values accepted reads t has = go (matched_of f id) refl has
      where
        head : (P : Text → Type 0) (vs : List (Bor Text)) → All (λ v. P v.now) vs → option_map (λ s. s.now) (slice_get vs 0) ≡ Some t
            → P t × (option_map (λ s. read_as how s.now) (slice_get vs 0) ≡ Some (read_as how t))
        head P [] h e = cc
        head P (v ∷ vs) h e =
            let same : v.now ≡ t = ap (λ o. unwrap_or o t) e in
            (subst P same (All-get_or (λ w. P w.now) (v ∷ vs) 0 v (omega arith) h), ap (λ u. Some (read_as how u)) same)

        text_at : (x : MatchedArg) (u : Text) → matched_of f id ≡ Some x → x.reading ≡ how
            → option_map (λ s. read_as how s.now) (slice_get x.vals.items 0) ≡ Some u → one_text f id ≡ Some u
        text_at x u found is e = rw (found, is) e

        step : (x : MatchedArg) → matched_of f id ≡ Some x → option_map (λ s. s.now) (slice_get x.vals.items 0) ≡ Some t
            → ((e : Entry) × (e.1 ≡ x) × (bytes_eq e.0.now id ≡ true) × EntryPasses c e)
            → Q t × (one_text f id ≡ Some (read_as how t))
        step x found first got =
            let key : got.0.0.now ≡ id = (bytes_eq-Decides got.0.0.now id).0 got.2 in
            let same_x : got.0.1 ≡ x = got.1 in
            let vals : All (λ v. PassesArg c id v.now) x.vals.items = elim got.3.0 [
              | inl g ↦ absurd (no_group got.0 key got.3 g)
              | inr all ↦ subst (λ (w : Text). All (λ v. PassesArg c w v.now) x.vals.items) key (rw same_x at all)
            ] in
            let read : got.0.1.reading ≡ how = elim got.3.4 [
              | inl g ↦ absurd (no_group got.0 key got.3 g)
              | inr h ↦
                  let a = good_arg (λ a. reading_of (parser_of a) ≡ got.0.1.reading) (subst (λ (w : Text). HasReading c w got.0.1.reading) key h) in
                  sym a.2 ∙ reads a.0 a.1
            ] in
            let is : x.reading ≡ how = ap (λ (y : MatchedArg). y.reading) (sym same_x) ∙ read in
            let hd = head (PassesArg c id) x.vals.items vals first in
            let a = good_arg (λ a. Accepts a.ignore_case (parser_of a) t) hd.0 in
            (accepted a.0 a.1 t a.2, text_at x (read_as how t) found is hd.1)

        go : (o : Option MatchedArg) → matched_of f id ≡ o → first_value f id ≡ Some t → Q t × (one_text f id ≡ Some (read_as how t))
        go None e h =
            let bad : None ≡ Some t = rw e at h in
            cc
        go (Some x) e h = step x e (rw e at h) (entry_by_id (EntryPasses c) f.entries.items id x values e)

    -- an argument that takes a value and has an entry has a value
    pub entry_given : ValuesPass c f → ((a : Rule) → good a ≡ true → takes_value a ≡ true) → is_some (matched_of f id) ≡ true
        → (t : Text) × (first_value f id ≡ Some t)
    entry_given values takes has = go (matched_of f id) refl has
      where
        text_of : (x : MatchedArg) → matched_of f id ≡ Some x → (vs : List (Bor Text)) → x.vals.items ≡ vs → 0 < length vs
            → (t : Text) × (first_value f id ≡ Some t)
        text_of x found [] is lt = absurd (omega arith)
        text_of x found (v ∷ vs) is lt = (v.now, rw (found, is) refl)

        filled : (x : MatchedArg) → ((e : Entry) × (e.1 ≡ x) × (bytes_eq e.0.now id ≡ true) × EntryPasses c e) → 0 < length x.vals.items
        filled x got =
            let key : got.0.0.now ≡ id = (bytes_eq-Decides got.0.0.now id).0 got.2 in
            let same_x : got.0.1 ≡ x = got.1 in
            elim got.3.1 [
              | inl h ↦ absurd (no_group got.0 key got.3 h.0)
              | inr (inl v) ↦ subst (λ (y : MatchedArg). 0 < length y.vals.items) same_x v
              | inr (inr (inl h)) ↦
                  let a = good_arg (λ a. unwrap_or a.action Set ≡ Count) (subst (IsCountArg c) key h.1) in
                  let t = value_taken (rule_of a.0) (takes (rule_of a.0) a.1) in
                  let no : not (is_count (action_of (rule_of a.0))) ≡ true = t.1 in
                  absurd (true≢false (sym (ap (λ x. not (is_count x)) (sym a.2) ∙ no)))
              | inr (inr (inr h)) ↦
                  let a = good_arg MayBeEmpty (subst (AllowsNone c) key h) in
                  let t = value_taken (rule_of a.0) (takes (rule_of a.0) a.1) in
                  elim a.2 [
                    | inl none ↦
                        let some : 0 < least_values a.0 = t.0 in
                        absurd (omega arith)
                    | inr delimited ↦
                        let no : not (is_some a.0.val_delim) ≡ true = undelimited a.0 t.2 in
                        absurd (true≢false (sym (ap not (sym delimited) ∙ no)))
                  ]
            ]

        go : (o : Option MatchedArg) → matched_of f id ≡ o → is_some o ≡ true → (t : Text) × (first_value f id ≡ Some t)
        go None e h = absurd (true≢false (sym h))
        go (Some x) e h = text_of x e x.vals.items refl (filled x (entry_by_id (EntryPasses c) f.entries.items id x values e))

    -- and so has one with a default
    pub default_given : ValuesPass c f → HasDefaults c f → ((a : Rule) → good a ≡ true → takes_value a ≡ true)
        → list_any (λ a. bytes_eq a.id id && (not (is_empty a.defaults) && a.is_simple)) (map rule_of (args_of c)) ≡ true
        → (t : Text) × (first_value f id ≡ Some t)
    default_given values defaults takes has =
        let there = default_there (args_of c) has defaults in
        entry_given values takes (some_mapped (find (λ e. bytes_eq e.0.now id) f.entries.items) (entry_found f.entries.items there.0 there.1 there.2))
      where
        some_mapped : (o : Option Entry) → is_some o ≡ true → is_some (option_map (λ e. e.1) o) ≡ true
        some_mapped None e = e
        some_mapped (Some x) e = refl
