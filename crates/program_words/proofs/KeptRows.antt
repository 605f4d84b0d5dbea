-- What `clap` finds for one option where it finds no fault with the words: a first value that passes a test
use Rattle.std.proofs.Common.{◌≡◌, ◌⊎◌, ◌+◌, min, ap, subst, refl, sym, ℕ, zero, suc, Bool, true, false, true≢false, cond, List, [], ◌∷◌, ◌++◌, Option, Some, None, inl, inr, is_some, length, drop, find, fold}
use Rattle.std.specs.Prelude.{encode_utf8, not, option_and_then, slice_get, ◌&&◌, ◌||◌}
use Rattle.std.specs.Option.{option_map_or}
use Rattle.std.specs.Str.{bytes_eq, chars}
use Rattle.std.proofs.lemmas.Slice.Eq.{bytes_eq-Decides}
use Rattle.clap.specs.Lexer.{long_of, short_of}
use Rattle.clap.specs.Matches.{count_text}
use Rattle.clap.specs.declared.builder.value_parser.Reading.{Reading}
use Rattle.clap.specs.declared.error.ErrorKind.TheVariants as kind
use Rattle.clap.specs.Kinds.{Kinds, or_else}
use Rattle.clap.specs.Faults.{bundle_fault, bundle_step_fault, flag_word_fault, flags_fault, long_fault, option_fault, other_fault, react_fault, settle_fault, short_fault, step_fault, stray_fault, turn_fault, use_fault, walk_fault, word_fault}
use Rattle.clap.specs.Simple.{Shape}
use Rattle.clap.specs.Walk.{Held, Names, Outcome, Row, Rule, Step, Text, Waiting, Walk, action_of, after_flag, after_step, arg_by_id, arg_by_index, arg_by_long, arg_by_short, at_row, attached_value, bundle, bundle_met, bundle_step, count_of, default_rows, done, finished, first_of, flag_met, has_long, has_row, has_short, idle, is_pending, long_met, long_or_other, more_values, new_count, next, nothing_held, option, option_met, option_word, plain, plain_word, positional, reacted, reading_by, refused, settled, settled_rows, short_met, short_or_plain, subcommand, subcommand_met, subcommand_or_other, takes_several, takes_values, to_positional, trailing, used, used_as, used_by_id, value, values_or_missing, waits, walk, walk_from, walked, walked_from, with_count, with_default, with_values, without, word_met}
use Rattle.clap.specs.declared.builder.ArgAction.{ArgAction}
use Rattle.clap.specs.declared.builder.ArgAction.TheVariants.{Append, Count, Set, SetFalse, SetTrue}
use Rattle.clap.specs.declared.parser.matches.ValueSource.{ValueSource}
use Rattle.clap.specs.declared.parser.matches.ValueSource.TheVariants.{CommandLine, DefaultValue}

-- no kind of the first, and none of the second
pub or_first : (a b : Kinds) → or_else a b ≡ [] → a ≡ []
or_first [] b e = refl
or_first (k ∷ ks) b e = e

pub or_second : (a b : Kinds) → or_else a b ≡ [] → b ≡ []
or_second [] b e = e
or_second (k ∷ ks) b e = cc

or_more : (x y z : Bool) → (y ≡ true → z ≡ true) → (x || y) ≡ true → (x || z) ≡ true
or_more true y z f e = refl
or_more false y z f e = f e

or_right : (x z : Bool) → z ≡ true → (x || z) ≡ true
or_right true z e = refl
or_right false z e = e

-- ---- rows of an argument with this id

module _ (id : Text) (Q : Text → Type 0) where
  -- the first of the values passes
  abbrev pub FirstPasses : List Text → Type 0
  FirstPasses values = (t : Text) × (slice_get values 0 ≡ Some t) × Q t

  abbrev pub IsKept : Row → Type 0
  IsKept r = bytes_eq r.id id ≡ true → FirstPasses r.values

  abbrev pub AreKept : List Row → Type 0
  AreKept [] = Unit {0}
  AreKept (r ∷ rs) = IsKept r × AreKept rs

  kept-append : (xs ys : List Row) → AreKept xs → AreKept ys → AreKept (xs ++ ys)
  kept-append [] ys k l = l
  kept-append (x ∷ xs) ys k l = (k.0, kept-append xs ys k.1 l)

  kept-at_row : (at : Text) (change : Row → List Row) (missing rows : List Row) → ((r : Row) → IsKept r → AreKept (change r))
      → AreKept missing → AreKept rows → AreKept (at_row at change missing rows)
  kept-at_row at change missing [] c m k = m
  kept-at_row at change missing (r ∷ rs) c m k = go (bytes_eq r.id at) (kept-at_row at change missing rs c m k.1)
    where
      go : (b : Bool) → AreKept (at_row at change missing rs) → AreKept (cond b (change r ++ rs) (r ∷ at_row at change missing rs))
      go true rest = kept-append (change r) rs (c r k.0) k.1
      go false rest = (k.0, rest)

  still_first : (values more : List Text) → FirstPasses values → FirstPasses (values ++ more)
  still_first [] more f =
      let bad : None ≡ Some f.0 = f.1 in
      cc
  still_first (v ∷ vs) more f = (f.0, f.1, f.2)

  kept-without : (at : Text) (rows : List Row) → AreKept rows → AreKept (without at rows)
  kept-without at rows k = kept-at_row at (λ _. []) [] rows (λ r kept. tt) tt k

  kept-with_values : (at : Text) (how : Reading) (s : ValueSource) (values : List Text) (rows : List Row)
      → (bytes_eq at id ≡ true → FirstPasses values) → AreKept rows → AreKept (with_values at how s values rows)
  kept-with_values at how s values rows fits k =
      kept-at_row at (more_values s values) (record { id = at; values = values; count = None; source = Some s; reading = how } ∷ []) rows
      (λ r kept. (λ e. still_first r.values values (kept e), tt)) (fits, tt) k

  kept-with_count : (at : Text) (how : Reading) (s : ValueSource) (n : ℕ) (rows : List Row)
      → (bytes_eq at id ≡ true → FirstPasses (count_text n ∷ [])) → AreKept rows → AreKept (with_count at how s n rows)
  kept-with_count at how s n rows fits k =
      kept-at_row at (new_count s n) (record { id = at; values = count_text n ∷ []; count = Some n; source = Some s; reading = how } ∷ []) rows
      (λ r kept. (λ e. still_first r.values (count_text n ∷ []) (kept e), tt)) (fits, tt) k

  -- a use of an argument, which is set where it has this id
  kept-used_as : (x : ArgAction) (at : Text) (how : Reading) (values : List Text) (rows : List Row)
      → (bytes_eq at id ≡ true → (x ≡ Set) × FirstPasses values) → AreKept rows → AreKept (used_as x at how values rows)
  kept-used_as Set at how values rows fits k = kept-with_values at how CommandLine values (without at rows) (λ e. (fits e).1) (kept-without at rows k)
  kept-used_as SetTrue at how values rows fits k = kept-with_values at how CommandLine values (without at rows) (λ e. (fits e).1) (kept-without at rows k)
  kept-used_as SetFalse at how values rows fits k = kept-with_values at how CommandLine values (without at rows) (λ e. (fits e).1) (kept-without at rows k)
  kept-used_as Append at how values rows fits k = kept-with_values at how CommandLine values rows (λ e. (fits e).1) k
  kept-used_as Count at how [] rows fits k =
      kept-with_count at how CommandLine (min (count_of at rows + 1) 255) (without at rows) (λ e. absurd (let no : Count ≡ Set = (fits e).0 in cc)) (kept-without at rows k)
  kept-used_as Count at how (v ∷ vs) rows fits k = kept-with_values at how CommandLine (v ∷ vs) (without at rows) (λ e. (fits e).1) (kept-without at rows k)
  kept-used_as _ at how values rows fits k = k

  -- the row that is there gives its first value
  pub first_kept : (rows : List Row) → AreKept rows → has_row id rows ≡ true → (t : Text) × (first_of id rows ≡ Some t) × Q t
  first_kept [] k h = absurd (true≢false (sym h))
  first_kept (r ∷ rs) k h = go (bytes_eq r.id id) refl h (first_kept rs k.1)
    where
      go : (b : Bool) → bytes_eq r.id id ≡ b → (b || has_row id rs) ≡ true
          → (has_row id rs ≡ true → (t : Text) × (first_of id rs ≡ Some t) × Q t)
          → (t : Text) × (option_and_then (λ (x : Row). slice_get x.values 0) (cond b (Some r) (find (λ x. bytes_eq x.id id) rs)) ≡ Some t) × Q t
      go true is h rest = k.0 is
      go false is h rest = rest h

-- ---- one option among the arguments of a command

module _ (s : Shape) (A : Rule) (Q : Text → Type 0) where
  abbrev Passes : List Text → Type 0
  Passes = FirstPasses A.id Q

  abbrev Kept : List Row → Type 0
  Kept = AreKept A.id Q

  -- no other argument has its id
  abbrev pub IsAlone : List Rule → Type 0
  IsAlone [] = Unit {0}
  IsAlone (a ∷ rest) = (bytes_eq a.id A.id ≡ true → a ≡ A) × IsAlone rest

  -- it is one of these
  abbrev pub IsListed : List Rule → Type 0
  IsListed [] = ⊥
  IsListed (a ∷ rest) = (a ≡ A) ⊎ IsListed rest

  alone_found : (q : Rule → Bool) (xs : List Rule) (a : Rule) → IsAlone xs → find q xs ≡ Some a → bytes_eq a.id A.id ≡ true → a ≡ A
  alone_found q [] a alone is e =
      let bad : None ≡ Some a = is in
      cc
  alone_found q (x ∷ xs) a alone is e = go (q x) is (alone_found q xs a alone.1)
    where
      go : (b : Bool) → cond b (Some x) (find q xs) ≡ Some a → (find q xs ≡ Some a → bytes_eq a.id A.id ≡ true → a ≡ A) → a ≡ A
      go true is rest =
          let same : x ≡ a = cc in
          subst (λ (y : Rule). bytes_eq y.id A.id ≡ true → y ≡ A) same alone.0 e
      go false is rest = rest is e

  module _ (alone : IsAlone s.rules) (sets : action_of A ≡ Set) (default : Passes A.defaults)
      (passes : (values : List Text) (rows : List Row) → use_fault s.args_override_self A values rows ≡ [] → Passes (values_or_missing A values)) where
    -- a use of any argument of the command
    kept-used : (q : Rule → Bool) (a : Rule) → find q s.rules ≡ Some a → (values : List Text) (rows : List Row)
        → use_fault s.args_override_self a values rows ≡ [] → Kept rows → Kept (used a values rows)
    kept-used q a is values rows none k =
        kept-used_as A.id Q (action_of a) a.id (reading_by a) (values_or_missing a values) rows
        (λ e. let same : a ≡ A = alone_found q s.rules a alone is e in
        subst (λ (x : Rule). (action_of x ≡ Set) × Passes (values_or_missing x values)) (sym same)
        (sets, passes values rows (subst (λ (x : Rule). use_fault s.args_override_self x values rows ≡ []) same none))) k

    kept-settled : (h : Held) → settle_fault s.rules s.args_override_self h ≡ [] → Kept h.rows → Kept (settled s.rules h).rows
    kept-settled h none k = go h.pending none
      where
        by_rule : (p : Text × List Text) (o : Option Rule) → arg_by_id s.rules p.0 ≡ o
            → option_map_or (λ a. use_fault s.args_override_self a p.1 h.rows) o [] ≡ [] → Kept (used_by_id o p.1 h.rows)
        by_rule p None is none = k
        by_rule p (Some a) is none = kept-used (λ a. bytes_eq a.id p.0) a is p.1 h.rows none k

        go : (o : Option (Text × List Text))
            → option_map_or (λ p. option_map_or (λ a. use_fault s.args_override_self a p.1 h.rows) (arg_by_id s.rules p.0) []) o [] ≡ []
            → Kept (settled_rows s.rules o h.rows)
        go None none = k
        go (Some p) none = by_rule p (arg_by_id s.rules p.0) refl none

    kept-reacted : (q : Rule → Bool) (a : Rule) → find q s.rules ≡ Some a → (values : List Text) (h : Held)
        → react_fault s.rules s.args_override_self a values h ≡ [] → Kept h.rows → Kept (reacted s.rules a values h).rows
    kept-reacted q a is values h none k =
        let before = settle_fault s.rules s.args_override_self h in
        let after = use_fault s.args_override_self a values (settled s.rules h).rows in
        kept-used q a is values (settled s.rules h).rows (or_second before after none) (kept-settled h (or_first before after none) k)

    -- ---- flags and options

    kept-option : (q : Rule → Bool) (a : Rule) → find q s.rules ≡ Some a → (v : Option Text) (h : Held)
        → option_fault s.rules s.args_override_self a v h ≡ [] → Kept h.rows → Kept (option_met s.rules a v h).0.rows
    kept-option q a is (Some v) h none k = kept-reacted q a is (v ∷ []) h none k
    kept-option q a is None h none k = kept-settled h none k

    kept-long : (q : Rule → Bool) (o : Option Rule) → find q s.rules ≡ o → (v : Option Text) (h : Held)
        → long_fault s.rules s.args_override_self o v h ≡ [] → Kept h.rows → Kept (long_met s.rules o v h).0.rows
    kept-long q None is v h none k = k
    kept-long q (Some a) is v h none k = go (takes_values a) v none
      where
        go : (b : Bool) (v : Option Text) → cond b (option_fault s.rules s.args_override_self a v h) (cond (is_some v) (kind.TooManyValues ∷ []) (react_fault s.rules s.args_override_self a [] h)) ≡ []
            → Kept (cond b (option_met s.rules a v h) (flag_met s.rules a v h)).0.rows
        go true v none = kept-option q a is v h none k
        go false (Some v) none = k
        go false None none = kept-reacted q a is [] h none k

    kept-short : (q : Rule → Bool) (o : Option Rule) → find q s.rules ≡ o → (rest : Text) (h : Held)
        → (m : Held → Held × Outcome) (n : Held → Kinds) → ((x : Held) → n x ≡ [] → Kept x.rows → Kept (m x).0.rows)
        → short_fault s.rules s.args_override_self o rest h n ≡ [] → Kept h.rows → Kept (short_met s.rules o rest h m).0.rows
    kept-short q None is rest h m n step none k = k
    kept-short q (Some a) is rest h m n step none k = go (takes_values a) none
      where
        go : (b : Bool) → cond b (option_fault s.rules s.args_override_self a (attached_value rest) h)
            (or_else (react_fault s.rules s.args_override_self a [] h) (n (reacted s.rules a [] h))) ≡ []
            → Kept (cond b (option_met s.rules a (attached_value rest) h) (m (reacted s.rules a [] h))).0.rows
        go true none = kept-option q a is (attached_value rest) h none k
        go false none =
            let before = react_fault s.rules s.args_override_self a [] h in
            let after = n (reacted s.rules a [] h) in
            step (reacted s.rules a [] h) (or_second before after none) (kept-reacted q a is [] h (or_first before after none) k)

    kept-step : (o : Option ℕ) (flags : Text) (skip : ℕ) (so_far : Outcome) (h : Held)
        → (m : Text → ℕ → Outcome → Held → Held × Outcome) (n : Text → ℕ → Held → Kinds)
        → ((t : Text) (k : ℕ) (u : Outcome) (x : Held) → n t k x ≡ [] → Kept x.rows → Kept (m t k u x).0.rows)
        → bundle_step_fault s.rules s.args_override_self o flags skip h n ≡ [] → Kept h.rows → Kept (bundle_step s.rules o flags skip so_far h m).0.rows
    kept-step None flags skip so_far h m n step none k = k
    kept-step (Some x) flags zero so_far h m n step none k =
        let rest = drop (length (encode_utf8 x)) flags in
        kept-short (λ a. not (is_some a.index) && has_short a x) (arg_by_short s.rules x) refl rest h (m rest 0 done) (n rest 0) (step rest 0 done) none k
    kept-step (Some x) flags (suc skip) so_far h m n step none k = step (drop (length (encode_utf8 x)) flags) skip so_far h none k

    kept-bundle : (n : ℕ) (flags : Text) (skip : ℕ) (so_far : Outcome) (h : Held)
        → flags_fault s.rules s.args_override_self n flags skip h ≡ [] → Kept h.rows → Kept (bundle_met s.rules n flags skip so_far h).0.rows
    unfolding flags_fault bundle_met
    kept-bundle zero flags skip so_far h none k = k
    kept-bundle (suc n) flags skip so_far h none k =
        kept-step (slice_get (chars flags) 0) flags skip so_far h (bundle_met s.rules n) (flags_fault s.rules s.args_override_self n) (kept-bundle n) none k

    -- ---- words

    kept-plain : (waiting : Waiting) (word : Text) (h : Held) → Kept h.rows → Kept (plain_word s.rules waiting word h).0.rows
    kept-plain idle word h k = k
    kept-plain positional word h k = k
    kept-plain (option id) word h k = go (arg_by_id s.rules id)
      where
        go : (o : Option Rule) → Kept (option_word o id word h).0.rows
        go None = k
        go (Some a) = k

    kept-after : (waiting : Waiting) (word : Text) (h : Held) (o : Outcome) → Kept h.rows → Kept (after_flag s.rules waiting word h o).0.rows
    kept-after waiting word h done k = k
    kept-after waiting word h (waits id) k = k
    kept-after waiting word h plain k = kept-plain waiting word h k
    kept-after waiting word h refused k = kept-plain waiting word h k

    kept-short_or : (waiting : Waiting) (word : Text) (o : Option Text) (h : Held)
        → option_map_or (λ flags. bundle_fault s.rules s.args_override_self flags h) o [] ≡ []
        → Kept h.rows → Kept (short_or_plain s.rules waiting word o h).0.rows
    kept-short_or waiting word None h none k = kept-plain waiting word h k
    kept-short_or waiting word (Some flags) h none k =
        let met = bundle s.rules flags h in
        kept-after waiting word met.0 met.1 (kept-bundle (length flags) flags h.skip plain (record h { skip = 0 }) none k)

    kept-long_or : (waiting : Waiting) (word : Text) (o : Option (Text × Option Text)) (h : Held)
        → flag_word_fault s.rules s.args_override_self o word h ≡ [] → Kept h.rows → Kept (long_or_other s.rules waiting word o h).0.rows
    kept-long_or waiting word None h none k = kept-short_or waiting word (short_of word) h none k
    kept-long_or waiting word (Some p) h none k =
        let met = long_met s.rules (arg_by_long s.rules p.0) p.1 h in
        kept-after waiting word met.0 met.1 (kept-long (λ a. not (is_some a.index) && has_long a p.0) (arg_by_long s.rules p.0) refl p.1 h none k)

    kept-other : (o : Option Text) (waiting : Waiting) (position : ℕ) (word : Text) (h : Held)
        → other_fault s o word h ≡ [] → Kept h.rows → Kept (subcommand_or_other s.rules o waiting position word h).0.rows
    kept-other (Some name) waiting position word h none k = k
    kept-other None waiting position word h none k = go (bytes_eq word (45 ∷ 45 ∷ [])) none
      where
        go : (b : Bool) → cond b [] (flag_word_fault s.rules s.args_override_self (long_of word) word h) ≡ []
            → Kept (cond b (h, trailing position) (long_or_other s.rules waiting word (long_of word) h)).0.rows
        go true none = k
        go false none = kept-long_or waiting word (long_of word) h none k

    kept-word : (names : Names) (is_trailing : Bool) (waiting : Waiting) (position : ℕ) (word : Text) (h : Held)
        → word_fault s names is_trailing waiting word h ≡ [] → Kept h.rows → Kept (word_met s.rules names is_trailing waiting position word h).0.rows
    kept-word names true waiting position word h none k = k
    kept-word names false waiting position word h none k = kept-other (subcommand_met names waiting word) waiting position word h none k

    -- ---- the walk

    kept-after_step : (word : Text) (w : Walk) (h : Held) (step : Step) → step_fault s w.position h step ≡ []
        → Kept h.rows → Kept (after_step s.rules word w h step).held.rows
    kept-after_step word w h (next waiting) none k = k
    kept-after_step word w h (trailing position) none k = k
    kept-after_step word w h (subcommand name) none k = k
    kept-after_step word w h value none k = go (arg_by_index s.rules w.position) none
      where
        by_test : (b : Bool) → cond b [] (settle_fault s.rules s.args_override_self h) ≡ [] → Kept (cond b h (settled s.rules h)).rows
        by_test true none = k
        by_test false none = kept-settled h none k

        go : (o : Option Rule)
            → option_map_or (λ a. cond (is_pending a h.pending && takes_several a) [] (settle_fault s.rules s.args_override_self h)) o (stray_fault s) ≡ []
            → Kept (to_positional s.rules o word w h).held.rows
        go None none = k
        go (Some a) none = by_test (is_pending a h.pending && takes_several a) none

    kept-walked : (names : Names) (w : Walk) (word : Text) → turn_fault s names w word ≡ [] → Kept w.held.rows → Kept (walked s.rules names w word).held.rows
    unfolding walked
    kept-walked names w word none k = go w.stopped none
      where
        go : (o : Option (Text × List Text))
            → cond (is_some o) [] (or_else (word_fault s names w.is_trailing w.waiting word w.held)
            (step_fault s w.position (word_met s.rules names w.is_trailing w.waiting w.position word w.held).0
            (word_met s.rules names w.is_trailing w.waiting w.position word w.held).1)) ≡ []
            → Kept (walked_from s.rules names o w word).held.rows
        go (Some p) none = k
        go None none =
            let met = word_met s.rules names w.is_trailing w.waiting w.position word w.held in
            let before = word_fault s names w.is_trailing w.waiting word w.held in
            let after = step_fault s w.position met.0 met.1 in
            kept-after_step word w met.0 met.1 (or_second before after none)
            (kept-word names w.is_trailing w.waiting w.position word w.held (or_first before after none) k)

    kept-walk : (names : Names) (words : List Text) (w : Walk) → walk_fault s names w words ≡ [] → Kept w.held.rows
        → Kept (fold (walked s.rules names) w words).held.rows
    unfolding walk_fault
    kept-walk names [] w none k = k
    kept-walk names (word ∷ rest) w none k =
        let before = turn_fault s names w word in
        let after = walk_fault s names (walked s.rules names w word) rest in
        kept-walk names rest (walked s.rules names w word) (or_second before after none) (kept-walked names w word (or_first before after none) k)

    -- ---- defaults

    kept-with_default : (rows : List Row) (a : Rule) → (bytes_eq a.id A.id ≡ true → a ≡ A) → Kept rows → Kept (with_default rows a)
    kept-with_default rows a same k = go (has_row a.id rows)
      where
        by_values : (ds : List Text) → (bytes_eq a.id A.id ≡ true → Passes ds) → Kept (default_rows a.id (reading_by a) ds rows)
        by_values [] fits = k
        by_values (d ∷ ds) fits = kept-with_values A.id Q a.id (reading_by a) DefaultValue (d ∷ ds) rows fits k

        go : (b : Bool) → Kept (cond b rows (default_rows a.id (reading_by a) a.defaults rows))
        go true = k
        go false = by_values a.defaults (λ e. subst (λ (x : Rule). Passes x.defaults) (sym (same e)) default)

    kept-defaults : (xs : List Rule) (rows : List Row) → IsAlone xs → Kept rows → Kept (fold with_default rows xs)
    kept-defaults [] rows each k = k
    kept-defaults (x ∷ xs) rows each k = kept-defaults xs (with_default rows x) each.1 (kept-with_default rows x each.0 k)

    -- the option has a row then
    has-more : (at : Text) (from : ValueSource) (values : List Text) (missing rows : List Row) → has_row A.id rows ≡ true
        → has_row A.id (at_row at (more_values from values) missing rows) ≡ true
    has-more at from values missing [] h = absurd (true≢false (sym h))
    has-more at from values missing (r ∷ rs) h = go (bytes_eq r.id at) (has-more at from values missing rs)
      where
        go : (b : Bool) → (has_row A.id rs ≡ true → has_row A.id (at_row at (more_values from values) missing rs) ≡ true)
            → has_row A.id (cond b (more_values from values r ++ rs) (r ∷ at_row at (more_values from values) missing rs)) ≡ true
        go true rest = h
        go false rest = or_more (bytes_eq r.id A.id) (has_row A.id rs) _ rest h

    has-added : (from : ValueSource) (values : List Text) (missing rows : List Row) → has_row A.id missing ≡ true
        → has_row A.id (at_row A.id (more_values from values) missing rows) ≡ true
    has-added from values missing [] h = h
    has-added from values missing (r ∷ rs) h = go (bytes_eq r.id A.id) refl (has-added from values missing rs h)
      where
        go : (b : Bool) → bytes_eq r.id A.id ≡ b → has_row A.id (at_row A.id (more_values from values) missing rs) ≡ true
            → has_row A.id (cond b (more_values from values r ++ rs) (r ∷ at_row A.id (more_values from values) missing rs)) ≡ true
        go true is rest = ap (λ b. b || has_row A.id rs) is
        go false is rest = or_right (bytes_eq r.id A.id) _ rest

    has-with_default : (rows : List Row) (a : Rule) → has_row A.id rows ≡ true → has_row A.id (with_default rows a) ≡ true
    has-with_default rows a h = go (has_row a.id rows) a.defaults
      where
        go : (b : Bool) (ds : List Text) → has_row A.id (cond b rows (default_rows a.id (reading_by a) ds rows)) ≡ true
        go true ds = h
        go false [] = h
        go false (d ∷ ds) = has-more a.id DefaultValue (d ∷ ds) _ rows h

    has-its_default : (rows : List Row) → has_row A.id (with_default rows A) ≡ true
    has-its_default rows = go (has_row A.id rows) refl A.defaults default
      where
        go : (b : Bool) → has_row A.id rows ≡ b → (ds : List Text) → Passes ds → has_row A.id (cond b rows (default_rows A.id (reading_by A) ds rows)) ≡ true
        go true is ds d = is
        go false is [] d =
            let bad : None ≡ Some d.0 = d.1 in
            cc
        go false is (d ∷ ds) first = has-added DefaultValue (d ∷ ds) _ rows (ap (λ b. b || false) ((bytes_eq-Decides A.id A.id).1 refl))

    has-defaults_more : (xs : List Rule) (rows : List Row) → has_row A.id rows ≡ true → has_row A.id (fold with_default rows xs) ≡ true
    has-defaults_more [] rows h = h
    has-defaults_more (x ∷ xs) rows h = has-defaults_more xs (with_default rows x) (has-with_default rows x h)

    has-defaults : (xs : List Rule) (rows : List Row) → IsListed xs → has_row A.id (fold with_default rows xs) ≡ true
    has-defaults [] rows listed = absurd listed
    has-defaults (x ∷ xs) rows (inl is) =
        has-defaults_more xs (with_default rows x) (subst (λ (y : Rule). has_row A.id (with_default rows y) ≡ true) (sym is) (has-its_default rows))
    has-defaults (x ∷ xs) rows (inr listed) = has-defaults xs (with_default rows x) listed

    -- where no word is at fault, nor what is pending behind the last, the option has a first value that passes
    pub first_passes : (names : Names) (words : List Text) → IsListed s.rules → walk_fault s names (walk_from nothing_held) words ≡ []
        → settle_fault s.rules s.args_override_self (walk s.rules names nothing_held words).held ≡ []
        → (t : Text) × (first_of A.id (finished s.rules (walk s.rules names nothing_held words).held) ≡ Some t) × Q t
    first_passes names words listed none last =
        let end = (walk s.rules names nothing_held words).held in
        let kept = kept-settled end last (kept-walk names words (walk_from nothing_held) none tt) in
        first_kept A.id Q (finished s.rules end) (kept-defaults s.rules (settled s.rules end).rows alone kept)
        (has-defaults s.rules (settled s.rules end).rows listed)
