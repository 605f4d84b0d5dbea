-- What `clap` reads of the words is the same wherever the texts of the possible values lie.
use Rattle.std.proofs.Common.{◌≡◌, ◌∙◌, ap, ap₂, refl, ℕ, zero, suc, Bool, true, false, cond, List, [], ◌∷◌, Option, Some, None, codes, length, drop, fold}
use Rattle.std.specs.Prelude.{encode_utf8, slice_get, ◌&&◌, ◌||◌, ◌==◌}
use Rattle.std.specs.Str.{bytes_eq, chars}
use Rattle.clap.specs.Lexer.{long_of, short_of}
use Rattle.clap.specs.Simple.{Shape, built, filled, with_index, matches_of}
use Rattle.clap.specs.Walk.{Held, Names as CommandNames, Outcome, Row, Rule, Step, Text, Waiting, Walk, after_flag, after_step, arg_by_id, arg_by_index, arg_by_long, arg_by_short, attached_value, bundle, bundle_met, bundle_step, done, finished, flag_met, idle, is_multiple, is_pending, long_met, long_or_other, long_word, next, next_position, nothing_held, option, option_met, option_word, plain, plain_word, positional, positional_held, pushed, reacted, refused, settled, settled_rows, short_met, short_or_plain, short_word, subcommand, subcommand_met, subcommand_or_other, takes_several, takes_values, to_positional, trailing, used, used_by_id, value, waits, walk, walk_from, walked, walked_from, with_default, word_met}
use Rattle.program_words.specs.CommandLine.{HeldTexts, command_rule, command_with}

-- the rules of the built command
abbrev pub built_shape : HeldTexts → Shape
built_shape names = (built (command_with names)).top

abbrev pub rules : HeldTexts → List Rule
rules names = (built_shape names).rules

-- that of COMMAND, which alone has possible values
abbrev pub first_rule : HeldTexts → Rule
first_rule names = with_index 1 (filled (command_rule names))

module _ (p q : HeldTexts) where
  -- what is the same of COMMAND is the same of the argument with any id, and at any place
  pub by_id : {X : Type 0} (f : Option Rule → X) (id : Text) → f (Some (first_rule p)) ≡ f (Some (first_rule q))
      → f (arg_by_id (rules p) id) ≡ f (arg_by_id (rules q) id)
  by_id {X} f id first = go (bytes_eq (codes "COMMAND") id) (arg_by_id (drop 1 (rules p)) id)
    where
      go : (b : Bool) (rest : Option Rule) → f (cond b (Some (first_rule p)) rest) ≡ f (cond b (Some (first_rule q)) rest)
      go true rest = first
      go false rest = refl

  pub by_index : {X : Type 0} (f : Option Rule → X) (i : ℕ) → f (Some (first_rule p)) ≡ f (Some (first_rule q))
      → f (arg_by_index (rules p) i) ≡ f (arg_by_index (rules q) i)
  by_index {X} f i first = go (1 == i) (arg_by_index (drop 1 (rules p)) i)
    where
      go : (b : Bool) (rest : Option Rule) → f (cond b (Some (first_rule p)) rest) ≡ f (cond b (Some (first_rule q)) rest)
      go true rest = first
      go false rest = refl

  used_same : (values : List Text) (rows : List Row) → used (first_rule p) values rows ≡ used (first_rule q) values rows
  used_same [] rows = refl
  used_same (v ∷ vs) rows = refl

  pub settled_same : (h : Held) → settled (rules p) h ≡ settled (rules q) h
  settled_same h = ap (λ (rows : List Row). record h { rows = rows; pending = None }) (go h.pending)
    where
      go : (o : Option (Text × List Text)) → settled_rows (rules p) o h.rows ≡ settled_rows (rules q) o h.rows
      go None = refl
      go (Some w) = by_id (λ o. used_by_id o w.1 h.rows) w.0 (used_same w.1 h.rows)

  pub reacted_same : (a : Rule) (values : List Text) (h : Held) → reacted (rules p) a values h ≡ reacted (rules q) a values h
  reacted_same a values h = ap (λ (s : Held). record h { rows = used a values s.rows; pending = None }) (settled_same h)

  -- ---- flags and options

  option_same : (a : Rule) (v : Option Text) (h : Held) → option_met (rules p) a v h ≡ option_met (rules q) a v h
  option_same a (Some v) h = ap (λ (k : Held). (k, done)) (reacted_same a (v ∷ []) h)
  option_same a None h = ap (λ (k : Held). (record k { pending = Some (a.id, []) }, waits a.id)) (settled_same h)

  flag_same : (a : Rule) (v : Option Text) (h : Held) → flag_met (rules p) a v h ≡ flag_met (rules q) a v h
  flag_same a (Some v) h = refl
  flag_same a None h = ap (λ (k : Held). (k, done)) (reacted_same a [] h)

  long_same : (o : Option Rule) (v : Option Text) (h : Held) → long_met (rules p) o v h ≡ long_met (rules q) o v h
  long_same None v h = refl
  long_same (Some a) v h = ap₂ (cond (takes_values a)) (option_same a v h) (flag_same a v h)

  short_same : (o : Option Rule) (rest : Text) (h : Held) (m n : Held → Held × Outcome) → ((k : Held) → m k ≡ n k)
      → short_met (rules p) o rest h m ≡ short_met (rules q) o rest h n
  short_same None rest h m n e = refl
  short_same (Some a) rest h m n e =
      ap₂ (cond (takes_values a)) (option_same a (attached_value rest) h) (ap m (reacted_same a [] h) ∙ e _)

  step_same : (o : Option ℕ) (flags : Text) (skip : ℕ) (so_far : Outcome) (h : Held) (m n : Text → ℕ → Outcome → Held → Held × Outcome)
      → ((t : Text) (k : ℕ) (u : Outcome) (x : Held) → m t k u x ≡ n t k u x)
      → bundle_step (rules p) o flags skip so_far h m ≡ bundle_step (rules q) o flags skip so_far h n
  step_same None flags skip so_far h m n e = refl
  step_same (Some x) flags zero so_far h m n e =
      let rest = drop (length (encode_utf8 x)) flags in
      short_same (arg_by_short (rules p) x) rest h (m rest 0 done) (n rest 0 done) (e rest 0 done)
  step_same (Some x) flags (suc skip) so_far h m n e = e _ skip so_far h

  met_same : (k : ℕ) (flags : Text) (skip : ℕ) (so_far : Outcome) (h : Held)
      → bundle_met (rules p) k flags skip so_far h ≡ bundle_met (rules q) k flags skip so_far h
  unfolding bundle_met
  met_same zero flags skip so_far h = refl
  met_same (suc k) flags skip so_far h =
      step_same (slice_get (chars flags) 0) flags skip so_far h (bundle_met (rules p) k) (bundle_met (rules q) k) (met_same k)

  -- ---- words

  plain_same : (waiting : Waiting) (word : Text) (h : Held) → plain_word (rules p) waiting word h ≡ plain_word (rules q) waiting word h
  plain_same idle word h = refl
  plain_same (option id) word h = by_id (λ o. ((option_word o id word h).0, next (option_word o id word h).1)) id refl
  plain_same positional word h = refl

  after_same : (waiting : Waiting) (word : Text) (h : Held) (o : Outcome)
      → after_flag (rules p) waiting word h o ≡ after_flag (rules q) waiting word h o
  after_same waiting word h done = refl
  after_same waiting word h (waits id) = refl
  after_same waiting word h plain = plain_same waiting word h
  after_same waiting word h refused = plain_same waiting word h

  long_word_same : (waiting : Waiting) (word name : Text) (v : Option Text) (h : Held)
      → long_word (rules p) waiting word name v h ≡ long_word (rules q) waiting word name v h
  long_word_same waiting word name v h =
      let m = long_met (rules q) (arg_by_long (rules q) name) v h in
      ap (λ (m : Held × Outcome). after_flag (rules p) waiting word m.0 m.1) (long_same (arg_by_long (rules p) name) v h)
      ∙ after_same waiting word m.0 m.1

  short_word_same : (waiting : Waiting) (word flags : Text) (h : Held)
      → short_word (rules p) waiting word flags h ≡ short_word (rules q) waiting word flags h
  short_word_same waiting word flags h =
      let m = bundle (rules q) flags h in
      ap (λ (m : Held × Outcome). after_flag (rules p) waiting word m.0 m.1) (met_same (length flags) flags h.skip plain (record h { skip = 0 }))
      ∙ after_same waiting word m.0 m.1

  short_or_same : (waiting : Waiting) (word : Text) (o : Option Text) (h : Held)
      → short_or_plain (rules p) waiting word o h ≡ short_or_plain (rules q) waiting word o h
  short_or_same waiting word (Some flags) h = short_word_same waiting word flags h
  short_or_same waiting word None h = plain_same waiting word h

  long_or_same : (waiting : Waiting) (word : Text) (o : Option (Text × Option Text)) (h : Held)
      → long_or_other (rules p) waiting word o h ≡ long_or_other (rules q) waiting word o h
  long_or_same waiting word (Some w) h = long_word_same waiting word w.0 w.1 h
  long_or_same waiting word None h = short_or_same waiting word (short_of word) h

  subcommand_or_same : (o : Option Text) (waiting : Waiting) (position : ℕ) (word : Text) (h : Held)
      → subcommand_or_other (rules p) o waiting position word h ≡ subcommand_or_other (rules q) o waiting position word h
  subcommand_or_same (Some name) waiting position word h = refl
  subcommand_or_same None waiting position word h =
      ap (cond (bytes_eq word (45 ∷ 45 ∷ [])) (h, trailing position)) (long_or_same waiting word (long_of word) h)

  pub word_same : (names : CommandNames) (is_trailing : Bool) (waiting : Waiting) (position : ℕ) (word : Text) (h : Held)
      → word_met (rules p) names is_trailing waiting position word h ≡ word_met (rules q) names is_trailing waiting position word h
  word_same names is_trailing waiting position word h =
      ap (cond is_trailing (h, value)) (subcommand_or_same (subcommand_met names waiting word) waiting position word h)

  -- ---- positionals and the walk

  positional_same : (a : Rule) (word : Text) (h : Held) → positional_held (rules p) a word h ≡ positional_held (rules q) a word h
  positional_same a word h =
      ap (λ (k : Held). pushed a.id word (cond (is_pending a h.pending && takes_several a) h k)) (settled_same h)

  to_same : (o : Option Rule) (word : Text) (w : Walk) (h : Held) → to_positional (rules p) o word w h ≡ to_positional (rules q) o word w h
  to_same None word w h = refl
  to_same (Some a) word w h = ap (λ (k : Held). walk_at k) (positional_same a word h)
    where
      walk_at : Held → Walk
      walk_at k = record {
        held = k;
        waiting = cond (is_multiple a) positional idle;
        position = next_position a w.position;
        is_trailing = w.is_trailing || a.trailing_var_arg;
        stopped = None;
      }

  after_step_same : (word : Text) (w : Walk) (h : Held) (step : Step) → after_step (rules p) word w h step ≡ after_step (rules q) word w h step
  after_step_same word w h (next waiting) = refl
  after_step_same word w h (trailing position) = refl
  after_step_same word w h (subcommand name) = refl
  after_step_same word w h value =
      by_index (λ o. to_positional (rules p) o word w h) w.position refl ∙ to_same (arg_by_index (rules q) w.position) word w h

  pub walked_same : (names : CommandNames) (w : Walk) (word : Text) → walked (rules p) names w word ≡ walked (rules q) names w word
  unfolding walked
  walked_same names w word = go w.stopped
    where
      go : (o : Option (Text × List Text)) → walked_from (rules p) names o w word ≡ walked_from (rules q) names o w word
      go (Some s) = refl
      go None =
          let m = word_met (rules q) names w.is_trailing w.waiting w.position word w.held in
          ap (λ (m : Held × Step). after_step (rules p) word w m.0 m.1) (word_same names w.is_trailing w.waiting w.position word w.held)
          ∙ after_step_same word w m.0 m.1

  pub walk_same : (names : CommandNames) (words : List Text) (w : Walk)
      → fold (walked (rules p) names) w words ≡ fold (walked (rules q) names) w words
  walk_same names [] w = refl
  walk_same names (word ∷ rest) w =
      ap (λ (v : Walk). fold (walked (rules p) names) v rest) (walked_same names w word) ∙ walk_same names rest (walked (rules q) names w word)

  pub finished_same : (h : Held) → finished (rules p) h ≡ finished (rules q) h
  finished_same h = ap (λ (s : Held). fold with_default s.rows (rules p)) (settled_same h)

  pub matches_same : (words : List Text) → matches_of (command_with p) words ≡ matches_of (command_with q) words
  matches_same words =
      ap (λ (w : Walk). finished (rules p) w.held) (walk_same [] words (walk_from nothing_held)) ∙ finished_same (walk (rules q) [] nothing_held words).held
