-- The faults that `clap` finds with the words are the same wherever the texts of the possible values lie.
use Rattle.std.proofs.Common.{◌≡◌, ◌∙◌, ap, ap₂, refl, sym, ℕ, zero, suc, Bool, false, cond, List, [], ◌∷◌, Option, Some, None, codes, length, drop, is_some}
use Rattle.std.specs.Prelude.{encode_utf8, slice_get, ◌&&◌, ◌||◌}
use Rattle.std.specs.List.{list_any}
use Rattle.std.specs.Option.{option_map_or}
use Rattle.std.specs.Borrow.{Bor}
use Rattle.std.specs.Str.{bytes_eq, chars}
use Rattle.clap.specs.Lexer.{long_of, short_of}
use Rattle.clap.specs.Values.{same_text}
use Rattle.clap.specs.ValueTests.{accepts}
use Rattle.clap.specs.Kinds.{Kinds, or_else, range_kinds, values_kinds}
use Rattle.clap.specs.declared.builder.ValueParser.TheVariants as vp
use Rattle.clap.specs.declared.error.ErrorKind.TheVariants as kind
use Rattle.clap.specs.Faults.{bundle_fault, bundle_step_fault, check_fault, defaults_fault, entered_fault, fault_of, flag_word_fault, flags_fault, long_fault, option_fault, other_fault, positional_fault, react_fault, repeat_fault, settle_fault, short_fault, step_fault, stray_fault, turn_fault, use_fault, walk_fault, word_fault}
use Rattle.clap.specs.Simple.{built, entered}
use Rattle.clap.specs.Walk.{Held, Names as CommandNames, Row, Rule, Step, Text, Waiting, Walk, arg_by_id, arg_by_index, arg_by_long, arg_by_short, attached_value, finished, is_pending, next, nothing_held, settled, subcommand, subcommand_met, takes_several, takes_values, texts, trailing, value, walk, walk_from, walked, word_met}
use Rattle.program_words.specs.CommandLine.{HeldTexts, command_with}
use Rattle.program_words.proofs.SameReading.{built_shape, by_id, by_index, finished_same, first_rule, reacted_same, rules, settled_same, walk_same, walked_same, word_same}

any_text : (f : Text → Bool) (xs : List (Bor Text)) → list_any (λ x. f x.now) xs ≡ list_any f (texts xs)
any_text f [] = refl
any_text f (x ∷ xs) = ap (λ b. f x.now || b) (any_text f xs)

module _ (p q : HeldTexts) (same : texts p.now ≡ texts q.now) where
  value_same : (ic : Bool) (text : Text) → accepts ic (vp.Names p) text ≡ accepts ic (vp.Names q) text
  value_same ic text =
      any_text (λ name. same_text ic name text) p.now ∙ ap (list_any (λ name. same_text ic name text)) same
      ∙ sym (any_text (λ name. same_text ic name text) q.now)

  values_same : (vs : List Text) → values_kinds false (vp.Names p) vs ≡ values_kinds false (vp.Names q) vs
  values_same [] = refl
  values_same (v ∷ vs) =
      ap₂ or_else (ap (λ b. cond b [] (kind.InvalidValue ∷ [])) (value_same false v)) (values_same vs)

  use_same : (again : Bool) (vs : List Text) (rows : List Row) → use_fault again (first_rule p) vs rows ≡ use_fault again (first_rule q) vs rows
  use_same again [] rows = refl
  use_same again (v ∷ vs) rows =
      ap (λ k. or_else (range_kinds 1 1 (length (v ∷ vs))) (or_else (repeat_fault again (codes "COMMAND") rows) k)) (values_same (v ∷ vs))

  settle_same : (again : Bool) (h : Held) → settle_fault (rules p) again h ≡ settle_fault (rules q) again h
  settle_same again h = go h.pending
    where
      go : (o : Option (Text × List Text))
          → option_map_or (λ w. option_map_or (λ a. use_fault again a w.1 h.rows) (arg_by_id (rules p) w.0) []) o []
          ≡ option_map_or (λ w. option_map_or (λ a. use_fault again a w.1 h.rows) (arg_by_id (rules q) w.0) []) o []
      go None = refl
      go (Some w) = by_id p q (λ o. option_map_or (λ a. use_fault again a w.1 h.rows) o []) w.0 (use_same again w.1 h.rows)

  react_same : (again : Bool) (a : Rule) (vs : List Text) (h : Held) → react_fault (rules p) again a vs h ≡ react_fault (rules q) again a vs h
  react_same again a vs h = ap₂ or_else (settle_same again h) (ap (λ (s : Held). use_fault again a vs s.rows) (settled_same p q h))

  option_same : (again : Bool) (a : Rule) (v : Option Text) (h : Held) → option_fault (rules p) again a v h ≡ option_fault (rules q) again a v h
  option_same again a (Some v) h = react_same again a (v ∷ []) h
  option_same again a None h = settle_same again h

  long_same : (again : Bool) (o : Option Rule) (v : Option Text) (h : Held) → long_fault (rules p) again o v h ≡ long_fault (rules q) again o v h
  long_same again None v h = refl
  long_same again (Some a) v h =
      ap₂ (cond (takes_values a)) (option_same again a v h) (ap (cond (is_some v) (kind.TooManyValues ∷ [])) (react_same again a [] h))

  short_same : (again : Bool) (o : Option Rule) (rest : Text) (h : Held) (m n : Held → Kinds) → ((k : Held) → m k ≡ n k)
      → short_fault (rules p) again o rest h m ≡ short_fault (rules q) again o rest h n
  short_same again None rest h m n e = refl
  short_same again (Some a) rest h m n e =
      ap₂ (cond (takes_values a)) (option_same again a (attached_value rest) h)
      (ap₂ or_else (react_same again a [] h) (ap m (reacted_same p q a [] h) ∙ e _))

  step_same : (again : Bool) (o : Option ℕ) (flags : Text) (skip : ℕ) (h : Held) (m n : Text → ℕ → Held → Kinds)
      → ((t : Text) (k : ℕ) (x : Held) → m t k x ≡ n t k x)
      → bundle_step_fault (rules p) again o flags skip h m ≡ bundle_step_fault (rules q) again o flags skip h n
  step_same again None flags skip h m n e = refl
  step_same again (Some x) flags zero h m n e =
      let rest = drop (length (encode_utf8 x)) flags in
      short_same again (arg_by_short (rules p) x) rest h (m rest 0) (n rest 0) (e rest 0)
  step_same again (Some x) flags (suc skip) h m n e = e _ skip h

  flags_same : (again : Bool) (k : ℕ) (flags : Text) (skip : ℕ) (h : Held)
      → flags_fault (rules p) again k flags skip h ≡ flags_fault (rules q) again k flags skip h
  unfolding flags_fault
  flags_same again zero flags skip h = refl
  flags_same again (suc k) flags skip h =
      step_same again (slice_get (chars flags) 0) flags skip h (flags_fault (rules p) again k) (flags_fault (rules q) again k) (flags_same again k)

  short_word_same : (again : Bool) (o : Option Text) (h : Held)
      → option_map_or (λ flags. bundle_fault (rules p) again flags h) o [] ≡ option_map_or (λ flags. bundle_fault (rules q) again flags h) o []
  short_word_same again None h = refl
  short_word_same again (Some flags) h = flags_same again (length flags) flags h.skip (record h { skip = 0 })

  flag_word_same : (again : Bool) (o : Option (Text × Option Text)) (word : Text) (h : Held)
      → flag_word_fault (rules p) again o word h ≡ flag_word_fault (rules q) again o word h
  flag_word_same again (Some w) word h = long_same again (arg_by_long (rules p) w.0) w.1 h
  flag_word_same again None word h = short_word_same again (short_of word) h

  other_same : (o : Option Text) (word : Text) (h : Held) → other_fault (built_shape p) o word h ≡ other_fault (built_shape q) o word h
  other_same (Some name) word h = refl
  other_same None word h = ap (cond (bytes_eq word (45 ∷ 45 ∷ [])) []) (flag_word_same false (long_of word) word h)

  word_fault_same : (names : CommandNames) (is_trailing : Bool) (waiting : Waiting) (word : Text) (h : Held)
      → word_fault (built_shape p) names is_trailing waiting word h ≡ word_fault (built_shape q) names is_trailing waiting word h
  word_fault_same names is_trailing waiting word h =
      ap (cond is_trailing []) (other_same (subcommand_met names waiting word) word h)

  positional_same : (a : Rule) (h : Held) → positional_fault (rules p) false a h ≡ positional_fault (rules q) false a h
  positional_same a h = ap (cond (is_pending a h.pending && takes_several a) []) (settle_same false h)

  value_step_same : (o : Option Rule) (h : Held)
      → option_map_or (λ a. positional_fault (rules p) false a h) o (stray_fault (built_shape p))
      ≡ option_map_or (λ a. positional_fault (rules q) false a h) o (stray_fault (built_shape q))
  value_step_same None h = refl
  value_step_same (Some a) h = positional_same a h

  step_fault_same : (position : ℕ) (h : Held) (step : Step) → step_fault (built_shape p) position h step ≡ step_fault (built_shape q) position h step
  step_fault_same position h (next waiting) = refl
  step_fault_same position h (trailing at) = refl
  step_fault_same position h (subcommand name) = refl
  step_fault_same position h value =
      by_index p q (λ o. option_map_or (λ a. positional_fault (rules p) false a h) o (stray_fault (built_shape p))) position refl
      ∙ value_step_same (arg_by_index (rules q) position) h

  turn_same : (names : CommandNames) (w : Walk) (word : Text) → turn_fault (built_shape p) names w word ≡ turn_fault (built_shape q) names w word
  turn_same names w word =
      let m = word_met (rules q) names w.is_trailing w.waiting w.position word w.held in
      ap (cond (is_some w.stopped) []) (ap₂ or_else (word_fault_same names w.is_trailing w.waiting word w.held)
      (ap (λ (m : Held × Step). step_fault (built_shape p) w.position m.0 m.1) (word_same p q names w.is_trailing w.waiting w.position word w.held)
      ∙ step_fault_same w.position m.0 m.1))

  walk_fault_same : (names : CommandNames) (words : List Text) (w : Walk) → walk_fault (built_shape p) names w words ≡ walk_fault (built_shape q) names w words
  unfolding walk_fault
  walk_fault_same names [] w = refl
  walk_fault_same names (word ∷ rest) w =
      ap₂ or_else (turn_same names w word)
      (ap (λ (v : Walk). walk_fault (built_shape p) names v rest) (walked_same p q names w word) ∙ walk_fault_same names rest (walked (rules q) names w word))

  defaults_same : (h : Held) → defaults_fault (settled (rules p) h).rows (rules p) ≡ defaults_fault (settled (rules q) h).rows (rules q)
  unfolding defaults_fault
  defaults_same h = ap (λ (s : Held). defaults_fault s.rows (rules p)) (settled_same p q h)

  -- what stands behind the walk, from its last state
  end_same : (w : Walk) → or_else (entered_fault (built (command_with p)) w.stopped) (or_else (settle_fault (rules p) false w.held)
      (or_else (defaults_fault (settled (rules p) w.held).rows (rules p))
      (check_fault (built_shape p) (finished (rules p) w.held) (is_some (entered (built (command_with p)) w.stopped)))))
      ≡ or_else (entered_fault (built (command_with q)) w.stopped) (or_else (settle_fault (rules q) false w.held)
      (or_else (defaults_fault (settled (rules q) w.held).rows (rules q))
      (check_fault (built_shape q) (finished (rules q) w.held) (is_some (entered (built (command_with q)) w.stopped)))))
  end_same w = ap (or_else (entered_fault (built (command_with p)) w.stopped)) (ap₂ or_else (settle_same false w.held)
      (ap₂ or_else (defaults_same w.held)
      (ap (λ (rows : List Row). check_fault (built_shape p) rows (is_some (entered (built (command_with p)) w.stopped))) (finished_same p q w.held))))

  pub faults_same : (words : List Text) → fault_of (command_with p) words ≡ fault_of (command_with q) words
  faults_same words =
      ap₂ or_else (walk_fault_same [] words (walk_from nothing_held))
      (ap (λ (w : Walk). or_else (entered_fault (built (command_with p)) w.stopped) (or_else (settle_fault (rules p) false w.held)
      (or_else (defaults_fault (settled (rules p) w.held).rows (rules p))
      (check_fault (built_shape p) (finished (rules p) w.held) (is_some (entered (built (command_with p)) w.stopped))))))
      (walk_same p q [] words (walk_from nothing_held)) ∙ end_same (walk (rules q) [] nothing_held words))
