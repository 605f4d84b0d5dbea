-- The numbers of a request that words make are in their ranges.
use Rattle.std.proofs.Common.{◌≡◌, ◌≤◌, ◌<◌, ◌^◌, ap, subst, refl, sym, ℕ, Bool, true, false, cond, List, [], ◌∷◌, Option, Some, None, inl, inr, codes, length, arith, ltb-true}
use Rattle.std.specs.Prelude.{◌&&◌, IsSome, is_some, nat_lt, option_map, unwrap_or}
use Rattle.std.specs.Bool.{then_some}
use Rattle.std.specs.Str.{bytes_eq}
use Rattle.std.specs.Str.Parse.{digits_value}
use Rattle.clap.specs.Words.{Kinds, first_of, Row, Rule, Text, fault_of, matches_of}
use Rattle.clap.specs.Kinds.{or_else, range_kinds, value_kinds, values_kinds}
use Rattle.clap.specs.Values.{refused_kind}
use Rattle.clap.specs.ValueTests.{accepts}
use Rattle.clap.specs.Faults.{check_fault, defaults_fault, entered_fault, repeat_fault, settle_fault, use_fault, walk_fault}
use Rattle.clap.specs.Simple.{built, entered, filled}
use Rattle.clap.specs.Walk.{finished, nothing_held, settled, values_or_missing, walk, walk_from}
use Rattle.clap.specs.declared.builder.ValueParser.{ValueParser}
use Rattle.clap.specs.declared.builder.ValueParser.TheVariants as vp
use Rattle.clap.proofs.ValueTestLemmas.{accepts-Accepts}
use Rattle.program_words.specs.declared.request.Task.{Task}
use Rattle.program_words.specs.declared.request.Task.TheVariants as Tasks
use Rattle.program_words.specs.CommandLine.{HasFile, HasShortNumber, IsInRange, Request, bench_number, command, is_short_numeral, number_at, number_of, option_rule, request_in, request_of, request_with, task_at, task_names, task_of, unless_faulty, value_of}
use Rattle.program_words.proofs.KeptRows.{FirstPasses, IsAlone, IsListed, first_passes, or_first, or_second}
use Rattle.program_words.proofs.SameReading.{built_shape, rules}

-- ---- an option with a number

accepted : (ic : Bool) (p : ValueParser) (t : Text) → value_kinds ic p t ≡ [] → accepts ic p t ≡ true
accepted ic p t e = go (accepts ic p t) e
  where
    go : (b : Bool) → cond b [] (refused_kind p ∷ []) ≡ [] → b ≡ true
    go true e = refl
    go false e = cc

-- a number between two ends
abbrev IsBetween : ℕ → ℕ → Text → Type 0
IsBetween low high t = (low ≤ number_of t) × (number_of t ≤ high)

-- the option of this name, as it is built
abbrev number_rule : Text → ℕ → ℕ → Text → Rule
number_rule name low high default = filled (option_rule name (vp.Unsigned low high) default)

-- a use of it without a fault has a number between its ends
number_passes : (name : Text) (low high : ℕ) (default : Text) (again : Bool) (values : List Text) (rows : List Row)
    → use_fault again (number_rule name low high default) values rows ≡ []
    → FirstPasses name (IsBetween low high) (values_or_missing (number_rule name low high default) values)
number_passes name low high default again [] rows e = cc
number_passes name low high default again (v ∷ vs) rows e =
    let parser = vp.Unsigned low high in
    let used = or_second (range_kinds 1 1 (length (v ∷ vs))) (or_else (repeat_fault again name rows) (values_kinds false parser (v ∷ vs))) e in
    let passed = or_second (repeat_fault again name rows) (values_kinds false parser (v ∷ vs)) used in
    let first = or_first (value_kinds false parser v) (values_kinds false parser vs) passed in
    let is = accepts-Accepts false parser v (accepted false parser v first) in
    (v, refl, (is.2, is.3))

module _ (words : List Text) (none : fault_of command words ≡ []) where
  -- no fault with the words, and none with what is pending behind the last
  parts : (walk_fault (built_shape task_names) [] (walk_from nothing_held) words ≡ [])
      × (settle_fault (rules task_names) false (walk (rules task_names) [] nothing_held words).held ≡ [])
  parts =
      let s = built_shape task_names in
      let w = walk (rules task_names) [] nothing_held words in
      let has = is_some (entered (built command) w.stopped) in
      let walked = walk_fault s [] (walk_from nothing_held) words in
      let below = entered_fault (built command) w.stopped in
      let last = settle_fault (rules task_names) false w.held in
      let rest = or_else (defaults_fault (settled (rules task_names) w.held).rows (rules task_names)) (check_fault s (finished (rules task_names) w.held) has) in
      (or_first walked (or_else below (or_else last rest)) none, or_first last rest (or_second below (or_else last rest) (or_second walked (or_else below (or_else last rest)) none)))

  number_between : (name : Text) (low high : ℕ) (default : Text) → IsAlone (built_shape task_names) (number_rule name low high default) (IsBetween low high) (rules task_names)
      → IsListed (built_shape task_names) (number_rule name low high default) (IsBetween low high) (rules task_names)
      → IsBetween low high default → (low ≤ number_at name (matches_of command words)) × (number_at name (matches_of command words) ≤ high)
  number_between name low high default alone listed between =
      let got = first_passes (built_shape task_names) (number_rule name low high default) (IsBetween low high) alone refl (default, refl, between)
      (number_passes name low high default false) [] words listed parts.0 parts.1 in
      let is : number_at name (matches_of command words) ≡ number_of got.0 = ap (λ o. number_of (unwrap_or o [])) got.1 in
      (subst (λ n. low ≤ n) (sym is) got.2.0, subst (λ n. n ≤ high) (sym is) got.2.1)

  tracks_between : (1 ≤ number_at (codes "tracks") (matches_of command words)) × (number_at (codes "tracks") (matches_of command words) ≤ 32)
  tracks_between = number_between (codes "tracks") 1 32 (codes "4")
      (λ e. cc, (λ e. cc, (λ e. refl, (λ e. cc, (λ e. cc, (λ e. cc, (λ e. cc, (λ e. cc, (λ e. cc, (λ e. cc, tt)))))))))) (inr (inr (inl refl))) (omega arith, omega arith)

  workers_between : (0 ≤ number_at (codes "workers") (matches_of command words)) × (number_at (codes "workers") (matches_of command words) ≤ 64)
  workers_between = number_between (codes "workers") 0 64 (codes "3")
      (λ e. cc, (λ e. cc, (λ e. cc, (λ e. refl, (λ e. cc, (λ e. cc, (λ e. cc, (λ e. cc, (λ e. cc, (λ e. cc, tt)))))))))) (inr (inr (inr (inl refl)))) (omega arith, omega arith)

  budget_between : (1 ≤ number_at (codes "budget") (matches_of command words)) × (number_at (codes "budget") (matches_of command words) ≤ 1099511627776)
  budget_between = number_between (codes "budget") 1 1099511627776 (codes "1099511627776")
      (λ e. cc, (λ e. cc, (λ e. cc, (λ e. cc, (λ e. refl, (λ e. cc, (λ e. cc, (λ e. cc, (λ e. cc, (λ e. cc, tt)))))))))) (inr (inr (inr (inr (inl refl))))) (omega arith, omega arith)

-- ---- the number of a bench

short_number : (text : Text) (number : ℕ) → bench_number text ≡ Some number → number < 2 ^ 32
short_number text number e = go (is_short_numeral text) (nat_lt (digits_value 10 text) (2 ^ 32)) refl e
  where
    go : (a b : Bool) → nat_lt (digits_value 10 text) (2 ^ 32) ≡ b → cond (a && b) (Some (digits_value 10 text)) None ≡ Some number → number < 2 ^ 32
    go true true lt e =
        let same : digits_value 10 text ≡ number = cc in
        subst (λ n. n < 2 ^ 32) same (ltb-true (digits_value 10 text) (2 ^ 32) lt)
    go true false lt e = cc
    go false b lt e = cc

-- ---- what a task needs

-- a bench has its number, and a task that needs the file of `--with` has it
abbrev IsSupplied : Option Text → Task → Type 0
IsSupplied with task = HasShortNumber task × HasFile task with

supplied : (name image : Text) (with : Option Text) (task : Task) → task_of name image (is_some with) ≡ Some task → IsSupplied with task
supplied name image with task e =
    go (bytes_eq name (codes "fast")) (bytes_eq name (codes "run")) (bytes_eq name (codes "trial")) (bytes_eq name (codes "explain")) (bytes_eq name (codes "bench")) (bytes_eq name (codes "check"))
    (bytes_eq name (codes "batch")) (bytes_eq name (codes "at")) (bytes_eq name (codes "list")) (bytes_eq name (codes "pack")) e
  where
    plain : (t : Task) → IsSupplied with t → Some t ≡ Some task → IsSupplied with task
    plain t has e =
        let same : t ≡ task = cc in
        subst (IsSupplied with) same has

    bench : (o : Option ℕ) → bench_number image ≡ o → option_map Tasks.Bench o ≡ Some task → IsSupplied with task
    bench None is e =
        let bad : None ≡ Some task = e in
        cc
    bench (Some number) is e = plain (Tasks.Bench number) (short_number image number is, tt) e

    filed : (o : Option Text) (t : Task) → (IsSome o → IsSupplied o t) → then_some (is_some o) t ≡ Some task → IsSupplied o task
    filed None t has e =
        let bad : None ≡ Some task = e in
        cc
    filed (Some file) t has e =
        let same : t ≡ task = cc in
        subst (IsSupplied (Some file)) same (has refl)

    go : (fast run trial explain has_number check batch at list pack : Bool)
        → cond fast (Some Tasks.Fast) (cond run (Some Tasks.Run) (cond trial (Some Tasks.Trial) (cond explain (Some Tasks.Explain) (cond has_number (option_map Tasks.Bench (bench_number image))
        (cond check (then_some (is_some with) Tasks.Check) (cond batch (Some Tasks.Batch) (cond at (then_some (is_some with) Tasks.At)
        (cond list (Some Tasks.List) (cond pack (Some Tasks.Pack) (Some Tasks.Alone)))))))))) ≡ Some task → IsSupplied with task
    go true r t x b c j a l p e = plain Tasks.Fast (tt, tt) e
    go false true t x b c j a l p e = plain Tasks.Run (tt, tt) e
    go false false true x b c j a l p e = plain Tasks.Trial (tt, tt) e
    go false false false true b c j a l p e = plain Tasks.Explain (tt, tt) e
    go false false false false true c j a l p e = bench (bench_number image) refl e
    go false false false false false true j a l p e = filed with Tasks.Check (λ some. (tt, some)) e
    go false false false false false false true a l p e = plain Tasks.Batch (tt, tt) e
    go false false false false false false false true l p e = filed with Tasks.At (λ some. (tt, some)) e
    go false false false false false false false false true p e = plain Tasks.List (tt, tt) e
    go false false false false false false false false false true e = plain Tasks.Pack (tt, tt) e
    go false false false false false false false false false false e = plain Tasks.Alone (tt, tt) e

-- ---- the request

pub in_range : (words : List Text) (request : Request) → request_of words ≡ Some request → IsInRange request
in_range words request e = go (fault_of command words) refl e
  where
    by_task : fault_of command words ≡ [] → (o : Option Task) → task_at (matches_of command words) ≡ o
        → option_map (request_with (matches_of command words)) o ≡ Some request → IsInRange request
    by_task none None is e =
        let bad : None ≡ Some request = e in
        cc
    by_task none (Some task) is e =
        let rows = matches_of command words in
        let same : request_with rows task ≡ request = cc in
        let tracks = tracks_between words none in
        let workers = workers_between words none in
        let budget = budget_between words none in
        let has = supplied (value_of (codes "COMMAND") rows) (value_of (codes "IMAGE") rows) (first_of (codes "with") rows) task is in
        subst IsInRange same (record {
          least_tracks = tracks.0;
          most_tracks = tracks.1;
          most_workers = workers.1;
          least_budget = budget.0;
          most_budget = budget.1;
          task = has.0;
          file = has.1;
        })

    go : (k : Kinds) → fault_of command words ≡ k → unless_faulty k (request_in (matches_of command words)) ≡ Some request → IsInRange request
    go [] none e = by_task none (task_at (matches_of command words)) refl e
    go (x ∷ xs) some e =
        let bad : None ≡ Some request = e in
        cc
