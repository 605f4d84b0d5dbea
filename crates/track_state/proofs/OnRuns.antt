-- A track that was run on: the parts of the run put together
use Rattle.std.proofs.Common.{◌≡◌, ◌≢◌, ℕ, zero, suc, ◌+◌, ◌-◌, ◌<◌, ◌≤◌, min, Bool, true, false, ◌&&◌, ◌||◌, List, [], ◌++◌, Option, Some, None, is_some, unwrap_or, nat_eq, nat_lt, nat_le, ◌⊎◌, refl, sym, ap, ap₂, ◌∙◌, subst, inl, inr, arith}
use Rattle.std.proofs.lemmas.Bool.{cases_lt, eq-eqb, ne_eqb, lt-ltb, or_parts}
use Rattle.speculation.specs.declared.tracks.Kind.{Kind}
use Rattle.speculation.specs.declared.tracks.Kind.TheVariants.{Normal, Fast, Segment}
use Rattle.speculation.specs.Run.{Point, Piece, fresh, go, pieces}
use Rattle.speculation.specs.Tracks.{point, meets, first_from}
use Rattle.speculation.specs.Core.{held_size, most_held}
use Rattle.speculation.specs.Events.{new_pieces}
use Rattle.speculation.proofs.Runs.{pieces-add}
use Rattle.speculation_law.proofs.Least.{first-some, first-none, first-at}
use Rattle.guest_model.specs.MachineState.{MachineState}
use Rattle.guest_model.specs.Step.{at_end}
use Rattle.guest_model.specs.Rv32.{rv32}
use Rattle.guest_model.specs.declared.end.End.{End}
use Rattle.track_state.specs.Views.{TrackView}
use Rattle.track_state.specs.Runs.{rests_after, run_length}
use Rattle.track_state.specs.Progress.{halts, kept_pieces, is_over, IsProgress}
use Rattle.track_state.specs.declared.progress.Progress.{Progress}

module _ (input : List ℕ) where
  -- ---- pieces of a track

  pub new_pieces-none : (kind : Kind) (s : MachineState) (own : ℕ) → new_pieces (rv32 input) kind s own 0 ≡ []
  unfolding pieces
  new_pieces-none Normal s own = refl
  new_pieces-none Fast s own = refl
  new_pieces-none Segment s own = refl

  go-zero : (p : Point MachineState End) → go (rv32 input) p 0 ≡ p
  unfolding go
  go-zero p = refl

  plain-pieces : (s : MachineState) (own n : ℕ)
      → pieces (rv32 input) (go (rv32 input) (fresh s) 0) 0 (own + n) ≡ pieces (rv32 input) (go (rv32 input) (fresh s) 0) 0 own ++ pieces (rv32 input) (go (rv32 input) (fresh s) own) own n
  plain-pieces s own n =
      ap (λ (p : Point MachineState End). pieces (rv32 input) p 0 (own + n)) (go-zero (fresh s)) ∙ pieces-add (rv32 input) (fresh s) 0 own n
      ∙ (let first : 0 + own ≡ own = omega arith in ap (λ k. pieces (rv32 input) (fresh s) 0 own ++ pieces (rv32 input) (go (rv32 input) (fresh s) own) k n) first)
      ∙ ap (λ (p : Point MachineState End). pieces (rv32 input) p 0 own ++ pieces (rv32 input) (go (rv32 input) (fresh s) own) own n) (sym (go-zero (fresh s)))

  -- those of own + n instructions are those of the first `own`, and those of the others
  pub new_pieces-more : (kind : Kind) (s : MachineState) (own n : ℕ) → new_pieces (rv32 input) kind s 0 (own + n) ≡ new_pieces (rv32 input) kind s 0 own ++ new_pieces (rv32 input) kind s own n
  new_pieces-more Normal s own n = plain-pieces s own n
  new_pieces-more Fast s own n = refl
  new_pieces-more Segment s own n = plain-pieces s own n

  -- ---- rests

  -- the test of `rests_after`, by where the track stands then and what it holds
  abbrev pub rests_of : Kind → ℕ → ℕ → Point MachineState End → List Piece → Bool
  rests_of kind budget n p ps = (meets (rv32 input) kind n p.state p.end || (is_some p.end || nat_eq n budget)) || nat_le most_held (held_size ps)

  abbrev over_of : Kind → Point MachineState End → List Piece → Bool
  over_of kind p ps = is_some p.end || (halts kind p.state || nat_le most_held (held_size ps))

  pub rests-at : (t : TrackView) (n : ℕ) (p : Point MachineState End) (ps : List Piece) → point (rv32 input) t.kind t.start (t.own + n) ≡ p → t.held ++ new_pieces (rv32 input) t.kind t.start t.own n ≡ ps
      → rests_after input t n ≡ rests_of t.kind t.budget (t.own + n) p ps
  rests-at t n p ps at holds = ap₂ (rests_of t.kind t.budget (t.own + n)) at holds

  and-false : (b c : Bool) → c ≡ false → b && c ≡ false
  and-false true c h = h
  and-false false c h = refl

  or-false : (b c : Bool) → b ≡ false → c ≡ false → b || c ≡ false
  or-false true c h k = absurd (cc)
  or-false false c h k = k

  or-left : (b c : Bool) → b ≡ true → b || c ≡ true
  or-left true c h = refl
  or-left false c h = absurd (cc)

  or-right : (b c : Bool) → c ≡ true → b || c ≡ true
  or-right true c h = refl
  or-right false c h = h

  meets-false : (kind : Kind) (n : ℕ) (s : MachineState) (e : Option End) → halts kind s ≡ false → meets (rv32 input) kind n s e ≡ false
  meets-false Normal n s None h = and-false (nat_lt 0 n) (at_end s) h
  meets-false Fast n s None h = and-false (nat_lt 0 n) (at_end s) h
  meets-false Segment n s None h = h
  meets-false Normal n s (Some e) h = refl
  meets-false Fast n s (Some e) h = refl
  meets-false Segment n s (Some e) h = refl

  -- the state isn't at a closing call where no instruction was taken
  pub record IsOutside (kind : Kind) (n : ℕ) (s : MachineState) : Type 0 where
    pub outside : kind ≢ Segment → n ≡ 0 → at_end s ≡ false

  counted : (n : ℕ) (s : MachineState) → (n ≡ 0 → at_end s ≡ false) → at_end s ≡ true → nat_lt 0 n && at_end s ≡ true
  counted zero s h k = absurd (let e = h refl in cc)
  counted (suc n) s h k = ap (λ b. b && at_end s) (lt-ltb 0 (suc n) (omega arith)) ∙ k

  meets-true : (kind : Kind) (n : ℕ) (s : MachineState) → IsOutside kind n s → halts kind s ≡ true → meets (rv32 input) kind n s None ≡ true
  meets-true Normal n s o h = counted n s (o.outside (λ e. cc)) h
  meets-true Fast n s o h = counted n s (o.outside (λ e. cc)) h
  meets-true Segment n s o h = h

  pub rests-not : (kind : Kind) (budget n : ℕ) (p : Point MachineState End) (ps : List Piece) → over_of kind p ps ≡ false → n < budget → rests_of kind budget n p ps ≡ false
  rests-not kind budget n p ps h less =
      let first = or_parts (is_some p.end) (halts kind p.state || nat_le most_held (held_size ps)) h in
      let second = or_parts (halts kind p.state) (nat_le most_held (held_size ps)) first.1 in
      or-false (meets (rv32 input) kind n p.state p.end || (is_some p.end || nat_eq n budget)) (nat_le most_held (held_size ps))
      (or-false (meets (rv32 input) kind n p.state p.end) (is_some p.end || nat_eq n budget) (meets-false kind n p.state p.end second.0)
      (or-false (is_some p.end) (nat_eq n budget) first.0 (ne_eqb n budget (λ e. omega arith)))) second.1

  over-end : (kind : Kind) (budget n : ℕ) (s : MachineState) (o : Option End) (ps : List Piece) → IsOutside kind n s → over_of kind (record { state = s; end = o }) ps ≡ true → rests_of kind budget n (record { state = s; end = o }) ps ≡ true
  over-end kind budget n s (Some e) ps o h = or-left (meets (rv32 input) kind n s (Some e) || true) (nat_le most_held (held_size ps)) (or-right (meets (rv32 input) kind n s (Some e)) true refl)
  over-end kind budget n s None ps o h = over-call kind budget n s ps o (halts kind s) refl h where
    over-call : (kind : Kind) (budget n : ℕ) (s : MachineState) (ps : List Piece) → IsOutside kind n s → (b : Bool) → halts kind s ≡ b → b || nat_le most_held (held_size ps) ≡ true → rests_of kind budget n (fresh s) ps ≡ true
    over-call kind budget n s ps o true is h = or-left (meets (rv32 input) kind n s None || nat_eq n budget) (nat_le most_held (held_size ps)) (or-left (meets (rv32 input) kind n s None) (nat_eq n budget) (meets-true kind n s o is))
    over-call kind budget n s ps o false is h = or-right (meets (rv32 input) kind n s None || nat_eq n budget) (nat_le most_held (held_size ps)) h

  pub rests-over : (kind : Kind) (budget n : ℕ) (p : Point MachineState End) (ps : List Piece) → IsOutside kind n p.state → over_of kind p ps ≡ true → rests_of kind budget n p ps ≡ true
  rests-over kind budget n p ps o h = over-end kind budget n p.state p.end ps o h

  pub rests-spent : (kind : Kind) (budget n : ℕ) (p : Point MachineState End) (ps : List Piece) → n ≡ budget → rests_of kind budget n p ps ≡ true
  rests-spent kind budget n p ps same =
      or-left (meets (rv32 input) kind n p.state p.end || (is_some p.end || nat_eq n budget)) (nat_le most_held (held_size ps))
      (or-right (meets (rv32 input) kind n p.state p.end) (is_some p.end || nat_eq n budget) (or-right (is_some p.end) (nat_eq n budget) (eq-eqb n budget same)))

  pub rests-full : (kind : Kind) (budget n : ℕ) (p : Point MachineState End) (ps : List Piece) → nat_le most_held (held_size ps) ≡ true → rests_of kind budget n p ps ≡ true
  rests-full kind budget n p ps h = or-right (meets (rv32 input) kind n p.state p.end || (is_some p.end || nat_eq n budget)) (nat_le most_held (held_size ps)) h

  pub rests-end : (kind : Kind) (budget n : ℕ) (s : MachineState) (o : Option End) (ps : List Piece) → is_some o ≡ true → rests_of kind budget n (record { state = s; end = o }) ps ≡ true
  rests-end kind budget n s o ps h =
      or-left (meets (rv32 input) kind n s o || (is_some o || nat_eq n budget)) (nat_le most_held (held_size ps)) (or-right (meets (rv32 input) kind n s o) (is_some o || nat_eq n budget) (or-left (is_some o) (nat_eq n budget) h))

  -- ---- the length of a run

  -- it rests at n, and not before
  pub length-rests : (t : TrackView) (k n : ℕ) → n ≤ k → rests_after input t n ≡ true → ((i : ℕ) → i < n → rests_after input t i ≡ false) → n ≡ run_length input t k
  unfolding run_length
  length-rests t k n le here before = elim (cases_lt n k) [
    | inl less ↦ sym (ap (λ o. unwrap_or o k) (first-some (rests_after input t) 0 k n (omega arith) (omega arith) here (λ i low high. before i high)))
    | inr high ↦ (let same : n ≡ k = omega arith in same ∙ sym (ap (λ o. unwrap_or o k) (first-none (rests_after input t) 0 k (λ i low less. before i (omega arith)))))
  ]

  -- it doesn't rest before k
  pub length-whole : (t : TrackView) (k : ℕ) → ((i : ℕ) → i < k → rests_after input t i ≡ false) → k ≡ run_length input t k
  unfolding run_length
  length-whole t k before = sym (ap (λ o. unwrap_or o k) (first-none (rests_after input t) 0 k (λ i low less. before i (omega arith))))

  -- it doesn't rest up to n
  pub length-more : (t : TrackView) (k n : ℕ) → n < k → ((i : ℕ) → i ≤ n → rests_after input t i ≡ false) → n < run_length input t k
  unfolding run_length
  length-more t k n less before = elim (cases_lt n (unwrap_or (first_from (rests_after input t) 0 k) k)) [
    | inl more ↦ more
    | inr low ↦ absurd (let rests = first-at (rests_after input t) k (omega arith) in let goes = before _ low in cc)
  ]

  -- ---- a track before a part of its run

  -- The run goes on from state s with n0 instructions behind the track's: none, or the opening call.
  pub record Starts (t : TrackView) (limit n0 : ℕ) (s : MachineState) : Type 0 where
    pub count : n0 ≤ limit
    pub points : (j : ℕ) → n0 + j ≤ limit → point (rv32 input) t.kind t.start (t.own + (n0 + j)) ≡ go (rv32 input) (fresh s) j
    pub pieces : (j : ℕ) → new_pieces (rv32 input) t.kind t.start t.own (n0 + j) ≡ kept_pieces input t.kind s (t.own + n0) j
    pub before : (i : ℕ) → i < n0 → rests_after input t i ≡ false
    pub outside : (j : ℕ) → n0 + j ≤ limit → IsOutside t.kind (t.own + (n0 + j)) (go (rv32 input) (fresh s) j).state

  -- ---- the parts put together

  module _ (t : TrackView) (limit n0 : ℕ) (s u : MachineState) (held : List Piece) (p : Progress) (starts : Starts t limit n0 s) (ran : IsProgress input t.kind s (t.own + n0) t.held (limit - n0) u held p) where
    within : n0 + p.taken ≤ limit
    within = omega (arith, starts.count, ran.below)

    pub ran-at : point (rv32 input) t.kind t.start (t.own + (n0 + p.taken)) ≡ record { state = u; end = p.end }
    ran-at = starts.points p.taken within ∙ ran.at

    pub ran-holds : held ≡ t.held ++ new_pieces (rv32 input) t.kind t.start t.own (n0 + p.taken)
    ran-holds = ran.holds ∙ ap (λ ps. t.held ++ ps) (sym (starts.pieces p.taken))

    rests-later : (j : ℕ) → n0 + j ≤ limit → rests_after input t (n0 + j) ≡ rests_of t.kind t.budget (t.own + (n0 + j)) (go (rv32 input) (fresh s) j) (t.held ++ kept_pieces input t.kind s (t.own + n0) j)
    rests-later j le = rests-at t (n0 + j) (go (rv32 input) (fresh s) j) (t.held ++ kept_pieces input t.kind s (t.own + n0) j) (starts.points j le) (ap (λ ps. t.held ++ ps) (starts.pieces j))

    goes-on : t.own + limit ≤ t.budget → (j : ℕ) → n0 + j < limit → is_over input t.kind s (t.own + n0) t.held j ≡ false → rests_after input t (n0 + j) ≡ false
    goes-on fits j less going =
        rests-later j (omega arith)
        ∙ rests-not t.kind t.budget (t.own + (n0 + j)) (go (rv32 input) (fresh s) j) (t.held ++ kept_pieces input t.kind s (t.own + n0) j) going (omega arith)

    pub ran-before : t.own + limit ≤ t.budget → (i : ℕ) → i < n0 + p.taken → rests_after input t i ≡ false
    ran-before fits i less = elim (cases_lt i n0) [
      | inl low ↦ starts.before i low
      | inr high ↦ (let j = i - n0 in
          let whole : n0 + j ≡ i = omega arith in
          subst (λ k. rests_after input t k ≡ false) whole (goes-on fits j (omega (arith, within)) (ran.going j (omega arith))))
    ]

    ran-over : is_over input t.kind s (t.own + n0) t.held p.taken ≡ true → rests_after input t (n0 + p.taken) ≡ true
    ran-over h =
        rests-later p.taken within
        ∙ rests-over t.kind t.budget (t.own + (n0 + p.taken)) (go (rv32 input) (fresh s) p.taken) (t.held ++ kept_pieces input t.kind s (t.own + n0) p.taken) (starts.outside p.taken within) h

    ran-limit : (k : ℕ) → limit ≡ min k (t.budget - t.own) → t.own ≤ t.budget → n0 + p.taken ≡ limit → ((i : ℕ) → i < n0 + p.taken → rests_after input t i ≡ false) → n0 + p.taken ≡ run_length input t k
    ran-limit k is fits same before = elim (cases_lt (n0 + p.taken) k) [
      | inl less ↦ (let spent : t.own + (n0 + p.taken) ≡ t.budget = omega arith in
          length-rests t k (n0 + p.taken) (omega arith)
          (rests-at t (n0 + p.taken) (point (rv32 input) t.kind t.start (t.own + (n0 + p.taken))) (t.held ++ new_pieces (rv32 input) t.kind t.start t.own (n0 + p.taken)) refl refl
          ∙ rests-spent t.kind t.budget (t.own + (n0 + p.taken)) (point (rv32 input) t.kind t.start (t.own + (n0 + p.taken))) (t.held ++ new_pieces (rv32 input) t.kind t.start t.own (n0 + p.taken)) spent) before)
      | inr high ↦ (let whole : n0 + p.taken ≡ k = omega arith in
          whole ∙ length-whole t k (λ i less. before i (omega arith)))
    ]

    pub ran-length : (k : ℕ) → limit ≡ min k (t.budget - t.own) → t.own ≤ t.budget → (p.taken ≡ limit - n0) ⊎ (is_over input t.kind s (t.own + n0) t.held p.taken ≡ true) → n0 + p.taken ≡ run_length input t k
    ran-length k is fits (inl last) = ran-limit k is fits (omega (arith, starts.count)) (ran-before (omega arith))
    ran-length k is fits (inr over) = length-rests t k (n0 + p.taken) (omega (arith, within)) (ran-over over) (ran-before (omega arith))

    -- for want of memory it stopped where it doesn't rest
    pub ran-short : (k : ℕ) → limit ≡ min k (t.budget - t.own) → t.own ≤ t.budget → (p.taken < limit - n0) × (is_over input t.kind s (t.own + n0) t.held p.taken ≡ false) → n0 + p.taken < run_length input t k
    ran-short k is fits h =
        length-more t k (n0 + p.taken) (omega (arith, h.0)) (λ i le. elim (cases_lt i (n0 + p.taken)) [
          | inl before ↦ ran-before (omega arith) i before
          | inr last ↦ (let same : n0 + p.taken ≡ i = omega arith in
              subst (λ n. rests_after input t n ≡ false) same (goes-on (omega arith) p.taken (omega (arith, h.0)) h.1))
        ])
