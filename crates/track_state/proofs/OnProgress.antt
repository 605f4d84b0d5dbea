-- A run on its way: where it stands after n instructions, what it holds, and that it isn't over before.
use Rattle.std.proofs.Common.{◌≡◌, ℕ, suc, ◌+◌, ◌<◌, ◌≤◌, Bool, true, false, ◌||◌, List, [], ◌∷◌, ◌++◌, length, Some, None, is_some, nat_le, refl, sym, ap, ap₂, ◌∙◌, subst, inl, inr, append_assoc, append-nil, add-one, arith}
use Rattle.std.specs.List.{All}
use Rattle.std.proofs.lemmas.Bool.{cases_lt, leb-false, lt-leb}
use Rattle.std.proofs.lemmas.List.Elements.{All-append, All-cons, All-nil}
use Rattle.speculation.specs.declared.tracks.Kind.{Kind}
use Rattle.speculation.specs.declared.tracks.Kind.TheVariants.{Normal, Fast, Segment}
use Rattle.speculation.specs.Machine.{Next, Ends}
use Rattle.speculation.specs.Run.{Point, Piece, fresh, go, piece_of, wrote, pieces}
use Rattle.speculation.specs.Core.{held_size, most_held}
use Rattle.speculation.proofs.Runs.{go-next, go-ends}
use Rattle.guest_model.specs.MachineState.{MachineState}
use Rattle.guest_model.specs.Service.{Outcome}
use Rattle.guest_model.specs.Step.{step}
use Rattle.guest_model.specs.Rv32.{rv32}
use Rattle.guest_model.specs.declared.end.End.{End}
use Rattle.track_state.specs.Progress.{halts, kept_pieces, held_piece, is_over, IsProgress}

-- what a track of this kind holds of an instruction with this number and outcome
abbrev kept_of : Kind → ℕ → Outcome → List Piece
kept_of Normal k o = piece_of k o
kept_of Fast k o = []
kept_of Segment k o = piece_of k o

piece_of-bytes : (k : ℕ) (t : MachineState) (stream : ℕ) (bs : List ℕ) → 0 < length bs → piece_of {S = MachineState} {E = End} k (Next t stream bs) ≡ record { number = k; stream = stream; bytes = bs } ∷ []
piece_of-bytes k t stream [] h = absurd (omega arith)
piece_of-bytes k t stream (b ∷ bs) h = refl

kept_of-bytes : (kind : Kind) (k : ℕ) (t : MachineState) (stream : ℕ) (bs : List ℕ) → 0 < length bs → kept_of kind k (Next t stream bs) ≡ held_piece kind k stream bs
kept_of-bytes Normal k t stream bs h = piece_of-bytes k t stream bs h
kept_of-bytes Fast k t stream bs h = refl
kept_of-bytes Segment k t stream bs h = piece_of-bytes k t stream bs h

kept_of-nothing : (kind : Kind) (k : ℕ) (t : MachineState) (stream : ℕ) → kept_of kind k (Next t stream []) ≡ []
kept_of-nothing Normal k t stream = refl
kept_of-nothing Fast k t stream = refl
kept_of-nothing Segment k t stream = refl

kept_of-end : (kind : Kind) (k : ℕ) (e : End) → kept_of kind k (Ends e) ≡ []
kept_of-end Normal k e = refl
kept_of-end Fast k e = refl
kept_of-end Segment k e = refl

module _ (input : List ℕ) (s : MachineState) (own : ℕ) where
  pub kept-none : (kind : Kind) → kept_pieces input kind s own 0 ≡ []
  unfolding pieces
  kept-none Normal = refl
  kept-none Fast = refl
  kept-none Segment = refl

  pieces-more : (n : ℕ) (t : MachineState) → go (rv32 input) (fresh s) n ≡ fresh t
      → pieces (rv32 input) (fresh s) own (suc n) ≡ pieces (rv32 input) (fresh s) own n ++ piece_of (suc (own + n)) (step false input t)
  unfolding pieces
  pieces-more n t here = ap (λ (q : Point MachineState End). pieces (rv32 input) (fresh s) own n ++ wrote (rv32 input) (suc (own + n)) q.state q.end) here

  kept-more : (kind : Kind) (n : ℕ) (t : MachineState) → go (rv32 input) (fresh s) n ≡ fresh t
      → kept_pieces input kind s own (suc n) ≡ kept_pieces input kind s own n ++ kept_of kind (suc (own + n)) (step false input t)
  kept-more Normal n t here = pieces-more n t here
  kept-more Fast n t here = refl
  kept-more Segment n t here = pieces-more n t here

module _ (input : List ℕ) (kind : Kind) (s : MachineState) (own : ℕ) (held : List Piece) where
  -- after n instructions the run is in state t, holds the pieces `now`, and was over at no count before
  pub record SoFar (n : ℕ) (t : MachineState) (now : List Piece) : Type 0 where
    pub at : go (rv32 input) (fresh s) n ≡ fresh t
    pub holds : now ≡ held ++ kept_pieces input kind s own n
    pub numbers : All (λ p. p.number ≤ own + n) now
    pub room : held_size now < most_held
    pub going : (k : ℕ) → k < n → is_over input kind s own held k ≡ false

  numbers-more : (n m : ℕ) (ps : List Piece) → n ≤ m → All (λ p. p.number ≤ n) ps → All (λ p. p.number ≤ m) ps
  numbers-more n m ps le h = λ k d low. omega (arith, h k d low)

  pub SoFar-first : All (λ p. p.number ≤ own) held → held_size held < most_held → SoFar 0 s held
  unfolding go
  SoFar-first numbers room = record {
    at = refl;
    holds = sym (ap (λ ps. held ++ ps) (kept-none input s own kind) ∙ append-nil held);
    numbers = numbers-more own (own + 0) held (omega arith) numbers;
    room = room;
    going = λ k less. absurd (omega arith);
  }

  abbrev over_of : Point MachineState End → List Piece → Bool
  over_of p ps = is_some p.end || (halts kind p.state || nat_le most_held (held_size ps))

  over-at : (n : ℕ) (p : Point MachineState End) (now : List Piece) → go (rv32 input) (fresh s) n ≡ p → now ≡ held ++ kept_pieces input kind s own n → is_over input kind s own held n ≡ over_of p now
  over-at n p now at holds = ap₂ over_of at (sym holds)

  call-or : (b c : Bool) → b ≡ true → b || c ≡ true
  call-or true c h = refl
  call-or false c h = absurd (cc)

  size-or : (b c : Bool) → c ≡ true → b || c ≡ true
  size-or true c h = refl
  size-or false c h = h

  neither : (b c : Bool) → b ≡ false → c ≡ false → b || c ≡ false
  neither true c h k = absurd (cc)
  neither false c h k = k

  -- it goes on where it isn't at the call
  pub SoFar-open : (n : ℕ) (t : MachineState) (now : List Piece) → SoFar n t now → halts kind t ≡ false → is_over input kind s own held n ≡ false
  SoFar-open n t now h call =
      over-at n (fresh t) now h.at h.holds
      ∙ neither (halts kind t) (nat_le most_held (held_size now)) call (lt-leb most_held (held_size now) h.room)

  going-more : (n : ℕ) → ((k : ℕ) → k < n → is_over input kind s own held k ≡ false) → is_over input kind s own held n ≡ false → (k : ℕ) → k < n + 1 → is_over input kind s own held k ≡ false
  going-more n before here k less = elim (cases_lt k n) [
    | inl low ↦ before k low
    | inr high ↦ (let same : n ≡ k = omega arith in subst (λ j. is_over input kind s own held j ≡ false) same here)
  ]

  -- one instruction that went on to u, and what is held then
  record Moved (n : ℕ) (u : MachineState) (now : List Piece) : Type 0 where
    pub at : go (rv32 input) (fresh s) (n + 1) ≡ fresh u
    pub holds : now ≡ held ++ kept_pieces input kind s own (n + 1)
    pub going : (k : ℕ) → k < n + 1 → is_over input kind s own held k ≡ false

  moves : (n : ℕ) (t u : MachineState) (stream : ℕ) (bs : List ℕ) (now after : List Piece) → SoFar n t now → halts kind t ≡ false → step false input t ≡ Next u stream bs
      → after ≡ now ++ kept_of kind (suc (own + n)) (Next u stream bs) → Moved n u after
  moves n t u stream bs now after h call went is = record {
    at = rw add-one (go-next (rv32 input) (fresh s) n t u stream bs h.at went);
    holds = is ∙ ap (λ ps. ps ++ kept_of kind (suc (own + n)) (Next u stream bs)) h.holds ∙ append_assoc held (kept_pieces input kind s own n) (kept_of kind (suc (own + n)) (Next u stream bs))
        ∙ ap (λ ps. held ++ ps) (sym (ap (λ k. kept_pieces input kind s own k) (add-one n) ∙ kept-more input s own kind n t h.at ∙ ap (λ o. kept_pieces input kind s own n ++ kept_of kind (suc (own + n)) o) went));
    going = going-more n h.going (SoFar-open n t now h call);
  }

  -- an instruction that wrote nothing
  pub SoFar-quiet : (n : ℕ) (t u : MachineState) (stream : ℕ) (now : List Piece) → SoFar n t now → halts kind t ≡ false → step false input t ≡ Next u stream [] → SoFar (n + 1) u now
  SoFar-quiet n t u stream now h call went =
      let m : Moved n u now = moves n t u stream [] now now h call went (sym (ap (λ ps. now ++ ps) (kept_of-nothing kind (suc (own + n)) u stream) ∙ append-nil now)) in
      record { at = m.at; holds = m.holds; numbers = numbers-more (own + n) (own + (n + 1)) now (omega arith) h.numbers; room = h.room; going = m.going }

  moved-by : (n : ℕ) (t u : MachineState) (stream : ℕ) (bs : List ℕ) (now after : List Piece) → SoFar n t now → halts kind t ≡ false → step false input t ≡ Next u stream bs → 0 < length bs
      → after ≡ now ++ held_piece kind (own + n + 1) stream bs → Moved n u after
  moved-by n t u stream bs now after h call went some is =
      moves n t u stream bs now after h call went
      (is ∙ ap (λ k. now ++ held_piece kind k stream bs) (add-one (own + n)) ∙ ap (λ ps. now ++ ps) (sym (kept_of-bytes kind (suc (own + n)) u stream bs some)))

  held_piece-numbers : (k : Kind) (number stream : ℕ) (bs : List ℕ) → All (λ p. p.number ≤ number) (held_piece k number stream bs)
  held_piece-numbers Normal number stream bs = All-cons (λ (p : Piece). p.number ≤ number) (record { number = number; stream = stream; bytes = bs }) [] (omega arith) (All-nil (λ (p : Piece). p.number ≤ number))
  held_piece-numbers Fast number stream bs = All-nil (λ (p : Piece). p.number ≤ number)
  held_piece-numbers Segment number stream bs = All-cons (λ (p : Piece). p.number ≤ number) (record { number = number; stream = stream; bytes = bs }) [] (omega arith) (All-nil (λ (p : Piece). p.number ≤ number))

  -- an instruction that wrote, where less is held than may be
  pub SoFar-wrote : (n : ℕ) (t u : MachineState) (stream : ℕ) (bs : List ℕ) (now after : List Piece) → SoFar n t now → halts kind t ≡ false → step false input t ≡ Next u stream bs → 0 < length bs
      → after ≡ now ++ held_piece kind (own + n + 1) stream bs → nat_le most_held (held_size after) ≡ false → SoFar (n + 1) u after
  SoFar-wrote n t u stream bs now after h call went some is few =
      let m : Moved n u after = moved-by n t u stream bs now after h call went some is in
      record {
        at = m.at;
        holds = m.holds;
        numbers = subst (λ ps. All (λ p. p.number ≤ own + (n + 1)) ps) (sym is)
            (All-append (λ p. p.number ≤ own + (n + 1)) now (held_piece kind (own + n + 1) stream bs) (numbers-more (own + n) (own + (n + 1)) now (omega arith) h.numbers)
            (numbers-more (own + n + 1) (own + (n + 1)) (held_piece kind (own + n + 1) stream bs) (omega arith) (held_piece-numbers kind (own + n + 1) stream bs)));
        room = leb-false most_held (held_size after) few;
        going = m.going;
      }

  -- ---- how it pauses

  -- at the call
  pub pauses-at_call : (n limit : ℕ) (t : MachineState) (now : List Piece) → SoFar n t now → n < limit → halts kind t ≡ true → IsProgress input kind s own held limit t now (record { taken = n; end = None; refused = false })
  pauses-at_call n limit t now h less call = record {
    at = h.at;
    holds = h.holds;
    below = omega arith;
    going = h.going;
    pause = inr (over-at n (fresh t) now h.at h.holds ∙ call-or (halts kind t) (nat_le most_held (held_size now)) call);
  }

  -- for want of memory
  pub pauses-refused : (n limit : ℕ) (t : MachineState) (now : List Piece) → SoFar n t now → n < limit → halts kind t ≡ false → IsProgress input kind s own held limit t now (record { taken = n; end = None; refused = true })
  pauses-refused n limit t now h less call = record {
    at = h.at;
    holds = h.holds;
    below = omega arith;
    going = h.going;
    pause = (less, SoFar-open n t now h call);
  }

  -- with as much held as may be
  pub pauses-full : (n limit : ℕ) (t u : MachineState) (stream : ℕ) (bs : List ℕ) (now after : List Piece) → SoFar n t now → n < limit → halts kind t ≡ false → step false input t ≡ Next u stream bs → 0 < length bs
      → after ≡ now ++ held_piece kind (own + n + 1) stream bs → nat_le most_held (held_size after) ≡ true → IsProgress input kind s own held limit u after (record { taken = n + 1; end = None; refused = false })
  pauses-full n limit t u stream bs now after h less call went some is many =
      let m : Moved n u after = moved-by n t u stream bs now after h call went some is in
      record {
        at = m.at;
        holds = m.holds;
        below = omega arith;
        going = m.going;
        pause = inr (over-at (n + 1) (fresh u) after m.at m.holds ∙ size-or (halts kind u) (nat_le most_held (held_size after)) many);
      }

  -- behind an end
  pub pauses-ended : (n limit : ℕ) (t : MachineState) (e : End) (now : List Piece) → SoFar n t now → n < limit → halts kind t ≡ false → step false input t ≡ Ends e
      → IsProgress input kind s own held limit t now (record { taken = n + 1; end = Some e; refused = false })
  pauses-ended n limit t e now h less call ends =
      let at : go (rv32 input) (fresh s) (n + 1) ≡ record { state = t; end = Some e } = rw add-one (go-ends (rv32 input) (fresh s) n t e h.at ends) in
      let holds : now ≡ held ++ kept_pieces input kind s own (n + 1)
      = h.holds ∙ ap (λ ps. held ++ ps) (sym (ap (λ k. kept_pieces input kind s own k) (add-one n) ∙ kept-more input s own kind n t h.at
      ∙ ap (λ o. kept_pieces input kind s own n ++ kept_of kind (suc (own + n)) o) ends ∙ ap (λ ps. kept_pieces input kind s own n ++ ps) (kept_of-end kind (suc (own + n)) e) ∙ append-nil (kept_pieces input kind s own n))) in
      record {
        at = at;
        holds = holds;
        below = omega arith;
        going = going-more n h.going (SoFar-open n t now h call);
        pause = inr (over-at (n + 1) (record { state = t; end = Some e }) now at holds);
      }

  -- at the limit
  pub pauses-limit : (n limit : ℕ) (t : MachineState) (now : List Piece) → SoFar n t now → n ≡ limit → IsProgress input kind s own held limit t now (record { taken = limit; end = None; refused = false })
  pauses-limit n limit t now h same = record {
    at = subst (λ k. go (rv32 input) (fresh s) k ≡ fresh t) same h.at;
    holds = subst (λ k. now ≡ held ++ kept_pieces input kind s own k) same h.holds;
    below = omega arith;
    going = λ k less. h.going k (omega arith);
    pause = inl refl;
  }
