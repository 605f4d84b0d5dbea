-- How a part of a track's run begins, and what it leaves of the track
use Rattle.std.proofs.Common.{◌≡◌, ◌≢◌, ℕ, zero, suc, ◌+◌, ◌-◌, ◌<◌, ◌≤◌, Bool, true, false, ◌&&◌, ◌||◌, ◌==◌, List, [], ◌∷◌, ◌++◌, length, Option, Some, None, is_some, nat_le, refl, sym, ap, ap₂, ◌∙◌, subst, append_assoc, append-nil, arith}
use Rattle.std.specs.List.{All}
use Rattle.std.specs.Int.{w32}
use Rattle.std.proofs.lemmas.Bool.{and_parts, eqb-true, ne_eqb, lt-leb}
use Rattle.std.proofs.lemmas.List.Elements.{All-append, All-cons, All-nil}
use Rattle.speculation.specs.declared.tracks.Kind.{Kind}
use Rattle.speculation.specs.declared.tracks.Kind.TheVariants.{Normal, Fast, Segment}
use Rattle.speculation.specs.Machine.{Next, Ends}
use Rattle.speculation.specs.Run.{Point, Piece, fresh, go, piece_of, wrote, pieces}
use Rattle.speculation.specs.Tracks.{point}
use Rattle.speculation.specs.Core.{held_size, most_held}
use Rattle.speculation.specs.Events.{new_pieces}
use Rattle.speculation.proofs.Runs.{go-add}
use Rattle.guest_model.specs.ByteMap.{load}
use Rattle.guest_model.specs.Registers.{reg}
use Rattle.guest_model.specs.MachineState.{MachineState}
use Rattle.guest_model.specs.Service.{Outcome}
use Rattle.guest_model.specs.Step.{step, is_ecall, at_fast, at_end}
use Rattle.guest_model.specs.Rv32.{rv32, answer_one}
use Rattle.guest_model.specs.declared.end.End.{End}
use Rattle.track_state.specs.Kept.{StartsAtCall}
use Rattle.track_state.specs.Views.{TrackView}
use Rattle.track_state.specs.Runs.{IsLast, RunsOver, rests_after, RanOn}
use Rattle.track_state.specs.Progress.{halts, kept_pieces, IsProgress}
use Rattle.track_state.specs.declared.progress.Progress.{Progress}
use Rattle.track_state.proofs.OnRuns.{rests_of, new_pieces-none, new_pieces-more, rests-at, rests-not, Starts, ran-at, ran-holds}

-- a state at the opening call isn't at the closing one
pub opening-not_closing : (s : MachineState) → at_fast s ≡ true → at_end s ≡ false
unfolding at_fast at_end
opening-not_closing s h =
    let both = and_parts (is_ecall (load w32 s.memory s.regs.pc)) (reg s.regs 17 == 2000) h in
    let number : reg s.regs 17 ≡ 2000 = eqb-true (reg s.regs 17) 2000 both.1 in
    second (is_ecall (load w32 s.memory s.regs.pc)) (reg s.regs 17 == 2001) (ne_eqb (reg s.regs 17) 2001 (λ e. absurd (omega arith))) where
      second : (b c : Bool) → c ≡ false → b && c ≡ false
      second true c h = h
      second false c h = refl

-- ---- numbers of pieces

number-more : (n m : ℕ) (ps : List Piece) → n ≤ m → All (λ p. p.number ≤ n) ps → All (λ p. p.number ≤ m) ps
number-more n m ps le h = λ k d low. omega (arith, h k d low)

piece_of-number : (k : ℕ) (o : Outcome) → All (λ p. p.number ≤ k) (piece_of k o)
piece_of-number k (Next t stream []) = All-nil (λ (p : Piece). p.number ≤ k)
piece_of-number k (Next t stream (b ∷ bs)) = All-cons (λ (p : Piece). p.number ≤ k) (record { number = k; stream = stream; bytes = b ∷ bs }) [] (omega arith) (All-nil (λ (p : Piece). p.number ≤ k))
piece_of-number k (Ends e) = All-nil (λ (p : Piece). p.number ≤ k)

All-suffix : (P : Piece → Type 0) (xs ys : List Piece) → All P (xs ++ ys) → All P ys
All-suffix P [] ys h = h
All-suffix P (x ∷ xs) ys h = All-suffix P xs ys (λ k d low. h (suc k) d (omega arith))

module _ (input : List ℕ) where
  wrote-number : (k : ℕ) (s : MachineState) (o : Option End) → All (λ p. p.number ≤ k) (wrote (rv32 input) k s o)
  wrote-number k s None = piece_of-number k (step false input s)
  wrote-number k s (Some e) = All-nil (λ (p : Piece). p.number ≤ k)

  pieces-number : (p : Point MachineState End) (k n : ℕ) → All (λ p. p.number ≤ k + n) (pieces (rv32 input) p k n)
  unfolding pieces
  pieces-number p k zero = All-nil (λ (p : Piece). p.number ≤ k + 0)
  pieces-number p k (suc n) =
      All-append (λ p. p.number ≤ k + suc n) (pieces (rv32 input) p k n) (wrote (rv32 input) (suc (k + n)) (go (rv32 input) p n).state (go (rv32 input) p n).end)
      (number-more (k + n) (k + suc n) (pieces (rv32 input) p k n) (omega arith) (pieces-number p k n))
      (number-more (suc (k + n)) (k + suc n) (wrote (rv32 input) (suc (k + n)) (go (rv32 input) p n).state (go (rv32 input) p n).end) (omega arith)
      (wrote-number (suc (k + n)) (go (rv32 input) p n).state (go (rv32 input) p n).end))

  new_pieces-number : (kind : Kind) (s : MachineState) (own n : ℕ) → All (λ p. p.number ≤ own + n) (new_pieces (rv32 input) kind s own n)
  new_pieces-number Normal s own n = pieces-number (go (rv32 input) (fresh s) own) own n
  new_pieces-number Fast s own n = All-nil (λ (p : Piece). p.number ≤ own + n)
  new_pieces-number Segment s own n = pieces-number (go (rv32 input) (fresh s) own) own n

  -- what a track holds is numbered within its instructions
  pub held-number : (t : TrackView) (more : ℕ) → RunsOver input t → All (λ p. p.number ≤ t.own + more) t.held
  held-number t more h =
      number-more (0 + t.own) (t.own + more) t.held (omega arith)
      (All-suffix (λ p. p.number ≤ 0 + t.own) h.held.0 t.held (subst (λ ps. All (λ p. p.number ≤ 0 + t.own) ps) (sym h.held.1) (new_pieces-number t.kind t.start 0 t.own)))

  -- ---- how a part of a run begins

  pub start-point : (kind : Kind) (s : MachineState) → point (rv32 input) kind s 0 ≡ fresh s
  unfolding go
  start-point Normal s = refl
  start-point Fast s = refl
  start-point Segment s = refl

  point-more : (kind : Kind) (s : MachineState) (own j : ℕ) → (kind ≡ Fast → own ≡ 0 → j ≡ 0) → point (rv32 input) kind s (own + j) ≡ go (rv32 input) (point (rv32 input) kind s own) j
  point-more Normal s own j h = go-add (rv32 input) (fresh s) own j
  point-more Segment s own j h = go-add (rv32 input) (fresh s) own j
  point-more Fast s zero j h =
      let none : j ≡ 0 = h refl refl in let sum : 0 + j ≡ 0 = omega arith in
      ap (point (rv32 input) Fast s) sum ∙ sym (ap (go (rv32 input) (fresh s)) none ∙ start-point Normal s)
  point-more Fast s (suc own) j h =
      let sum : suc own + j ≡ suc (own + j) = omega arith in ap (point (rv32 input) Fast s) sum ∙ go-add (rv32 input) (fresh (answer_one s)) own j

  pieces-same : (kind : Kind) (start s : MachineState) (own n j : ℕ) → point (rv32 input) kind start own ≡ fresh s → n ≡ j → new_pieces (rv32 input) kind start own n ≡ kept_pieces input kind s (own + 0) j
  pieces-same Normal start s own n j here e =
      let first : own ≡ own + 0 = omega arith in
      ap₂ (λ (p : Point MachineState End) k. pieces (rv32 input) p own k) here e ∙ ap (λ k. pieces (rv32 input) (fresh s) k j) first
  pieces-same Fast start s own n j here e = refl
  pieces-same Segment start s own n j here e =
      let first : own ≡ own + 0 = omega arith in
      ap₂ (λ (p : Point MachineState End) k. pieces (rv32 input) p own k) here e ∙ ap (λ k. pieces (rv32 input) (fresh s) k j) first

  module _ (t : TrackView) (limit : ℕ) (runs : RunsOver input t) (going : t.end ≡ None) (call : StartsAtCall t.kind t.start) where
    here : point (rv32 input) t.kind t.start t.own ≡ fresh t.state
    here = runs.at ∙ ap (λ (e : Option End). record { state = t.state; end = e }) going

    at-start : t.own ≡ 0 → t.state ≡ t.start
    at-start e = ap (λ (p : Point MachineState End). p.state) (sym here ∙ ap (point (rv32 input) t.kind t.start) e ∙ start-point t.kind t.start)

    outside-here : (j : ℕ) → t.kind ≢ Segment → t.own + (0 + j) ≡ 0 → at_end (go (rv32 input) (fresh t.state) j).state ≡ false
    outside-here j other e =
        let none : j ≡ 0 = omega arith in let first : t.own ≡ 0 = omega arith in
        ap (λ k. at_end (go (rv32 input) (fresh t.state) k).state) none ∙ ap (λ (p : Point MachineState End). at_end p.state) (start-point Normal t.state)
        ∙ ap at_end (at-start first) ∙ opening-not_closing t.start (call other)

    -- where the next instruction is a plain one
    pub starts-here : (t.kind ≡ Fast → t.own ≡ 0 → limit ≡ 0) → Starts input t limit 0 t.state
    starts-here behind = record {
      count = omega arith;
      points = λ j le. (let sum : t.own + (0 + j) ≡ t.own + j = omega arith in
          ap (point (rv32 input) t.kind t.start) sum ∙ point-more t.kind t.start t.own j (λ e f. (let none : limit ≡ 0 = behind e f in omega arith)) ∙ ap (λ (p : Point MachineState End). go (rv32 input) p j) here);
      pieces = λ j. pieces-same t.kind t.start t.state t.own (0 + j) j here (omega arith);
      before = λ i less. absurd (omega arith);
      outside = λ j le. record { outside = outside-here j };
    }

    over-not : (kind : Kind) → at_end t.state ≡ false → kind ≡ Fast → held_size t.held < most_held → halts kind t.state || nat_le most_held (held_size t.held) ≡ false
    over-not Fast h e room = ap₂ (λ (b c : Bool). b || c) h (lt-leb most_held (held_size t.held) room)
    over-not Normal h e room = absurd (cc)
    over-not Segment h e room = absurd (cc)

    rests-first : t.kind ≡ Fast → t.own ≡ 0 → 0 < t.budget → held_size t.held < most_held → rests_after input t 0 ≡ false
    rests-first fast first some room =
        let other : t.kind ≢ Segment = λ e. cc in
        let same : t.own + 0 ≡ t.own = omega arith in
        let nothing : t.held ++ new_pieces (rv32 input) t.kind t.start t.own 0 ≡ t.held = ap (λ ps. t.held ++ ps) (new_pieces-none input t.kind t.start t.own) ∙ append-nil t.held in
        rests-at input t 0 (fresh t.state) t.held (ap (point (rv32 input) t.kind t.start) same ∙ here) nothing
        ∙ rests-not input t.kind t.budget (t.own + 0) (fresh t.state) t.held
        (over-not t.kind (ap at_end (at-start first) ∙ opening-not_closing t.start (call other)) fast room) (omega arith)

    -- where the next instruction is the opening call of a fast version
    pub starts-opened : t.kind ≡ Fast → t.own ≡ 0 → 0 < limit → t.own + limit ≤ t.budget → held_size t.held < most_held → Starts input t limit 1 (answer_one t.state)
    starts-opened fast first some fits room = record {
      count = omega arith;
      points = λ j le. (let next : t.own + (1 + j) ≡ suc j = omega arith in
          ap₂ (λ (k : Kind) n. point (rv32 input) k t.start n) fast next ∙ ap (λ (s : MachineState). go (rv32 input) (fresh (answer_one s)) j) (sym (at-start first)));
      pieces = λ j. subst (λ (k : Kind). new_pieces (rv32 input) k t.start t.own (1 + j) ≡ kept_pieces input k (answer_one t.state) (t.own + 1) j) (sym fast) refl;
      before = λ i less. (let none : 0 ≡ i = omega arith in subst (λ k. rests_after input t k ≡ false) none (rests-first fast first (omega arith) room));
      outside = λ j le. record { outside = λ other e. absurd (omega arith) };
    }

  -- ---- what a part of a run leaves

  went : (s u : MachineState) (o : Option End) (e : End) (n : ℕ) → go (rv32 input) (fresh s) n ≡ record { state = u; end = o } → o ≡ Some e → 0 < n
  went s u o e zero h is = absurd (let none : None ≡ o = ap (λ (p : Point MachineState End). p.end) (sym (start-point Normal s) ∙ h) in cc)
  went s u o e (suc n) h is = omega arith

  none-left : (o : Option End) (c : Bool) → is_some o || c ≡ false → o ≡ None
  none-left None c h = refl
  none-left (Some e) c h = absurd (cc)

  module _ (t : TrackView) (limit n0 : ℕ) (s u : MachineState) (held : List Piece) (p : Progress) (starts : Starts input t limit n0 s) (ran : IsProgress input t.kind s (t.own + n0) t.held (limit - n0) u held p) where
    -- the track with what the run left
    abbrev pub run_view : TrackView
    run_view = record { kind = t.kind; start = t.start; state = u; own = t.own + (n0 + p.taken); held = held; end = p.end; budget = t.budget }

    last-one : (e : End) → p.end ≡ Some e → IsLast input run_view
    last-one e is =
        let some : 0 < p.taken = went s u p.end e p.taken ran.at is in
        let j = p.taken - 1 in
        record {
          before = t.own + (n0 + j);
          count = omega arith;
          going = ap (λ (q : Point MachineState End). q.end) (starts.points j (omega (arith, starts.count, ran.below)))
              ∙ none-left (go (rv32 input) (fresh s) j).end (halts t.kind (go (rv32 input) (fresh s) j).state || nat_le most_held (held_size (t.held ++ kept_pieces input t.kind s (t.own + n0) j))) (ran.going j (omega arith));
        }

    pub ran-on : RunsOver input t → u.place ≤ length input → RanOn input t run_view (n0 + p.taken)
    ran-on runs place =
        let n = n0 + p.taken in
        let holds : held ≡ t.held ++ new_pieces (rv32 input) t.kind t.start t.own n = ran-holds input t limit n0 s u held p starts ran in
        record {
          is = ap (λ (ps : List Piece). record { kind = t.kind; start = t.start; own = t.own + n; held = ps }) holds;
          runs = record {
            began = runs.began;
            at = ran-at input t limit n0 s u held p starts ran;
            place = place;
            last = last-one;
            held = (
              runs.held.0,
              ap (λ (ps : List Piece). runs.held.0 ++ ps) holds ∙ sym (append_assoc runs.held.0 t.held (new_pieces (rv32 input) t.kind t.start t.own n))
                  ∙ ap (λ (ps : List Piece). ps ++ new_pieces (rv32 input) t.kind t.start t.own n) runs.held.1 ∙ sym (new_pieces-more input t.kind t.start t.own n),
            );
          };
          budget = refl;
        }

  -- no instruction
  pub ran-none : (t : TrackView) → RunsOver input t → RanOn input t t 0
  ran-none t runs =
      let same : t.own ≡ t.own + 0 = omega arith in
      record {
        is = ap₂ (λ (n : ℕ) (ps : List Piece). record { kind = t.kind; start = t.start; own = n; held = ps }) same (sym (ap (λ ps. t.held ++ ps) (new_pieces-none input t.kind t.start t.own) ∙ append-nil t.held));
        runs = runs;
        budget = refl;
      }

  -- the test of `rests_after` where the track stands
  pub now-at : (t : TrackView) → RunsOver input t → rests_after input t 0 ≡ rests_of input t.kind t.budget (t.own + 0) (record { state = t.state; end = t.end }) t.held
  now-at t runs =
      let same : t.own + 0 ≡ t.own = omega arith in
      rests-at input t 0 (record { state = t.state; end = t.end }) t.held (ap (point (rv32 input) t.kind t.start) same ∙ runs.at) (ap (λ ps. t.held ++ ps) (new_pieces-none input t.kind t.start t.own) ∙ append-nil t.held)
