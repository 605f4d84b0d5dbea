-- Tracks that are run on within a limit
use Rattle.std.proofs.Common.{◌≡◌, ◌≢◌, ℕ, zero, suc, ◌+◌, ◌-◌, ◌<◌, ◌≤◌, Bool, true, false, cond, ◌||◌, List, [], ◌∷◌, ◌++◌, Option, Some, None, is_some, unwrap_or, nat_eq, nat_le, refl, sym, ap, ap₂, ◌∙◌, subst, inl, inr, append-nil, arith}
use Rattle.std.proofs.lemmas.Bool.{cases_lt, le-leb, lt-leb, ne_eqb, or_parts, false≢true}
use Rattle.speculation.specs.declared.tracks.Kind.{Kind}
use Rattle.speculation.specs.declared.tracks.Kind.TheVariants.{Normal, Fast, Segment}
use Rattle.speculation.specs.Run.{Point, Piece, fresh, go, pieces}
use Rattle.speculation.specs.Tracks.{point, meets, boundary, first_from}
use Rattle.speculation.specs.Core.{Track as CoreTrack, held_size, most_held}
use Rattle.speculation.specs.Events.{new_pieces, run_on, left_over}
use Rattle.speculation_law.specs.Facts.{NoStop, Unstopped}
use Rattle.speculation_law.specs.Sound.{Numbered}
use Rattle.speculation_law.proofs.Least.{first-below, first-at, first-least}
use Rattle.speculation_law.proofs.Pieces.{numbered-pieces}
use Rattle.guest_model.specs.MachineState.{MachineState}
use Rattle.guest_model.specs.Rv32.{rv32}
use Rattle.guest_model.specs.declared.end.End.{End}
use Rattle.rv32_law.specs.GuestStates.{IsGuestState}
use Rattle.track_state.specs.Views.{TrackView, core_track, begun, is_at_boundary}
use Rattle.track_state.specs.Runs.{RunsOver, has_stop_within, rests_after, run_length, RanOn}
use Rattle.region_trial.specs.Reached.{IsUnderWay, RunsOn}

module _ (input : List ℕ) where
  meets-input : (kind : Kind) (own : ℕ) (s : MachineState) (o : Option End) → meets (rv32 []) kind own s o ≡ meets (rv32 input) kind own s o
  meets-input kind own s (Some e) = refl
  meets-input Normal own s None = refl
  meets-input Fast own s None = refl
  meets-input Segment own s None = refl

  pub boundary-is : (t : TrackView) → RunsOver input t → is_at_boundary t ≡ boundary (rv32 input) t.kind t.start t.own
  boundary-is t h = meets-input t.kind t.own t.state t.end ∙ ap (λ (p : Point MachineState End). meets (rv32 input) t.kind t.own p.state p.end) (sym h.at)

  pub end-is : (t : TrackView) → RunsOver input t → (point (rv32 input) t.kind t.start t.own).end ≡ t.end
  end-is t h = ap (λ (p : Point MachineState End). p.end) h.at

  -- ---- a track that begins

  point-first : (kind : Kind) (s : MachineState) → point (rv32 input) kind s 0 ≡ fresh s
  unfolding go
  point-first Normal s = refl
  point-first Fast s = refl
  point-first Segment s = refl

  pieces-first : (kind : Kind) (s : MachineState) → new_pieces (rv32 input) kind s 0 0 ≡ []
  unfolding pieces
  pieces-first Normal s = refl
  pieces-first Fast s = refl
  pieces-first Segment s = refl

  pub way-begun : (kind : Kind) (s : MachineState) (budget limit : ℕ) → IsGuestState input s → limit ≤ budget → IsUnderWay input (begun kind s budget) limit
  way-begun kind s budget limit guest le = record {
    start = guest;
    runs = record {
      began = guest.place;
      at = point-first kind s;
      place = guest.place;
      last = λ e h. absurd (cc);
      held = ([], sym (pieces-first kind s));
    };
    least = record { at = λ k l. absurd (omega arith) };
    within = omega arith;
    budget = le;
    held = refl;
  }

  -- ---- a track that was run on

  not-some : (o : Option End) → is_some o ≡ false → o ≡ None
  not-some None h = refl
  not-some (Some e) h = absurd (cc)

  no_stop-at : (kind : Kind) (s : MachineState) (own i budget : ℕ) (held : List Piece) → has_stop_within input budget (run_on (rv32 input) (record { kind = kind; start = s; own = own; held = held }) i) ≡ false
      → NoStop (rv32 input) kind s (own + i)
  no_stop-at kind s own i budget held h =
      let first = or_parts (boundary (rv32 input) kind s (own + i)) (is_some (point (rv32 input) kind s (own + i)).end || nat_eq (own + i) budget) h in
      let second = or_parts (is_some (point (rv32 input) kind s (own + i)).end) (nat_eq (own + i) budget) first.1 in
      record { going = not-some (point (rv32 input) kind s (own + i)).end second.0; inside = first.0 }

  rests-not : (t : TrackView) (i : ℕ) → rests_after input t i ≡ false → NoStop (rv32 input) t.kind t.start (t.own + i)
  rests-not t i h =
      no_stop-at t.kind t.start t.own i t.budget t.held
      (or_parts (has_stop_within input t.budget (run_on (rv32 input) (core_track t) i)) (nat_le most_held (held_size (run_on (rv32 input) (core_track t) i).held)) h).0

  or-false : (b c : Bool) → b ≡ false → c ≡ false → b || c ≡ false
  or-false true c h k = absurd (cc)
  or-false false c h k = k

  pieces-none : (kind : Kind) (s : MachineState) (own : ℕ) → new_pieces (rv32 input) kind s own 0 ≡ []
  unfolding pieces
  pieces-none Normal s own = refl
  pieces-none Fast s own = refl
  pieces-none Segment s own = refl

  none-held : (t : TrackView) → t.held ≡ [] → nat_le most_held (held_size (t.held ++ new_pieces (rv32 input) t.kind t.start t.own 0)) ≡ false
  unfolding most_held
  none-held t none = ap₂ (λ (ps qs : List Piece). nat_le most_held (held_size (ps ++ qs))) none (pieces-none t.kind t.start t.own) ∙ lt-leb 1048576 0 (omega arith)

  -- it rests not at once
  goes-on : (t : TrackView) → NoStop (rv32 input) t.kind t.start t.own → t.own ≢ t.budget → t.held ≡ [] → rests_after input t 0 ≡ false
  goes-on t here more none =
      let at : t.own + 0 ≡ t.own = omega arith in
      or-false (has_stop_within input t.budget (run_on (rv32 input) (core_track t) 0)) (nat_le most_held (held_size (run_on (rv32 input) (core_track t) 0).held))
      (or-false (boundary (rv32 input) t.kind t.start (t.own + 0)) (is_some (point (rv32 input) t.kind t.start (t.own + 0)).end || nat_eq (t.own + 0) t.budget)
      (ap (boundary (rv32 input) t.kind t.start) at ∙ here.inside)
      (or-false (is_some (point (rv32 input) t.kind t.start (t.own + 0)).end) (nat_eq (t.own + 0) t.budget)
      (ap (λ k. is_some (point (rv32 input) t.kind t.start k).end) at ∙ ap is_some here.going) (ne_eqb (t.own + 0) t.budget (λ e. more (omega (arith, e))))))
      (none-held t none)

  pub more-taken : (t : TrackView) (k n : ℕ) → 0 < k → rests_after input t 0 ≡ false → n ≡ run_length input t k → 0 < n
  unfolding run_length
  more-taken t k zero some on is =
      let here : unwrap_or (first_from (rests_after input t) 0 k) k ≡ 0 = sym is in
      absurd (false≢true (sym on ∙ ap (rests_after input t) (sym here) ∙ first-at (rests_after input t) k (omega (arith, here))))
  more-taken t k (suc n) some on is = omega arith

  unstopped-more : (t : TrackView) (k n : ℕ) → Unstopped (rv32 input) t.kind t.start t.own → n ≡ run_length input t k → Unstopped (rv32 input) t.kind t.start (t.own + n)
  unfolding run_length
  unstopped-more t k n least is = record {
    at = λ i l. elim (cases_lt i t.own) [
      | inl before ↦ least.at i before
      | inr behind ↦
          let j = i - t.own in
          let at : t.own + j ≡ i = omega arith in
          let rests : rests_after input t j ≡ false = first-below (rests_after input t) k j (omega (arith, is)) in
          subst (λ i. NoStop (rv32 input) t.kind t.start i) at (rests-not t j rests)
    ];
  }

  numbered-new : (kind : Kind) (s : MachineState) (own n : ℕ) → Numbered own (own + n) (new_pieces (rv32 input) kind s own n)
  numbered-new Normal s own n = numbered-pieces (rv32 input) (point (rv32 input) Normal s own) own n
  numbered-new Fast s own n = tt
  numbered-new Segment s own n = numbered-pieces (rv32 input) (point (rv32 input) Segment s own) own n

left_over-none : (low high limit : ℕ) (ps : List Piece) → Numbered low high ps → high ≤ limit → left_over limit ps ≡ []
left_over-none low high limit [] h le = refl
left_over-none low high limit (p ∷ ps) h le =
    let test : nat_le p.number limit ≡ true = le-leb p.number limit (omega (arith, h.1)) in
    ap (λ (t : Bool). cond t (left_over limit ps) (p ∷ left_over limit ps)) test ∙ left_over-none low high limit ps h.2 le

run_length-le : (f : ℕ → Bool) (k : ℕ) (o : Option ℕ) → first_from f 0 k ≡ o → unwrap_or o k ≤ k
run_length-le f k None is = omega arith
run_length-le f k (Some j) is = let least = first-least f 0 k j is in omega (arith, least.high)

module _ (input : List ℕ) where
  -- its output dropped, the track runs over the input as before
  dropped-runs : (y : TrackView) (held : List Piece) → held ≡ [] → RunsOver input y → RunsOver input (record y { held = held })
  dropped-runs y held none h = record {
    began = h.began;
    at = h.at;
    place = h.place;
    last = λ e is. let last = h.last e is in record { before = last.before; count = last.count; going = last.going };
    held = (h.held.0 ++ y.held, ap (λ (ps : List Piece). (h.held.0 ++ y.held) ++ ps) none ∙ append-nil (h.held.0 ++ y.held) ∙ h.held.1);
  }

  -- the track t was run on to y, which has n instructions more
  pub record IsFurther (t y : TrackView) (limit n : ℕ) : Type 0 where
    pub ran : RanOn input t y n
    pub count : n ≡ run_length input t (limit - t.own)

  module _ (t y : TrackView) (limit n : ℕ) (way : IsUnderWay input t limit) (here : NoStop (rv32 input) t.kind t.start t.own) (more : t.own < limit) (h : IsFurther t y limit n) where
    own-is : y.own ≡ t.own + n
    own-is = ap (λ (c : CoreTrack MachineState). c.own) h.ran.is

    at-most : n ≤ limit - t.own
    unfolding run_length
    at-most = omega (arith, h.count, run_length-le (rests_after input t) (limit - t.own) (first_from (rests_after input t) 0 (limit - t.own)) refl)

    held-is : y.held ≡ new_pieces (rv32 input) t.kind t.start t.own n
    held-is = ap (λ (c : CoreTrack MachineState). c.held) h.ran.is ∙ ap (λ (ps : List Piece). ps ++ new_pieces (rv32 input) t.kind t.start t.own n) way.held

    held-none : left_over y.own y.held ≡ []
    held-none = ap₂ left_over own-is held-is ∙ left_over-none t.own (t.own + n) (t.own + n) _ (numbered-new input t.kind t.start t.own n) (omega arith)

    -- the output dropped, it is under way
    pub further : RunsOn input t (record y { held = left_over y.own y.held }) limit
    further = record {
      kind = ap (λ (c : CoreTrack MachineState). c.kind) h.ran.is;
      start = ap (λ (c : CoreTrack MachineState). c.start) h.ran.is;
      budget = h.ran.budget;
      way = record {
        start = subst (λ (c : CoreTrack MachineState). IsGuestState input c.start) (sym h.ran.is) way.start;
        runs = dropped-runs y (left_over y.own y.held) held-none h.ran.runs;
        least = subst (λ (c : CoreTrack MachineState). Unstopped (rv32 input) c.kind c.start c.own) (sym h.ran.is) (unstopped-more input t (limit - t.own) n way.least h.count);
        within = omega (arith, own-is, at-most, way.within);
        budget = omega (arith, way.budget, h.ran.budget);
        held = held-none;
      };
    }

    pub taken-some : t.own < y.own
    taken-some = omega (arith, own-is, more-taken input t (limit - t.own) n (omega arith) (goes-on input t here (λ e. omega (arith, way.budget, e)) way.held) h.count)

-- run on twice
pub RunsOn-then : (input : List ℕ) (x y z : TrackView) (limit : ℕ) → RunsOn input x y limit → RunsOn input y z limit → RunsOn input x z limit
RunsOn-then input x y z limit h k = record { kind = k.kind ∙ h.kind; start = k.start ∙ h.start; budget = k.budget ∙ h.budget; way = k.way }
