-- The program from a segment's start, or from an opening call, up to the end of its next region
use Rattle.std.proofs.Common.{◌≡◌, ◌≢◌, ℕ, zero, suc, ◌+◌, ◌-◌, ◌<◌, ◌≤◌, true, List, [], ◌∷◌, Option, Some, None, nat_eq, refl, sym, ap, ap₂, ◌∙◌, subst, inl, inr, arith}
use Rattle.std.proofs.lemmas.Bool.{cases_lt, false≢true}
use Rattle.speculation.specs.declared.tracks.Kind.{Kind}
use Rattle.speculation.specs.declared.tracks.Kind.TheVariants.{Normal, Fast, Segment}
use Rattle.speculation.specs.Machine.{Machine}
use Rattle.speculation.specs.Run.{Point, fresh, go, taken}
use Rattle.speculation.specs.Tracks.{point, boundary}
use Rattle.speculation.specs.Ledger.{row_at, ledger_from}
use Rattle.speculation.specs.Verdicts.{Judged, Seen, judge}
use Rattle.speculation_law.specs.Sees.{Sees}
use Rattle.guest_model.specs.declared.difference.Difference.{Difference}
use Rattle.region_ledger.specs.declared.verdict.Verdict.{Verdict}
use Rattle.track_state.specs.Kept.{StartsAtCall}
use Rattle.speculation_law.specs.Facts.{NoStop, Unstopped}
use Rattle.speculation_law.proofs.Verdicts.{boundary-going, judge-verdict}
use Rattle.speculation_law.proofs.Walks.{ledger_from-unclosed, ledger_from-region, ledger_from-segment, ledger_from-segment_ends, ledger_from-segment_spent}
use Rattle.speculation.proofs.Runs.{taken-going}
use Rattle.guest_model.specs.MachineState.{MachineState}
use Rattle.guest_model.specs.Step.{at_fast}
use Rattle.guest_model.specs.Rv32.{rv32}
use Rattle.guest_model.specs.declared.end.End.{End}
use Rattle.guest_model.specs.declared.end.End.TheVariants as E
use Rattle.rv32_law.specs.GuestStates.{IsGuestState}
use Rattle.rv32_law.proofs.Reached.{IsOwnEnd, point-own_end, point-keeps}
use Rattle.track_state.specs.Views.{TrackView, view_of, begun, is_at_boundary, stop_by}
use Rattle.track_state.specs.Transitions.{IsAtBoundary}
use Rattle.region_ledger.specs.Ledger.{core_end, core_finished, judged, ledger_row}
use Rattle.region_ledger.specs.declared.row.Row.{Row}
use Rattle.region_ledger.specs.declared.finished.Finished.{Finished}
use Rattle.region_trial.specs.declared.running.Reached.{Reached}
use Rattle.region_trial.specs.declared.running.Reached.TheVariants.{Boundary, Ended, Limit}
use Rattle.region_trial.specs.declared.region.Step.{Step}
use Rattle.region_trial.specs.declared.region.Step.TheVariants as S
use Rattle.region_trial.specs.Reached.{IsUnderWay, RunsOn, StandsAt, IsClosed}
use Rattle.region_trial.specs.Finished.{finished_at}
use Rattle.region_trial.specs.Regions.{Finishes, IsTried, Passes, Steps}
use Rattle.region_trial.proofs.OnReach.{boundary-is, end-is}
use Rattle.region_trial.proofs.OnLedgers.{Going, end-later, taken-ended, then-go, then-taken, never-ended, never-spent}

normal-is : (k : Kind) → k ≡ Normal → k ≢ Segment
normal-is Normal h = λ e. cc
normal-is Fast h = λ e. cc
normal-is Segment h = λ e. cc

-- an original starts at the call that opens its region
pub call-at : (kind : Kind) (s : MachineState) → kind ≡ Normal → StartsAtCall kind s → at_fast s ≡ true
call-at kind s is h = h (normal-is kind is)

-- one instruction more without a stop
pub unstopped-suc : {S E D : Type 0} (m : Machine S E D) (kind : Kind) (s : S) (n : ℕ) → Unstopped m kind s n → NoStop m kind s n → Unstopped m kind s (suc n)
unstopped-suc m kind s n least here = record {
  at = λ k l. elim (cases_lt k n) [
    | inl before ↦ least.at k before
    | inr behind ↦ let same : n ≡ k = omega arith in subst (λ i. NoStop m kind s i) same here
  ];
}

core_end-own : (e : End) → e ≢ E.Spent → core_end e ≡ Some e
core_end-own (E.Exit code) h = refl
core_end-own (E.Trap trap pc) h = refl
core_end-own E.Spent h = absurd (h refl)

own_end : (o : Option End) (e : End) → o ≡ Some e → IsOwnEnd o → e ≢ E.Spent
own_end None e is h = absurd (cc)
own_end (Some x) e is h = λ spent. h (cc)

module _ (input : List ℕ) where
  -- a plain track: an original, or a segment
  pub record IsPlain (kind : Kind) (s : MachineState) : Type 0 where
    pub runs : (n : ℕ) → point (rv32 input) kind s n ≡ go (rv32 input) (fresh s) n

  pub normal-plain : (s : MachineState) → IsPlain Normal s
  normal-plain s = record { runs = λ n. refl }

  pub segment-plain : (s : MachineState) → IsPlain Segment s
  segment-plain s = record { runs = λ n. refl }

  module _ (t : TrackView) (plain : IsPlain t.kind t.start) (left : ℕ) (way : IsUnderWay input t left) where
    pub end-at : (go (rv32 input) (fresh t.start) t.own).end ≡ t.end
    end-at = ap (λ (p : Point MachineState End). p.end) (sym (plain.runs t.own)) ∙ end-is input t way.runs

    -- where it stands at its boundary
    pub plain-here : boundary (rv32 input) t.kind t.start t.own ≡ true → go (rv32 input) (fresh t.start) t.own ≡ fresh t.state
    plain-here closed =
        let none : t.end ≡ None = sym (end-is input t way.runs) ∙ boundary-going (rv32 input) t.kind t.start t.own closed in
        sym (plain.runs t.own) ∙ way.runs.at ∙ ap (λ (o : Option End). record { state = t.state; end = o }) none

    going : Going (rv32 input) t.start t.own
    going = record { at = λ k l. ap (λ (p : Point MachineState End). p.end) (sym (plain.runs k)) ∙ (way.least.at k l).going }

    going-here : NoStop (rv32 input) t.kind t.start t.own → (go (rv32 input) (fresh t.start) t.own).end ≡ None
    going-here h = ap (λ (p : Point MachineState End). p.end) (sym (plain.runs t.own)) ∙ h.going

    finished-ended : (e : End) (at : ℕ) → t.end ≡ Some e → core_finished (record { end = e; count = at + t.own }) ≡ record { end = (go (rv32 input) (fresh t.start) left).end; count = at + taken (rv32 input) (fresh t.start) left }
    finished-ended e at ended =
        let met : (go (rv32 input) (fresh t.start) t.own).end ≡ Some e = end-at ∙ ended in
        let own : e ≢ E.Spent = own_end (point (rv32 input) t.kind t.start t.own).end e (end-is input t way.runs ∙ ended) (point-own_end input t.kind t.start t.own way.start) in
        ap₂ (λ (o : Option End) (n : ℕ). record { end = o; count = n })
        (core_end-own e own ∙ sym (end-later (rv32 input) t.start t.own left e met way.within))
        (ap (λ n. at + n) (sym (taken-ended (rv32 input) t.start t.own left e going met way.within)))

    finished-spent : (at : ℕ) → t.own ≡ left → NoStop (rv32 input) t.kind t.start t.own → core_finished (record { end = E.Spent; count = at + t.own }) ≡ record { end = (go (rv32 input) (fresh t.start) left).end; count = at + taken (rv32 input) (fresh t.start) left }
    finished-spent at same here =
        let none : (go (rv32 input) (fresh t.start) left).end ≡ None = ap (λ n. (go (rv32 input) (fresh t.start) n).end) (sym same) ∙ going-here here in
        ap₂ (λ (o : Option End) (n : ℕ). record { end = o; count = n }) (sym none) (omega (arith, same, taken-going (rv32 input) (fresh t.start) left none))

    -- the track has come to the end of the program, or taken all that is left
    pub finishes-by : (r : Reached) (at number : ℕ) (f : Finished) → StandsAt input t left r → finished_at r (at + t.own) ≡ Some f
        → ((e : End) → t.end ≡ Some e → ledger_from (rv32 input) left t.start number at ≡ []) → (t.own ≡ left → NoStop (rv32 input) t.kind t.start t.own → ledger_from (rv32 input) left t.start number at ≡ [])
        → Finishes input t.start at left number f
    finishes-by Boundary at number f stands is ended spent = absurd (cc)
    finishes-by (Ended e) at number f stands is ended spent = record {
      rows = ended e stands;
      finished = ap core_finished (let same : f ≡ record { end = e; count = at + t.own } = cc in same) ∙ finished-ended e at stands;
    }
    finishes-by Limit at number f stands is ended spent = record {
      rows = spent stands.0 stands.1;
      finished = ap core_finished (let same : f ≡ record { end = E.Spent; count = at + t.own } = cc in same) ∙ finished-spent at stands.0 stands.1;
    }

  pub way-guest : (t : TrackView) (limit : ℕ) → IsUnderWay input t limit → IsGuestState input t.state
  way-guest t limit way = subst (λ (p : Point MachineState End). IsGuestState input p.state) way.runs.at (point-keeps input t.kind t.start t.own way.start).state

  -- where it doesn't finish, it stands at its boundary
  pub stands-boundary : (t : TrackView) (limit count : ℕ) (r : Reached) → StandsAt input t limit r → finished_at r count ≡ None → boundary (rv32 input) t.kind t.start t.own ≡ true
  stands-boundary t limit count Boundary stands none = stands
  stands-boundary t limit count (Ended e) stands none = absurd (cc)
  stands-boundary t limit count Limit stands none = absurd (cc)

  -- a fast version that took as many instructions as its original and met nothing
  pub fast-running : (t : TrackView) (s : MachineState) (limit n : ℕ) → t.kind ≡ Fast → t.start ≡ s → n ≡ t.own → IsUnderWay input t limit → NoStop (rv32 input) t.kind t.start t.own → Unstopped (rv32 input) Fast s (suc n)
  fast-running t s limit n kind start own way here =
      subst (λ k. Unstopped (rv32 input) Fast s (suc k)) (sym own)
      (subst (λ x. Unstopped (rv32 input) Fast x (suc t.own)) start
      (subst (λ k. Unstopped (rv32 input) k t.start (suc t.own)) kind (unstopped-suc (rv32 input) t.kind t.start t.own way.least here)))

  -- the row by the judge's answer
  pub row-is : (s : MachineState) (number at pc n k : ℕ) (v : Verdict) (x : Seen Difference) → Sees (rv32 input) s n x → Some (judged (v, k)) ≡ judge n x → pc ≡ s.regs.pc
      → ledger_row (record { number = number; at = at; pc = pc; original = n; fast = k; verdict = v }) ≡ row_at (rv32 input) s number at n
  row-is s number at pc n k v x sees answer place =
      ap₂ (λ (q : ℕ) (j : Judged Difference). record { number = number; at = at; pc = q; original = n; judged = j }) place
      (judge-verdict (rv32 input) s n x (judged (v, k)) sees (sym answer))

  -- ---- a segment

  pub segment-finishes : (t : TrackView) (r : Reached) (at left number : ℕ) (f : Finished) → t.kind ≡ Segment → IsUnderWay input t left → StandsAt input t left r → finished_at r (at + t.own) ≡ Some f → Finishes input t.start at left number f
  segment-finishes t r at left number f kind way stands is =
      let plain : IsPlain t.kind t.start = subst (λ k. IsPlain k t.start) (sym kind) (segment-plain t.start) in
      let least : Unstopped (rv32 input) Segment t.start t.own = subst (λ k. Unstopped (rv32 input) k t.start t.own) kind way.least in
      finishes-by t plain left way r at number f stands is
      (λ e ended. ledger_from-segment_ends (rv32 input) t.own left t.start number at e least (end-at t plain left way ∙ ended))
      (λ same here. ledger_from-segment_spent (rv32 input) t.own left t.start number at (omega (arith, same)) least
      (ap (λ n. (go (rv32 input) (fresh t.start) n).end) (sym same) ∙ going-here t plain left way here))

  -- ---- an original

  pub original-finishes : (t : TrackView) (r : Reached) (at left number : ℕ) (f : Finished) → t.kind ≡ Normal → at_fast t.start ≡ true → IsUnderWay input t left → StandsAt input t left r → finished_at r (at + t.own) ≡ Some f
      → Finishes input t.start at left number f
  original-finishes t r at left number f kind call way stands is =
      let plain : IsPlain t.kind t.start = subst (λ k. IsPlain k t.start) (sym kind) (normal-plain t.start) in
      let least : Unstopped (rv32 input) Normal t.start t.own = subst (λ k. Unstopped (rv32 input) k t.start t.own) kind way.least in
      finishes-by t plain left way r at number f stands is
      (λ e ended. ledger_from-unclosed (rv32 input) left t.start number at call (λ i low high. never-ended (rv32 input) t.start t.own left i e least (end-at t plain left way ∙ ended) high))
      (λ same here. ledger_from-unclosed (rv32 input) left t.start number at call (λ i low high.
      never-spent (rv32 input) t.start left i (subst (λ n. Unstopped (rv32 input) Normal t.start n) same least)
      (subst (λ n. NoStop (rv32 input) Normal t.start n) same (subst (λ k. NoStop (rv32 input) k t.start t.own) kind here)) high))

  boundary-some : (s : MachineState) (n : ℕ) → boundary (rv32 input) Normal s n ≡ true → 0 < n
  unfolding go
  boundary-some s zero h = absurd (false≢true h)
  boundary-some s (suc n) h = omega arith

  -- ---- an original that closed its region

  module _ (o : TrackView) (h : IsClosed input o) where
    pub closed-own : 0 < o.own
    closed-own = boundary-some o.start o.own h.here

    -- where it stands
    pub closed-here : go (rv32 input) (fresh o.start) o.own ≡ fresh o.state
    closed-here =
        let none : o.end ≡ None = sym (end-is input o h.runs) ∙ ap (λ k. (point (rv32 input) k o.start o.own).end) h.kind ∙ boundary-going (rv32 input) Normal o.start o.own h.here in
        ap (λ k. point (rv32 input) k o.start o.own) (sym h.kind) ∙ h.runs.at ∙ ap (λ (e : Option End). record { state = o.state; end = e }) none

    pub closed-guest : IsGuestState input o.state
    closed-guest = subst (λ (p : Point MachineState End). IsGuestState input p.state) h.runs.at (point-keeps input o.kind o.start o.own h.start).state

  pub way-closed : (t : TrackView) (left : ℕ) → t.kind ≡ Normal → IsUnderWay input t left → boundary (rv32 input) t.kind t.start t.own ≡ true → IsClosed input t
  way-closed t left kind way here = record {
    kind = kind;
    start = way.start;
    runs = way.runs;
    least = subst (λ k. Unstopped (rv32 input) k t.start t.own) kind way.least;
    here = subst (λ k. boundary (rv32 input) k t.start t.own ≡ true) kind here;
    within = omega (arith, way.within, way.budget);
  }

  pub closed-stop : (t : TrackView) → IsClosed input t → IsAtBoundary Normal t
  closed-stop t h =
      let here : is_at_boundary t ≡ true = boundary-is input t h.runs ∙ ap (λ k. boundary (rv32 input) k t.start t.own) h.kind ∙ h.here in
      record { kind = h.kind; stop = ap (λ b. stop_by b t.end (nat_eq t.own t.budget)) here }

  -- its fast version, run on
  pub tried-is : (o x f : TrackView) → x ≡ begun Fast o.start o.budget → RunsOn input x f o.own → IsTried input o f
  tried-is o x f began ran = record {
    kind = ran.kind ∙ ap (λ v. v.kind) began;
    start = ran.start ∙ ap (λ v. v.start) began;
    budget = ran.budget ∙ ap (λ v. v.budget) began;
    way = ran.way;
  }

  at-once : (s : MachineState) → go (rv32 input) (fresh s) 0 ≡ fresh s
  unfolding go
  at-once s = refl

  -- this is its row
  pub original-passes : (o f : TrackView) (at left number : ℕ) (row : Row) → at_fast o.start ≡ true → IsClosed input o → o.own ≤ left → ledger_row row ≡ row_at (rv32 input) o.start number at o.own → IsTried input o f
      → Passes input o.start at left number row o f o.budget
  original-passes o f at left number row call closed within is tried =
      let start : row.at ≡ at + 0 = omega (arith, ap (λ r. r.at) is) in
      let count : o.own ≡ row.original = sym (ap (λ r. r.original) is) in
      let behind : at + o.own ≡ row.at + row.original = omega (arith, start, count) in
      let rest : left - o.own ≡ left - (0 + row.original) = omega (arith, count) in
      record {
        before = 0;
        opens = start;
        there = at-once o.start;
        original = closed;
        closes = closed-stop o closed;
        count = count;
        within = omega (arith, within, count);
        budget_is = refl;
        fast = tried;
        rows =
            ledger_from-region (rv32 input) left o.start number at o.own call (closed-own o closed) within closed.least closed.here
            ∙ ap₂ (λ r (p : Point MachineState End). r ∷ ledger_from (rv32 input) (left - o.own) p.state (suc number) (at + o.own)) (sym is) (closed-here o closed)
            ∙ ap₂ (λ l a. ledger_row row ∷ ledger_from (rv32 input) l o.state (suc number) a) rest behind;
      }

  -- ---- what follows a segment

  module _ (s t : MachineState) (own at left number : ℕ) (here : go (rv32 input) (fresh s) own ≡ fresh t) (least : Unstopped (rv32 input) Segment s own) (within : own ≤ left) where
    rows-then : ledger_from (rv32 input) left s number at ≡ ledger_from (rv32 input) (left - own) t number (at + own)
    rows-then =
        ledger_from-segment (rv32 input) own left s number at least (ap (λ (p : Point MachineState End). p.end) here)
        ∙ ap (λ (p : Point MachineState End). ledger_from (rv32 input) (left - own) p.state number (at + own)) here

    finishes-then : (f : Finished) → Finishes input t (at + own) (left - own) number f → Finishes input s at left number f
    finishes-then f h =
        let whole : own + (left - own) ≡ left = omega arith in
        record {
          rows = rows-then ∙ h.rows;
          finished =
              h.finished
              ∙ ap₂ (λ (o : Option End) (n : ℕ). record { end = o; count = n })
              (ap (λ (p : Point MachineState End). p.end) (sym (then-go (rv32 input) s t own here (left - own))) ∙ ap (λ n. (go (rv32 input) (fresh s) n).end) whole)
              (omega (arith, then-taken (rv32 input) s t own here (left - own), ap (taken (rv32 input) (fresh s)) whole));
        }

    passes-then : (row : Row) (o f : TrackView) (budget : ℕ) → Passes input t (at + own) (left - own) number row o f budget → Passes input s at left number row o f budget
    passes-then row o f budget h =
        let less : left - own - (h.before + row.original) ≡ left - (own + h.before + row.original) = omega arith in
        record {
          before = own + h.before;
          opens = omega (arith, h.opens);
          there = then-go (rv32 input) s t own here h.before ∙ h.there;
          original = h.original;
          closes = h.closes;
          count = h.count;
          within = omega (arith, h.within, within);
          budget_is = h.budget_is;
          fast = h.fast;
          rows = rows-then ∙ h.rows ∙ ap (λ l. ledger_row row ∷ ledger_from (rv32 input) l o.state (suc number) (row.at + row.original)) less;
        }

    pub steps-then : (step : Step) (budget : ℕ) → Steps input t (at + own) (left - own) number step budget → Steps input s at left number step budget
    steps-then (S.Region r) budget h = passes-then r.row (view_of r.original) (view_of r.fast) budget h
    steps-then (S.Finished f) budget h = finishes-then f h

  -- a segment that came to an opening call, and what follows it
  pub segment-steps : (t : TrackView) (at left number : ℕ) (step : Step) (budget : ℕ) → t.kind ≡ Segment → IsUnderWay input t left → boundary (rv32 input) t.kind t.start t.own ≡ true
      → Steps input t.state (at + t.own) (left - t.own) number step budget → Steps input t.start at left number step budget
  segment-steps t at left number step budget kind way here =
      steps-then t.start t.state t.own at left number
      (plain-here t (subst (λ k. IsPlain k t.start) (sym kind) (segment-plain t.start)) left way here)
      (subst (λ k. Unstopped (rv32 input) k t.start t.own) kind way.least) way.within step budget
