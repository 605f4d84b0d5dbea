-- The loops that try both versions of a region of the toy machine.
use Rattle.std.proofs.Common.{◌≡◌, ℕ, zero, suc, ◌+◌, ◌-◌, ◌<◌, ◌≤◌, Bool, true, false, ◌&&◌, List, [], ◌∷◌, Option, Some, None, slice_get, refl, sym, ap, ap₂, ◌∙◌, subst, inl, inr, add-one, lt-ltb, arith}
use Rattle.std.proofs.lemmas.Bool.{cases_lt}
use Rattle.speculation.specs.declared.tracks.Kind.TheVariants.{Normal, Fast}
use Rattle.speculation.specs.declared.toy.Instruction.{Instruction}
use Rattle.speculation.specs.declared.toy.State.{State}
use Rattle.speculation.specs.declared.toy.End.{End}
use Rattle.speculation.specs.declared.toy.Difference.{Difference}
use Rattle.speculation.specs.declared.toy.Written.{Written}
use Rattle.speculation.specs.Machine.{Ends}
use Rattle.speculation.specs.Run.{Point, fresh, go}
use Rattle.speculation.specs.Record.{alone}
use Rattle.speculation.specs.Tracks.{point, meets, boundary, original}
use Rattle.speculation.specs.Verdicts as law
use Rattle.speculation.specs.Verdicts.{compared, verdict}
use Rattle.speculation.specs.Toy.{toy, toy_difference, executed, stepped_by, answered}
use Rattle.speculation.proofs.Runs.{go-next, go-ends, go-stays}
use Rattle.speculation.proofs.Records.{last-alone}
use Rattle.speculation_law.specs.declared.trial.FastEnd.TheVariants.{Closed, Ended, Running}
use Rattle.speculation_law.specs.Facts.{NoStop, Unstopped}
use Rattle.speculation_law.specs.Trial.{Fares}
use Rattle.speculation_law.proofs.Least.{first-some, first-none}
use Rattle.speculation_law.proofs.Verdicts.{boundary-ended, verdict-met, verdict-stopped, verdict-late}

-- where an original stands that met no boundary so far
pub record OriginalAt (program : List Instruction) (start : State) (done : ℕ) (s : State) : Type 0 where
  pub here : go (toy program) (fresh start) done ≡ fresh s
  pub inside : (i : ℕ) → 0 < i → i ≤ done → boundary (toy program) Normal start i ≡ false

-- where a fast version stands that met nothing so far
pub record FastAt (program : List Instruction) (start : State) (done : ℕ) (s : State) : Type 0 where
  pub here : point (toy program) Fast start done ≡ fresh s
  pub least : Unstopped (toy program) Fast start (suc done)

module _ (program : List Instruction) (start : State) where
  next-by : (p : Point State End) (n : ℕ) (s t : State) (w : Option Written) → go (toy program) p n ≡ fresh s → stepped_by t w ≡ executed s (slice_get program s.place) → go (toy program) p (suc n) ≡ fresh t
  next-by p n s t None h step = go-next (toy program) p n s t 1 [] h (sym step)
  next-by p n s t (Some w) h step = go-next (toy program) p n s t w.stream (w.byte ∷ []) h (sym step)

  pub original-first : OriginalAt program start 0 start
  unfolding go
  original-first = record { here = refl; inside = λ i low high. absurd (omega arith) }

  normal-boundary : (n : ℕ) (s : State) (t : Bool) → go (toy program) (fresh start) (suc n) ≡ fresh s → t ≡ (toy program).at_end s → boundary (toy program) Normal start (suc n) ≡ t
  normal-boundary n s t h is =
      ap (λ (q : Point State End). meets (toy program) Normal (suc n) q.state q.end) h ∙ ap (λ u. ◌&&◌ u ((toy program).at_end s)) (lt-ltb 0 (suc n) (omega arith)) ∙ sym is

  pub original-next : (n : ℕ) (s t : State) (w : Option Written) → OriginalAt program start n s → stepped_by t w ≡ executed s (slice_get program s.place) → false ≡ (toy program).at_end t → OriginalAt program start (n + 1) t
  original-next n s t w h step not =
      let moved : go (toy program) (fresh start) (suc n) ≡ fresh t = next-by (fresh start) n s t w h.here step in
      record {
        here = ap (go (toy program) (fresh start)) (add-one n) ∙ moved;
        inside = λ i low high. elim (cases_lt i (suc n)) [
          | inl less ↦ h.inside i low (omega arith)
          | inr more ↦ (let same : suc n ≡ i = omega arith in subst (λ k. boundary (toy program) Normal start k ≡ false) same (normal-boundary n t false moved not))
        ];
      }

  pub original-met : (limit n : ℕ) (s t : State) (w : Option Written) → n < limit → OriginalAt program start n s → stepped_by t w ≡ executed s (slice_get program s.place) → true ≡ (toy program).at_end t
      → Some (n + 1) ≡ original (toy program) start limit
  unfolding original
  original-met limit n s t w less h step is =
      let moved : go (toy program) (fresh start) (suc n) ≡ fresh t = next-by (fresh start) n s t w h.here step in
      sym (first-some (boundary (toy program) Normal start) 1 limit (suc n) (omega arith) (omega arith) (normal-boundary n t true moved is) (λ i low high. h.inside i low (omega arith)) ∙ ap Some (sym (add-one n)))

  pub original-spent : (limit n : ℕ) (s : State) → limit ≤ n → OriginalAt program start n s → None ≡ original (toy program) start limit
  unfolding original
  original-spent limit n s le h = sym (first-none (boundary (toy program) Normal start) 1 limit (λ i low high. h.inside i low (omega arith)))

  pub original-ended : (limit n : ℕ) (s : State) (e : End) → OriginalAt program start n s → Ends e ≡ executed s (slice_get program s.place) → None ≡ original (toy program) start limit
  unfolding original
  original-ended limit n s e h step =
      let ended : go (toy program) (fresh start) (suc n) ≡ record { state = s; end = Some e } = go-ends (toy program) (fresh start) n s e h.here (sym step) in
      let met : (go (toy program) (fresh start) (suc n)).end ≡ Some e = ap (λ (q : Point State End). q.end) ended in
      sym (first-none (boundary (toy program) Normal start) 1 limit (λ i low high. elim (cases_lt i (suc n)) [
        | inl less ↦ h.inside i low (omega arith)
        | inr more ↦ (let rest = i - suc n in let whole : suc n + rest ≡ i = omega arith in
            let stays : (go (toy program) (fresh start) i).end ≡ Some e = ap (λ k. (go (toy program) (fresh start) k).end) (sym whole) ∙ ap (λ (q : Point State End). q.end) (go-stays (toy program) (fresh start) (suc n) rest e met) ∙ met in
            boundary-ended (toy program) Normal start i e stays)
      ]))

  -- The fast version

  fast-boundary : (n : ℕ) (s : State) (t : Bool) → point (toy program) Fast start (suc n) ≡ fresh s → t ≡ (toy program).at_end s → boundary (toy program) Fast start (suc n) ≡ t
  fast-boundary n s t h is =
      ap (λ (q : Point State End). meets (toy program) Fast (suc n) q.state q.end) h ∙ ap (λ u. ◌&&◌ u ((toy program).at_end s)) (lt-ltb 0 (suc n) (omega arith)) ∙ sym is

  fast-more : (n : ℕ) (s : State) → Unstopped (toy program) Fast start n → point (toy program) Fast start n ≡ fresh s → boundary (toy program) Fast start n ≡ false → Unstopped (toy program) Fast start (suc n)
  fast-more n s h here inside = record {
    at = λ i less. elim (cases_lt i n) [
      | inl low ↦ h.at i low
      | inr high ↦ (let same : n ≡ i = omega arith in
          let now : NoStop (toy program) Fast start n = record { going = ap (λ (q : Point State End). q.end) here; inside = inside } in subst (λ k. NoStop (toy program) Fast start k) same now)
    ];
  }

  fast-none : Unstopped (toy program) Fast start 1
  fast-none = record {
    at = λ i less. (let same : 0 ≡ i = omega arith in
        let now : NoStop (toy program) Fast start 0 = record { going = refl; inside = refl } in subst (λ k. NoStop (toy program) Fast start k) same now);
  }

  pub fast-first : (s : State) → s ≡ answered start → false ≡ (toy program).at_end s → FastAt program start 1 s
  unfolding go
  fast-first s is not =
      let here : point (toy program) Fast start 1 ≡ fresh s = ap (λ (x : State). fresh {S = State} {E = End} x) (sym is) in
      record { here = here; least = fast-more 1 s fast-none here (fast-boundary 0 s false here not) }

  pub fast-closed_first : (limit : ℕ) (s : State) → 0 < limit → s ≡ answered start → true ≡ (toy program).at_end s → Fares program start limit (Closed 1 s)
  unfolding go
  fast-closed_first limit s some is ends =
      let here : point (toy program) Fast start 1 ≡ fresh s = ap (λ (x : State). fresh {S = State} {E = End} x) (sym is) in
      (record { least = fast-none; here = fast-boundary 0 s true here ends }, omega arith, is)

  fast-step : (n : ℕ) (s t : State) (w : Option Written) → FastAt program start (suc n) s → stepped_by t w ≡ executed s (slice_get program s.place) → point (toy program) Fast start (suc (suc n)) ≡ fresh t
  fast-step n s t w h step = next-by (fresh (answered start)) n s t w h.here step

  fast-next_by : (n : ℕ) (s t : State) (w : Option Written) → FastAt program start (suc n) s → stepped_by t w ≡ executed s (slice_get program s.place) → false ≡ (toy program).at_end t → FastAt program start (suc n + 1) t
  fast-next_by n s t w h step not =
      let moved : point (toy program) Fast start (suc (suc n)) ≡ fresh t = fast-step n s t w h step in
      subst (λ k. FastAt program start k t) (sym (add-one (suc n)))
      (record { here = moved; least = fast-more (suc (suc n)) t h.least moved (fast-boundary (suc n) t false moved not) })

  pub fast-next : (n : ℕ) (s t : State) (w : Option Written) → 1 ≤ n → FastAt program start n s → stepped_by t w ≡ executed s (slice_get program s.place) → false ≡ (toy program).at_end t → FastAt program start (n + 1) t
  fast-next zero s t w pos h step not = absurd (omega arith)
  fast-next (suc n) s t w pos h step not = fast-next_by n s t w h step not

  pub fast-closed : (limit n : ℕ) (s t : State) (w : Option Written) → 1 ≤ n → n < limit → FastAt program start n s → stepped_by t w ≡ executed s (slice_get program s.place) → true ≡ (toy program).at_end t
      → Fares program start limit (Closed (n + 1) t)
  fast-closed limit zero s t w pos less h step is = absurd (omega arith)
  fast-closed limit (suc n) s t w pos less h step is =
      let moved : point (toy program) Fast start (suc (suc n)) ≡ fresh t = fast-step n s t w h step in
      subst (λ k. Fares program start limit (Closed k t)) (sym (add-one (suc n)))
      (record { least = h.least; here = fast-boundary (suc n) t true moved is }, omega arith, sym (ap (λ (q : Point State End). q.state) moved))

  pub fast-ended : (limit n : ℕ) (s : State) (e : End) → 1 ≤ n → n < limit → FastAt program start n s → Ends e ≡ executed s (slice_get program s.place) → Fares program start limit (Ended (n + 1))
  fast-ended limit zero s e pos less h step = absurd (omega arith)
  fast-ended limit (suc n) s e pos less h step =
      let ended = go-ends (toy program) (fresh (answered start)) n s e h.here (sym step) in
      subst (λ k. Fares program start limit (Ended k)) (sym (add-one (suc n))) (h.least, omega arith, (e, ap (λ (q : Point State End). q.end) ended))

  pub fast-spent : (limit n : ℕ) (s : State) → n ≤ limit → limit ≤ n → FastAt program start n s → Fares program start limit Running
  fast-spent limit n s low high h = (let same : n ≡ limit = omega arith in subst (λ k. Unstopped (toy program) Fast start (suc k)) same h.least)

  -- The verdict

  pub judged-closed : (n k : ℕ) (last t : State) (d : Option Difference) → Fares program start n (Closed k t) → last ≡ (alone (toy program) start n).last → d ≡ toy_difference last t
      → compared k d ≡ verdict (toy program) start n
  judged-closed n k last t d h is differs =
      let same : d ≡ toy_difference (go (toy program) (fresh start) n).state (point (toy program) Fast start k).state
      = differs ∙ ap₂ (λ (x y : State). toy_difference x y) (is ∙ last-alone (toy program) start n) h.2 in
      ap (λ o. compared k o) same ∙ sym (verdict-met (toy program) start n k h.0 h.1)

  pub judged-ended : (n k : ℕ) → Fares program start n (Ended k) → record { verdict = law.Stopped; fast = k } ≡ verdict (toy program) start n
  judged-ended n k h = sym (verdict-stopped (toy program) start n k h.2.0 h.0 h.2.1 h.1)

  pub judged-late : (n : ℕ) → Fares program start n Running → record { verdict = law.Late; fast = n } ≡ verdict (toy program) start n
  judged-late n h = sym (verdict-late (toy program) start n (suc n) (omega arith) h)

pub ruleset original_loop = (original-first, original-next, original-met, original-spent, original-ended)

pub ruleset fast_loop = (fast-first, fast-closed_first, fast-next, fast-closed, fast-ended, fast-spent)

pub ruleset judgements = (judged-closed, judged-ended, judged-late)
