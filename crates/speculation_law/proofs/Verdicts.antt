-- The judge's answer is the verdict wherever what it sees is true.
use Rattle.std.proofs.Common.{◌≡◌, ℕ, zero, suc, ◌+◌, ◌-◌, ◌<◌, ◌≤◌, Bool, true, false, if◌then◌else◌, Option, Some, None, nat_lt, nat_le, refl, sym, ap, ap₂, ◌∙◌, inl, inr, lt-ltb, le-ltb, le-leb, ltb-false, arith}
use Rattle.std.proofs.lemmas.Bool.{cases_lt, lt-leb}
use Rattle.speculation.specs.declared.tracks.Kind.{Kind}
use Rattle.speculation.specs.declared.tracks.Kind.TheVariants.{Normal, Fast}
use Rattle.speculation.specs.Machine.{Machine}
use Rattle.speculation.specs.Run.{Point, fresh, go, tick, taken}
use Rattle.speculation.specs.Tracks.{point, meets, boundary, first_from, fast_count}
use Rattle.speculation.specs.Verdicts.{Stopped, Late, Judged, compared, unclosed, verdict_of, verdict, Seen, Running, Ended, Met, judge}
use Rattle.speculation.proofs.Runs.{go-stays, taken-stays}
use Rattle.speculation_law.specs.Facts.{Unstopped, Closes}
use Rattle.speculation_law.specs.Sees.{Sees}
use Rattle.speculation_law.proofs.Least.{first-some, first-none}

module _ {S E D : Type 0} (m : Machine S E D) where
  meets-ended : (kind : Kind) (own : ℕ) (s : S) (o : Option E) (e : E) → o ≡ Some e → meets m kind own s o ≡ false
  meets-ended kind own s (Some x) e h = refl
  meets-ended kind own s None e h = absurd (cc)

  -- a track that has ended stands at no boundary
  pub boundary-ended : (kind : Kind) (s : S) (k : ℕ) (e : E) → (point m kind s k).end ≡ Some e → boundary m kind s k ≡ false
  boundary-ended kind s k e h = meets-ended kind k (point m kind s k).state (point m kind s k).end e h

  meets-going : (kind : Kind) (own : ℕ) (s : S) (o : Option E) → meets m kind own s o ≡ true → o ≡ None
  meets-going kind own s (Some x) h = absurd (cc)
  meets-going kind own s None h = refl

  -- a track at its boundary has met no end
  pub boundary-going : (kind : Kind) (s : S) (k : ℕ) → boundary m kind s k ≡ true → (point m kind s k).end ≡ None
  boundary-going kind s k h = meets-going kind k (point m kind s k).state (point m kind s k).end h

  -- a version of a region closes it after at least one instruction
  pub boundary-pos : (s : S) (k : ℕ) → boundary m Fast s k ≡ true → 0 < k
  boundary-pos s zero h = absurd (cc)
  boundary-pos s (suc k) h = omega arith

  -- an end that a fast version met stays
  pub point-stays : (s : S) (k i : ℕ) (e : E) → k ≤ i → (point m Fast s k).end ≡ Some e → point m Fast s i ≡ point m Fast s k
  point-stays s zero i e le h = absurd (cc)
  point-stays s (suc k) zero e le h = absurd (omega arith)
  point-stays s (suc k) (suc i) e le h =
      let rest = i - k in let whole : i ≡ k + rest = omega arith in
      ap (go m (fresh (m.answer_one s))) whole ∙ go-stays m (fresh (m.answer_one s)) k rest e h

  -- as long as no end was met before, all instructions are taken
  pub taken-all : (p : Point S E) (n : ℕ) → ((k : ℕ) → k < n → (go m p k).end ≡ None) → taken m p n ≡ n
  unfolding taken
  taken-all p zero h = refl
  taken-all p (suc n) h = ap (λ o. tick o (taken m p n)) (h n (omega arith)) ∙ ap suc (taken-all p n (λ k less. h k (omega arith)))

  fast_count-ended : (s : S) (k n : ℕ) (e : E) → k ≤ n → Unstopped m Fast s k → (point m Fast s k).end ≡ Some e → fast_count m s n ≡ k
  fast_count-ended s zero n e le least h = absurd (cc)
  fast_count-ended s (suc k) zero e le least h = absurd (omega arith)
  fast_count-ended s (suc k) (suc n) e le least h =
      let p : Point S E = fresh (m.answer_one s) in
      let rest = n - k in let whole : n ≡ k + rest = omega arith in
      ap suc (ap (taken m p) whole ∙ taken-stays m p k rest e h ∙ taken-all p k (λ j less. (least.at (suc j) (omega arith)).going))

  first-met : (s : S) (n k : ℕ) → Closes m s k → k ≤ n → first_from (boundary m Fast s) 1 n ≡ Some k
  first-met s n k closes le =
      first-some (boundary m Fast s) 1 n k (boundary-pos s k closes.here) (omega arith) closes.here (λ i low high. (closes.least.at i high).inside)

  first-unmet : (s : S) (n k : ℕ) → n < k → Unstopped m Fast s k → first_from (boundary m Fast s) 1 n ≡ None
  first-unmet s n k less least = first-none (boundary m Fast s) 1 n (λ i low high. (least.at i (omega arith)).inside)

  inside-ended : (s : S) (k : ℕ) (e : E) → Unstopped m Fast s k → (point m Fast s k).end ≡ Some e → (i : ℕ) → boundary m Fast s i ≡ false
  inside-ended s k e least h i = elim (cases_lt i k) [
    | inl less ↦ (least.at i less).inside
    | inr more ↦ boundary-ended Fast s i e (ap (λ (q : Point S E). q.end) (point-stays s k i e more h) ∙ h)
  ]

  -- the verdict is Late where the fast version met nothing within the original's count
  pub verdict-late : (s : S) (n k : ℕ) → n < k → Unstopped m Fast s k → verdict m s n ≡ record { verdict = Late; fast = n }
  unfolding verdict
  verdict-late s n k less least =
      ap (verdict_of m s n) (first-unmet s n k less least) ∙ ap (unclosed n (fast_count m s n)) (least.at n less).going

  pub verdict-met : (s : S) (n k : ℕ) → Closes m s k → k ≤ n → verdict m s n ≡ compared k (m.difference (point m Normal s n).state (point m Fast s k).state)
  unfolding verdict
  verdict-met s n k closes le = ap (verdict_of m s n) (first-met s n k closes le)

  pub verdict-stopped : (s : S) (n k : ℕ) (e : E) → Unstopped m Fast s k → (point m Fast s k).end ≡ Some e → k ≤ n → verdict m s n ≡ record { verdict = Stopped; fast = k }
  unfolding verdict
  verdict-stopped s n k e least h le =
      ap (verdict_of m s n) (first-none (boundary m Fast s) 1 n (λ i low high. inside-ended s k e least h i))
      ∙ ap₂ (λ j o. unclosed {E = E} {D = D} n j o) (fast_count-ended s k n e le least h) (ap (λ (q : Point S E). q.end) (point-stays s k n e le h) ∙ h)

  -- what the judge's answer is by each test

  judged-running : (n k : ℕ) (t : Bool) (j : Judged D) → nat_lt k n ≡ t → (if t then None else Some (record { verdict = Late; fast = n })) ≡ Some j → (n ≤ k) × (record { verdict = Late; fast = n } ≡ j)
  judged-running n k true j is h = absurd (cc)
  judged-running n k false j is h = (ltb-false k n is, cc)

  judged-ended : (s : S) (n k : ℕ) (e : E) (j : Judged D) → Unstopped m Fast s k → (point m Fast s k).end ≡ Some e → judge n (Ended k) ≡ Some j → j ≡ verdict m s n
  judged-ended s n k e j least h answer = elim (cases_lt n k) [
    | inl less ↦ (let test : nat_le k n ≡ false = lt-leb k n less in
        let late : judge {D = D} n (Ended k) ≡ Some (record { verdict = Late; fast = n }) = ap (λ t. if t then Some (record { verdict = Stopped; fast = k }) else Some (record { verdict = Late; fast = n })) test in
        let is : verdict m s n ≡ record { verdict = Late; fast = n } = verdict-late s n k less least in cc)
    | inr more ↦ (let test : nat_le k n ≡ true = le-leb k n more in
        let stopped : judge {D = D} n (Ended k) ≡ Some (record { verdict = Stopped; fast = k }) = ap (λ t. if t then Some (record { verdict = Stopped; fast = k }) else Some (record { verdict = Late; fast = n })) test in
        let is : verdict m s n ≡ record { verdict = Stopped; fast = k } = verdict-stopped s n k e least h more in cc)
  ]

  judged-met : (s : S) (n k : ℕ) (d : Option D) (j : Judged D) → Closes m s k → d ≡ m.difference (point m Normal s n).state (point m Fast s k).state
      → judge n (Met k d) ≡ Some j → j ≡ verdict m s n
  judged-met s n k d j closes same answer = elim (cases_lt n k) [
    | inl less ↦ (let test : nat_lt n k ≡ true = lt-ltb n k less in
        let late : judge n (Met k d) ≡ Some (record { verdict = Late; fast = n }) = ap (λ t. if t then Some (record { verdict = Late; fast = n }) else Some (compared k d)) test in
        let is : verdict m s n ≡ record { verdict = Late; fast = n } = verdict-late s n k less closes.least in cc)
    | inr more ↦ (let test : nat_lt n k ≡ false = le-ltb n k more in
        let met : judge n (Met k d) ≡ Some (compared k d) = ap (λ t. if t then Some (record { verdict = Late; fast = n }) else Some (compared k d)) test in
        let is : verdict m s n ≡ compared k d = verdict-met s n k closes more ∙ ap (compared k) (sym same) in cc)
  ]

  -- the judge's answer is the verdict
  pub judge-verdict : (s : S) (n : ℕ) (x : Seen D) (j : Judged D) → Sees m s n x → judge n x ≡ Some j → j ≡ verdict m s n
  judge-verdict s n (Running k) j sees answer =
      let known = judged-running n k (nat_lt k n) j refl answer in
      sym known.1 ∙ sym (verdict-late s n (suc k) (omega (arith, known.0)) sees)
  judge-verdict s n (Ended k) j sees answer = judged-ended s n k sees.1.0 j sees.0 sees.1.1 answer
  judge-verdict s n (Met k d) j sees answer = judged-met s n k d j sees.0 sees.1 answer
