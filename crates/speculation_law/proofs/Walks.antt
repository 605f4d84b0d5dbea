-- The ledger's walk over plain instructions, over a region, and to its stop.
use Rattle.std.proofs.Common.{◌≡◌, ℕ, zero, suc, ◌+◌, ◌-◌, ◌<◌, ◌≤◌, Bool, true, false, List, [], ◌∷◌, Option, Some, None, refl, sym, ap, ap₂, ◌∙◌, add-zero, arith}
use Rattle.speculation.specs.declared.tracks.Kind.TheVariants.{Normal, Segment}
use Rattle.speculation.specs.Machine.{Machine}
use Rattle.speculation.specs.Run.{Point, fresh, go}
use Rattle.speculation.specs.Tracks.{meets, boundary, original}
use Rattle.speculation.specs.Ledger.{Row, row_at, round, walk, ledger_from}
use Rattle.speculation.proofs.Runs.{go-add, going-below}
use Rattle.speculation_law.specs.Facts.{NoStop, Unstopped}
use Rattle.speculation_law.proofs.Least.{first-some, first-none, first-least}
use Rattle.speculation_law.proofs.Verdicts.{boundary-going}

round-plain : {E D : Type 0} (x : Option E) (f : Bool) (o : Option ℕ) (g : ℕ → List (Row D)) (p : List (Row D)) → x ≡ None → f ≡ false → round x f o g p ≡ p
round-plain (Some e) f o g p h k = absurd (cc)
round-plain None true o g p h k = absurd (cc)
round-plain None false o g p h k = refl

round-region : {E D : Type 0} (x : Option E) (f : Bool) (o : Option ℕ) (g : ℕ → List (Row D)) (p : List (Row D)) (n : ℕ) → x ≡ None → f ≡ true → o ≡ Some n → round x f o g p ≡ g n
round-region (Some e) f o g p n h k l = absurd (cc)
round-region None false o g p n h k l = absurd (cc)
round-region None true None g p n h k l = absurd (cc)
round-region None true (Some i) g p n h k l = ap g (cc)

round-ends : {E D : Type 0} (x : Option E) (f : Bool) (o : Option ℕ) (g : ℕ → List (Row D)) (p : List (Row D)) (e : E) → x ≡ Some e → round x f o g p ≡ []
round-ends (Some i) f o g p e h = refl
round-ends None f o g p e h = absurd (cc)

round-unclosed : {E D : Type 0} (x : Option E) (f : Bool) (o : Option ℕ) (g : ℕ → List (Row D)) (p : List (Row D)) → f ≡ true → o ≡ None → round x f o g p ≡ []
round-unclosed (Some e) f o g p h k = refl
round-unclosed None false o g p h k = absurd (cc)
round-unclosed None true (Some n) g p h k = absurd (cc)
round-unclosed None true None g p h k = refl

round-same : {E D : Type 0} (x : Option E) (f : Bool) (o : Option ℕ) (g h : ℕ → List (Row D)) (p q : List (Row D)) → p ≡ q → ((n : ℕ) → o ≡ Some n → g n ≡ h n) → round x f o g p ≡ round x f o h q
round-same (Some e) f o g h p q same each = refl
round-same None false o g h p q same each = same
round-same None true None g h p q same each = refl
round-same None true (Some n) g h p q same each = each n refl

module _ {S E D : Type 0} (m : Machine S E D) where
  -- as many rounds as instructions are left are enough
  walk-more : (r q left : ℕ) (s : S) (number at : ℕ) → left ≤ r → left ≤ q → walk m r left s number at ≡ walk m q left s number at
  unfolding walk original
  walk-more zero zero zero s number at h k = refl
  walk-more zero (suc q) zero s number at h k = refl
  walk-more (suc r) zero zero s number at h k = refl
  walk-more (suc r) (suc q) zero s number at h k = refl
  walk-more zero q (suc l) s number at h k = absurd (omega arith)
  walk-more (suc r) zero (suc l) s number at h k = absurd (omega arith)
  walk-more (suc r) (suc q) (suc l) s number at h k =
      round-same (go m (fresh s) 1).end (m.at_fast s) (original m s (suc l))
      (λ n. row_at m s number at n ∷ walk m r (suc l - n) (go m (fresh s) n).state (suc number) (at + n))
      (λ n. row_at m s number at n ∷ walk m q (suc l - n) (go m (fresh s) n).state (suc number) (at + n))
      (walk m r l (go m (fresh s) 1).state number (suc at)) (walk m q l (go m (fresh s) 1).state number (suc at))
      (walk-more r q l (go m (fresh s) 1).state number (suc at) (omega arith) (omega arith))
      (λ n is. let least = first-least (boundary m Normal s) 1 (suc l) n is in
      ap (λ rows. row_at m s number at n ∷ rows)
      (walk-more r q (suc l - n) (go m (fresh s) n).state (suc number) (at + n) (omega (arith, least.low)) (omega (arith, least.low))))

  -- nothing is left
  pub ledger_from-zero : (s : S) (number at : ℕ) → ledger_from m 0 s number at ≡ []
  unfolding ledger_from walk
  ledger_from-zero s number at = refl

  -- over a plain instruction
  pub ledger_from-plain : (left : ℕ) (s : S) (number at : ℕ) → (go m (fresh s) 1).end ≡ None → m.at_fast s ≡ false
      → ledger_from m left s number at ≡ ledger_from m (left - 1) (go m (fresh s) 1).state number (suc at)
  unfolding ledger_from walk
  ledger_from-plain zero s number at going plain = refl
  ledger_from-plain (suc l) s number at going plain =
      let less : l ≡ suc l - 1 = omega arith in
      round-plain (go m (fresh s) 1).end (m.at_fast s) (original m s (suc l))
      (λ n. row_at m s number at n ∷ walk m l (suc l - n) (go m (fresh s) n).state (suc number) (at + n))
      (walk m l l (go m (fresh s) 1).state number (suc at)) going plain
      ∙ ap (λ k. walk m k k (go m (fresh s) 1).state number (suc at)) less

  -- at an instruction that ends the program
  pub ledger_from-ends : (left : ℕ) (s : S) (number at : ℕ) (e : E) → (go m (fresh s) 1).end ≡ Some e → ledger_from m left s number at ≡ []
  unfolding ledger_from walk
  ledger_from-ends zero s number at e h = refl
  ledger_from-ends (suc l) s number at e h =
      round-ends (go m (fresh s) 1).end (m.at_fast s) (original m s (suc l))
      (λ n. row_at m s number at n ∷ walk m l (suc l - n) (go m (fresh s) n).state (suc number) (at + n))
      (walk m l l (go m (fresh s) 1).state number (suc at)) e h

  -- over a region: n is the original's count
  pub ledger_from-region : (left : ℕ) (s : S) (number at n : ℕ) → m.at_fast s ≡ true → 0 < n → n ≤ left → Unstopped m Normal s n → boundary m Normal s n ≡ true
      → ledger_from m left s number at ≡ row_at m s number at n ∷ ledger_from m (left - n) (go m (fresh s) n).state (suc number) (at + n)
  unfolding ledger_from walk original
  ledger_from-region zero s number at n call pos le least here = absurd (omega arith)
  ledger_from-region (suc l) s number at n call pos le least here =
      let going : (go m (fresh s) 1).end ≡ None = going-below m (fresh s) 1 n (omega arith) (boundary-going m Normal s n here) in
      let count : original m s (suc l) ≡ Some n = first-some (boundary m Normal s) 1 (suc l) n (omega arith) (omega arith) here (λ i low high. (least.at i high).inside) in
      round-region (go m (fresh s) 1).end (m.at_fast s) (original m s (suc l))
      (λ n. row_at m s number at n ∷ walk m l (suc l - n) (go m (fresh s) n).state (suc number) (at + n))
      (walk m l l (go m (fresh s) 1).state number (suc at)) n going call count
      ∙ ap (λ rows. row_at m s number at n ∷ rows) (walk-more l (suc l - n) (suc l - n) (go m (fresh s) n).state (suc number) (at + n) (omega arith) (omega arith))

  -- at a region that doesn't close within what is left
  pub ledger_from-unclosed : (left : ℕ) (s : S) (number at : ℕ) → m.at_fast s ≡ true → ((i : ℕ) → 0 < i → i ≤ left → boundary m Normal s i ≡ false)
      → ledger_from m left s number at ≡ []
  unfolding ledger_from walk original
  ledger_from-unclosed zero s number at call never = refl
  ledger_from-unclosed (suc l) s number at call never =
      round-unclosed (go m (fresh s) 1).end (m.at_fast s) (original m s (suc l))
      (λ n. row_at m s number at n ∷ walk m l (suc l - n) (go m (fresh s) n).state (suc number) (at + n))
      (walk m l l (go m (fresh s) 1).state number (suc at)) call
      (first-none (boundary m Normal s) 1 (suc l) (λ i low high. never i (omega arith) (omega arith)))

  fresh-by : (p : Point S E) (o : Option E) → p.end ≡ o → o ≡ None → p ≡ fresh p.state
  fresh-by p o is none = ap (λ (o : Option E). record { state = p.state; end = o }) (is ∙ none)

  -- a point at which no end was met
  pub fresh-point : (p : Point S E) → p.end ≡ None → p ≡ fresh p.state
  fresh-point p none = fresh-by p p.end refl none

  -- one instruction behind a point of a run
  pub go-one : (s : S) (n : ℕ) → (go m (fresh s) n).end ≡ None → go m (fresh (go m (fresh s) n).state) 1 ≡ go m (fresh s) (suc n)
  go-one s n going =
      let whole : n + 1 ≡ suc n = omega arith in
      ap (λ (q : Point S E). go m q 1) (sym (fresh-point (go m (fresh s) n) going)) ∙ sym (go-add m (fresh s) n 1) ∙ ap (go m (fresh s)) whole

  meets-segment : (own : ℕ) (s : S) (o : Option E) → o ≡ None → meets m Segment own s o ≡ false → m.at_fast s ≡ false
  meets-segment own s (Some e) none h = absurd (cc)
  meets-segment own s None none h = h

  -- a segment that met nothing after k instructions is at no opening call
  pub segment-plain : (s : S) (k : ℕ) → NoStop m Segment s k → m.at_fast (go m (fresh s) k).state ≡ false
  segment-plain s k h = meets-segment k (go m (fresh s) k).state (go m (fresh s) k).end h.going h.inside

  -- over a segment
  pub ledger_from-segment : (own left : ℕ) (s : S) (number at : ℕ) → Unstopped m Segment s own → (go m (fresh s) own).end ≡ None
      → ledger_from m left s number at ≡ ledger_from m (left - own) (go m (fresh s) own).state number (at + own)
  unfolding go
  ledger_from-segment zero left s number at least going =
      let less : left ≡ left - 0 = omega arith in
      ap₂ (λ l a. ledger_from m l s number a) less (sym (add-zero at))
  ledger_from-segment (suc k) left s number at least going =
      let here : NoStop m Segment s k = least.at k (omega arith) in
      let before : Unstopped m Segment s k = record { at = λ i less. least.at i (omega arith) } in
      let next : go m (fresh (go m (fresh s) k).state) 1 ≡ go m (fresh s) (suc k) = go-one s k here.going in
      let less : (left - k) - 1 ≡ left - suc k = omega arith in
      let more : suc (at + k) ≡ at + suc k = omega arith in
      ledger_from-segment k left s number at before here.going
      ∙ ledger_from-plain (left - k) (go m (fresh s) k).state number (at + k) (ap (λ (q : Point S E). q.end) next ∙ going) (segment-plain s k here)
      ∙ ap₂ (λ l a. ledger_from m l (go m (fresh (go m (fresh s) k).state) 1).state number a) less more
      ∙ ap (λ (q : Point S E). ledger_from m (left - suc k) q.state number (at + suc k)) next

  -- to the end of the program
  pub ledger_from-segment_ends : (own left : ℕ) (s : S) (number at : ℕ) (e : E) → Unstopped m Segment s own → (go m (fresh s) own).end ≡ Some e
      → ledger_from m left s number at ≡ []
  unfolding go
  ledger_from-segment_ends zero left s number at e least ended = absurd (cc)
  ledger_from-segment_ends (suc k) left s number at e least ended =
      let here : NoStop m Segment s k = least.at k (omega arith) in
      let before : Unstopped m Segment s k = record { at = λ i less. least.at i (omega arith) } in
      ledger_from-segment k left s number at before here.going
      ∙ ledger_from-ends (left - k) (go m (fresh s) k).state number (at + k) e (ap (λ (q : Point S E). q.end) (go-one s k here.going) ∙ ended)

  -- to the end of what is left
  pub ledger_from-segment_spent : (own left : ℕ) (s : S) (number at : ℕ) → left ≤ own → Unstopped m Segment s own → (go m (fresh s) left).end ≡ None
      → ledger_from m left s number at ≡ []
  ledger_from-segment_spent own left s number at le least going =
      let before : Unstopped m Segment s left = record { at = λ i less. least.at i (omega arith) } in
      let none : left - left ≡ 0 = omega arith in
      ledger_from-segment left left s number at before going
      ∙ ap (λ l. ledger_from m l (go m (fresh s) left).state number (at + left)) none ∙ ledger_from-zero (go m (fresh s) left).state number (at + left)
