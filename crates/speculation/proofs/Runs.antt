-- Runs split where one likes, and ends stay.
use Rattle.std.proofs.Common.{◌≡◌, ℕ, zero, suc, ◌+◌, ◌-◌, ◌≤◌, List, [], ◌++◌, Option, Some, None, refl, sym, ap, ◌∙◌, subst, append_assoc, append-nil, add-zero, add-suc, arith}
use Rattle.speculation.specs.Machine.{Machine, Next, Ends}
use Rattle.speculation.specs.Run.{Point, fresh, moved, advanced, go, wrote, pieces, tick, taken}

module _ {S E D : Type 0} (m : Machine S E D) where
  -- a run of a + b instructions goes on from the point after a
  pub go-add : (p : Point S E) (a b : ℕ) → go m p (a + b) ≡ go m (go m p a) b
  unfolding go
  go-add p a zero = ap (go m p) (add-zero a)
  go-add p a (suc b) = ap (go m p) (add-suc a b) ∙ ap (λ (q : Point S E). advanced m q.state q.end) (go-add p a b)

  -- its pieces are those of the first a, and those of the others from that point on
  pub pieces-add : (p : Point S E) (k a b : ℕ) → pieces m p k (a + b) ≡ pieces m p k a ++ pieces m (go m p a) (k + a) b
  unfolding pieces
  pieces-add p k a zero = ap (pieces m p k) (add-zero a) ∙ sym (append-nil (pieces m p k a))
  pieces-add p k a (suc b) =
      let more : pieces m p k (a + suc b) ≡ pieces m p k (a + b) ++ wrote m (suc (k + (a + b))) (go m p (a + b)).state (go m p (a + b)).end = ap (pieces m p k) (add-suc a b) in
      let numbered : k + (a + b) ≡ (k + a) + b = omega arith in
      let last : wrote m (suc (k + (a + b))) (go m p (a + b)).state (go m p (a + b)).end ≡ wrote m (suc ((k + a) + b)) (go m (go m p a) b).state (go m (go m p a) b).end
      = ap (λ j. wrote m (suc j) (go m p (a + b)).state (go m p (a + b)).end) numbered ∙ ap (λ (q : Point S E). wrote m (suc ((k + a) + b)) q.state q.end) (go-add p a b) in
      more ∙ ap (λ ps. ps ++ wrote m (suc (k + (a + b))) (go m p (a + b)).state (go m p (a + b)).end) (pieces-add p k a b)
      ∙ append_assoc (pieces m p k a) (pieces m (go m p a) (k + a) b) (wrote m (suc (k + (a + b))) (go m p (a + b)).state (go m p (a + b)).end) ∙ ap (λ ps. pieces m p k a ++ (pieces m (go m p a) (k + a) b ++ ps)) last

  taken-tick : (o : Option E) (a b : ℕ) → tick o (a + b) ≡ a + tick o b
  taken-tick (Some e) a b = refl
  taken-tick None a b = sym (add-suc a b)

  -- counts add up in the same way
  pub taken-add : (p : Point S E) (a b : ℕ) → taken m p (a + b) ≡ taken m p a + taken m (go m p a) b
  unfolding taken
  taken-add p a zero = ap (taken m p) (add-zero a) ∙ sym (add-zero (taken m p a))
  taken-add p a (suc b) =
      ap (taken m p) (add-suc a b) ∙ ap (λ (q : Point S E). tick q.end (taken m p (a + b))) (go-add p a b)
      ∙ ap (tick (go m (go m p a) b).end) (taken-add p a b) ∙ taken-tick (go m (go m p a) b).end (taken m p a) (taken m (go m p a) b)

  advanced-ended : (s : S) (o : Option E) (e : E) → o ≡ Some e → advanced m s o ≡ record { state = s; end = o }
  advanced-ended s (Some x) e h = refl
  advanced-ended s None e h = absurd (cc)

  -- nothing follows an end
  pub go-ended : (p : Point S E) (e : E) → p.end ≡ Some e → (n : ℕ) → go m p n ≡ p
  unfolding go
  go-ended p e h zero = refl
  go-ended p e h (suc n) = ap (λ (q : Point S E). advanced m q.state q.end) (go-ended p e h n) ∙ advanced-ended p.state p.end e h

  wrote-ended : (k : ℕ) (s : S) (o : Option E) (e : E) → o ≡ Some e → wrote m k s o ≡ []
  wrote-ended k s (Some x) e h = refl
  wrote-ended k s None e h = absurd (cc)

  pub pieces-ended : (p : Point S E) (e : E) → p.end ≡ Some e → (k n : ℕ) → pieces m p k n ≡ []
  unfolding pieces
  pieces-ended p e h k zero = refl
  pieces-ended p e h k (suc n) =
      ap (λ ps. ps ++ wrote m (suc (k + n)) (go m p n).state (go m p n).end) (pieces-ended p e h k n)
      ∙ ap (λ (q : Point S E). wrote m (suc (k + n)) q.state q.end) (go-ended p e h n) ∙ wrote-ended (suc (k + n)) p.state p.end e h

  tick-ended : (o : Option E) (e : E) (n : ℕ) → o ≡ Some e → tick o n ≡ n
  tick-ended (Some x) e n h = refl
  tick-ended None e n h = absurd (cc)

  pub taken-ended : (p : Point S E) (e : E) → p.end ≡ Some e → (n : ℕ) → taken m p n ≡ 0
  unfolding taken
  taken-ended p e h zero = refl
  taken-ended p e h (suc n) =
      ap (λ (q : Point S E). tick q.end (taken m p n)) (go-ended p e h n) ∙ tick-ended p.end e (taken m p n) h ∙ taken-ended p e h n

  -- an end that was met stays
  pub go-stays : (p : Point S E) (a b : ℕ) (e : E) → (go m p a).end ≡ Some e → go m p (a + b) ≡ go m p a
  go-stays p a b e h = go-add p a b ∙ go-ended (go m p a) e h b

  pub taken-stays : (p : Point S E) (a b : ℕ) (e : E) → (go m p a).end ≡ Some e → taken m p (a + b) ≡ taken m p a
  taken-stays p a b e h = taken-add p a b ∙ ap (λ n. taken m p a + n) (taken-ended (go m p a) e h b) ∙ add-zero (taken m p a)

  pub pieces-stay : (p : Point S E) (k a b : ℕ) (e : E) → (go m p a).end ≡ Some e → pieces m p k (a + b) ≡ pieces m p k a
  pieces-stay p k a b e h =
      pieces-add p k a b ∙ ap (λ ps. pieces m p k a ++ ps) (pieces-ended (go m p a) e h (k + a) b) ∙ append-nil (pieces m p k a)

  going-by : (p : Point S E) (a b : ℕ) (o : Option E) → (go m p a).end ≡ o → (go m p (a + b)).end ≡ None → (go m p a).end ≡ None
  going-by p a b None is h = is
  going-by p a b (Some e) is h = absurd (let stays : (go m p (a + b)).end ≡ (go m p a).end = ap (λ (q : Point S E). q.end) (go-stays p a b e is) in cc)

  -- where no end was met after a + b instructions, none was met after a
  pub going-before : (p : Point S E) (a b : ℕ) → (go m p (a + b)).end ≡ None → (go m p a).end ≡ None
  going-before p a b h = going-by p a b (go m p a).end refl h

  pub going-below : (p : Point S E) (a n : ℕ) → a ≤ n → (go m p n).end ≡ None → (go m p a).end ≡ None
  going-below p a n le h =
      let rest = n - a in let whole : n ≡ a + rest = omega arith in
      going-before p a rest (subst (λ (k : ℕ). (go m p k).end ≡ None) whole h)

  -- a run that met no end took all its instructions
  pub taken-going : (p : Point S E) (n : ℕ) → (go m p n).end ≡ None → taken m p n ≡ n
  unfolding taken
  taken-going p zero h = refl
  taken-going p (suc n) h =
      let before : (go m p n).end ≡ None = going-below p n (suc n) (omega arith) h in
      ap (λ o. tick o (taken m p n)) before ∙ ap suc (taken-going p n before)

  tick-le : (o : Option E) (n k : ℕ) → n ≤ k → tick o n ≤ suc k
  tick-le (Some e) n k h = omega arith
  tick-le None n k h = omega arith

  pub taken-le : (p : Point S E) (n : ℕ) → taken m p n ≤ n
  unfolding taken
  taken-le p zero = omega arith
  taken-le p (suc n) = tick-le (go m p n).end (taken m p n) n (taken-le p n)

  -- one instruction behind a point at which no end was met
  pub go-next : (p : Point S E) (n : ℕ) (s t : S) (stream : ℕ) (bytes : List ℕ) → go m p n ≡ fresh s → m.step s ≡ Next t stream bytes → go m p (suc n) ≡ fresh t
  unfolding go
  go-next p n s t stream bytes here step = ap (λ (q : Point S E). advanced m q.state q.end) here ∙ ap (moved s) step

  pub go-ends : (p : Point S E) (n : ℕ) (s : S) (e : E) → go m p n ≡ fresh s → m.step s ≡ Ends e → go m p (suc n) ≡ record { state = s; end = Some e }
  unfolding go
  go-ends p n s e here step = ap (λ (q : Point S E). advanced m q.state q.end) here ∙ ap (moved s) step

  -- the instruction that ends a run is its last one
  pub taken-ends : (p : Point S E) (n : ℕ) (s : S) → go m p n ≡ fresh s → taken m p (suc n) ≡ suc n
  unfolding taken
  taken-ends p n s here =
      let going : (go m p n).end ≡ None = ap (λ (q : Point S E). q.end) here in
      ap (λ o. tick o (taken m p n)) going ∙ ap suc (taken-going p n going)
