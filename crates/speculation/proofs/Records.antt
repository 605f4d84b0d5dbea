-- The record of a run, taken from its first instruction on, is the run grown at its end.
use Rattle.std.proofs.Common.{◌≡◌, ℕ, zero, suc, ◌+◌, List, [], ◌∷◌, ◌++◌, Option, Some, None, refl, sym, ap, ◌∙◌, one-add, arith}
use Rattle.speculation.specs.Machine.{Machine, Stepped, Next, Ends}
use Rattle.speculation.specs.Run.{Piece, Point, fresh, moved, go, piece_of, wrote, pieces, taken, out, marks}
use Rattle.speculation.specs.Record.{Ran, raised, first_piece, by_step, preceded, run, grown, alone, output_of}
use Rattle.speculation.proofs.Runs.{go-add, pieces-add, taken-add, go-ended, pieces-ended, taken-ended}

raised-append : (ps qs : List Piece) → raised (ps ++ qs) ≡ raised ps ++ raised qs
raised-append [] qs = refl
raised-append (p ∷ ps) qs = ap (λ rs. (record p { number = suc p.number }) ∷ rs) (raised-append ps qs)

module _ {S E D : Type 0} (m : Machine S E D) where
  raised-piece_of : (k : ℕ) (w : Stepped S E) → raised (piece_of k w) ≡ piece_of (suc k) w
  raised-piece_of k (Next t stream []) = refl
  raised-piece_of k (Next t stream (b ∷ bs)) = refl
  raised-piece_of k (Ends e) = refl

  raised-wrote : (k : ℕ) (s : S) (o : Option E) → raised (wrote m k s o) ≡ wrote m (suc k) s o
  raised-wrote k s (Some e) = refl
  raised-wrote k s None = raised-piece_of k (m.step s)

  raised-pieces : (p : Point S E) (k n : ℕ) → raised (pieces m p k n) ≡ pieces m p (suc k) n
  unfolding pieces
  raised-pieces p k zero = refl
  raised-pieces p k (suc n) =
      let next : suc (suc (k + n)) ≡ suc (suc k + n) = omega arith in
      raised-append (pieces m p k n) _ ∙ ap (λ ps. ps ++ raised (wrote m (suc (k + n)) (go m p n).state (go m p n).end)) (raised-pieces p k n)
      ∙ ap (λ ps. pieces m p (suc k) n ++ ps) (raised-wrote (suc (k + n)) (go m p n).state (go m p n).end ∙ ap (λ j. wrote m j (go m p n).state (go m p n).end) next)

  first-pieces : (s : S) → pieces m (fresh s) 0 1 ≡ piece_of 1 (m.step s)
  unfolding pieces go
  first-pieces s = refl

  first-go : (s : S) → go m (fresh s) 1 ≡ moved s (m.step s)
  unfolding go
  first-go s = refl

  first-taken : (s : S) → taken m (fresh s) 1 ≡ 1
  unfolding taken go
  first-taken s = refl

  -- the run whose first instruction led to q, and wrote these pieces
  led : List Piece → Point S E → ℕ → Ran S E
  led first q n = record { pieces = first ++ pieces m q 1 n; end = (go m q n).end; last = (go m q n).state; count = suc (taken m q n) }

  -- the grown run begins with its first instruction
  grown-first : (s : S) (n : ℕ) → grown m s (suc n) ≡ led (piece_of 1 (m.step s)) (moved s (m.step s)) n
  unfolding led
  grown-first s n =
      let whole : suc n ≡ 1 + n = omega arith in
      let here : go m (fresh s) (suc n) ≡ go m (moved s (m.step s)) n = ap (go m (fresh s)) whole ∙ go-add m (fresh s) 1 n ∙ ap (λ (q : Point S E). go m q n) (first-go s) in
      let written : pieces m (fresh s) 0 (suc n) ≡ piece_of 1 (m.step s) ++ pieces m (moved s (m.step s)) 1 n
      = ap (pieces m (fresh s) 0) whole ∙ pieces-add m (fresh s) 0 1 n ∙ ap (λ ps. ps ++ pieces m (go m (fresh s) 1) 1 n) (first-pieces s)
      ∙ ap (λ (q : Point S E). piece_of 1 (m.step s) ++ pieces m q 1 n) (first-go s) in
      let counted : taken m (fresh s) (suc n) ≡ suc (taken m (moved s (m.step s)) n)
      = ap (taken m (fresh s)) whole ∙ taken-add m (fresh s) 1 n ∙ ap (λ k. k + taken m (go m (fresh s) 1) n) (first-taken s)
      ∙ ap (λ (q : Point S E). 1 + taken m q n) (first-go s) ∙ one-add (taken m (moved s (m.step s)) n) in
      λ i. record { pieces = written i; end = (here i).end; last = (here i).state; count = counted i }

  led-ended : (s : S) (e : E) (n : ℕ) → led [] (record { state = s; end = Some e }) n ≡ record { pieces = []; end = Some e; last = s; count = 1 }
  unfolding led
  led-ended s e n =
      let p : Point S E = record { state = s; end = Some e } in
      let stays : go m p n ≡ p = go-ended m p e refl n in
      λ i. record { pieces = pieces-ended m p e refl 1 n i; end = (stays i).end; last = (stays i).state; count = suc (taken-ended m p e refl n i) }

  led-next : (t : S) (stream : ℕ) (bytes : List ℕ) (n : ℕ) → led (piece_of {S = S} {E = E} 1 (Next t stream bytes)) (fresh t) n ≡ preceded (first_piece stream bytes) (grown m t n)
  unfolding led
  led-next t stream [] n = λ i. record { pieces = sym (raised-pieces (fresh t) 0 n) i; end = (go m (fresh t) n).end; last = (go m (fresh t) n).state; count = suc (taken m (fresh t) n) }
  led-next t stream (b ∷ bs) n = λ i. record {
    pieces = (record { number = 1; stream = stream; bytes = b ∷ bs }) ∷ sym (raised-pieces (fresh t) 0 n) i;
    end = (go m (fresh t) n).end;
    last = (go m (fresh t) n).state;
    count = suc (taken m (fresh t) n);
  }

  by_step-led : (s : S) (n : ℕ) (w : Stepped S E) (rest : S → Ran S E) → ((t : S) → rest t ≡ grown m t n) → by_step s w rest ≡ led (piece_of 1 w) (moved s w) n
  by_step-led s n (Next t stream bytes) rest h = ap (preceded (first_piece stream bytes)) (h t) ∙ sym (led-next t stream bytes n)
  by_step-led s n (Ends e) rest h = sym (led-ended s e n)

  -- the record of a run is the grown run
  pub run-grown : (s : S) (n : ℕ) → run m s n ≡ grown m s n
  unfolding run go pieces taken
  run-grown s zero = refl
  run-grown s (suc n) = by_step-led s n (m.step s) (λ t. run m t n) (λ t. run-grown t n) ∙ sym (grown-first s n)

  -- what the law says of the program alone, in grown terms
  pub output-alone : (s : S) (n : ℕ) → output_of (alone m s n) ≡ out m (fresh s) n
  unfolding out
  output-alone s n = ap (λ (r : Ran S E). marks r.pieces) (run-grown s n)

  pub end-alone : (s : S) (n : ℕ) → (alone m s n).end ≡ (go m (fresh s) n).end
  end-alone s n = ap (λ (r : Ran S E). r.end) (run-grown s n)

  pub last-alone : (s : S) (n : ℕ) → (alone m s n).last ≡ (go m (fresh s) n).state
  last-alone s n = ap (λ (r : Ran S E). r.last) (run-grown s n)

  pub count-alone : (s : S) (n : ℕ) → (alone m s n).count ≡ taken m (fresh s) n
  count-alone s n = ap (λ (r : Ran S E). r.count) (run-grown s n)
