-- The marked bytes of numbered pieces up to a limit, and the output of runs within a budget.
use Rattle.std.proofs.Common.{◌≡◌, ℕ, zero, suc, ◌+◌, ◌-◌, ◌<◌, ◌≤◌, min, Bool, true, false, if◌then◌else◌, List, [], ◌∷◌, ◌++◌, Option, Some, None, nat_le, refl, sym, ap, ap₂, ◌∙◌, inl, inr, le-leb, append_assoc, append-nil, arith}
use Rattle.std.proofs.lemmas.Bool.{cases_lt, lt-leb}
use Rattle.speculation.specs.Machine.{Machine, Stepped, Next, Ends}
use Rattle.speculation.specs.Run.{Piece, Point, marked, marks, marks_upto, go, piece_of, wrote, pieces, out}
use Rattle.speculation.specs.Events.{left_over}
use Rattle.speculation.proofs.Outputs.{marks-append, out-add, marks-pieces}
use Rattle.speculation_law.specs.Sound.{Numbered}

pub marks_upto-append : (limit : ℕ) (ps qs : List Piece) → marks_upto limit (ps ++ qs) ≡ marks_upto limit ps ++ marks_upto limit qs
marks_upto-append limit [] qs = refl
marks_upto-append limit (p ∷ ps) qs =
    ap (λ ms. (if nat_le p.number limit then marked p.stream p.bytes else []) ++ ms) (marks_upto-append limit ps qs)
    ∙ sym (append_assoc (if nat_le p.number limit then marked p.stream p.bytes else []) (marks_upto limit ps) (marks_upto limit qs))

pub marks_upto-all : (low high limit : ℕ) (ps : List Piece) → Numbered low high ps → high ≤ limit → marks_upto limit ps ≡ marks ps
marks_upto-all low high limit [] h le = refl
marks_upto-all low high limit (p ∷ ps) h le =
    let test : nat_le p.number limit ≡ true = le-leb p.number limit (omega (arith, h.1)) in
    ap (λ t. (if t then marked p.stream p.bytes else []) ++ marks_upto limit ps) test ∙ ap (λ ms. marked p.stream p.bytes ++ ms) (marks_upto-all low high limit ps h.2 le)

pub marks_upto-none : (low high limit : ℕ) (ps : List Piece) → Numbered low high ps → limit ≤ low → marks_upto limit ps ≡ []
marks_upto-none low high limit [] h le = refl
marks_upto-none low high limit (p ∷ ps) h le =
    let test : nat_le p.number limit ≡ false = lt-leb p.number limit (omega (arith, h.0)) in
    ap (λ t. (if t then marked p.stream p.bytes else []) ++ marks_upto limit ps) test ∙ marks_upto-none low high limit ps h.2 le

pub Numbered-append : (low high : ℕ) (ps qs : List Piece) → Numbered low high ps → Numbered low high qs → Numbered low high (ps ++ qs)
Numbered-append low high [] qs h k = k
Numbered-append low high (p ∷ ps) qs h k = (h.0, h.1, Numbered-append low high ps qs h.2 k)

pub Numbered-wider : (low high low' high' : ℕ) (ps : List Piece) → low' ≤ low → high ≤ high' → Numbered low high ps → Numbered low' high' ps
Numbered-wider low high low' high' [] a b h = tt
Numbered-wider low high low' high' (p ∷ ps) a b h = (omega (arith, h.0), omega (arith, h.1), Numbered-wider low high low' high' ps a b h.2)

left_over-marks_by : (limit : ℕ) (p : Piece) (ps : List Piece) (t : Bool) → nat_le p.number limit ≡ t → marks_upto limit (left_over limit ps) ≡ []
    → marks_upto limit (if t then left_over limit ps else p ∷ left_over limit ps) ≡ []
left_over-marks_by limit p ps true is h = h
left_over-marks_by limit p ps false is h = ap (λ t. (if t then marked p.stream p.bytes else []) ++ marks_upto limit (left_over limit ps)) is ∙ h

-- what is left over a limit has no piece up to it
pub marks_upto-left_over : (limit : ℕ) (ps : List Piece) → marks_upto limit (left_over limit ps) ≡ []
marks_upto-left_over limit [] = refl
marks_upto-left_over limit (p ∷ ps) = left_over-marks_by limit p ps (nat_le p.number limit) refl (marks_upto-left_over limit ps)

left_over-numbered_by : (low high : ℕ) (p : Piece) (rest : List Piece) (t : Bool) → low < p.number → p.number ≤ high → Numbered low high rest → Numbered low high (if t then rest else p ∷ rest)
left_over-numbered_by low high p rest true a b h = h
left_over-numbered_by low high p rest false a b h = (a, b, h)

pub Numbered-left_over : (low high limit : ℕ) (ps : List Piece) → Numbered low high ps → Numbered low high (left_over limit ps)
Numbered-left_over low high limit [] h = tt
Numbered-left_over low high limit (p ∷ ps) h = left_over-numbered_by low high p (left_over limit ps) (nat_le p.number limit) h.0 h.1 (Numbered-left_over low high limit ps h.2)

module _ {S E D : Type 0} (m : Machine S E D) where
  numbered-piece_of : (k : ℕ) (w : Stepped S E) → Numbered k (suc k) (piece_of (suc k) w)
  numbered-piece_of k (Next t stream []) = tt
  numbered-piece_of k (Next t stream (b ∷ bs)) = (omega arith, omega arith, tt)
  numbered-piece_of k (Ends e) = tt

  numbered-wrote : (k : ℕ) (s : S) (o : Option E) → Numbered k (suc k) (wrote m (suc k) s o)
  numbered-wrote k s (Some e) = tt
  numbered-wrote k s None = numbered-piece_of k (m.step s)

  -- the pieces of a run are numbered by its instructions
  pub numbered-pieces : (p : Point S E) (k n : ℕ) → Numbered k (k + n) (pieces m p k n)
  unfolding pieces
  numbered-pieces p k zero = tt
  numbered-pieces p k (suc n) =
      Numbered-append k (k + suc n) (pieces m p k n) _
      (Numbered-wider k (k + n) k (k + suc n) (pieces m p k n) (omega arith) (omega arith) (numbered-pieces p k n))
      (Numbered-wider (k + n) (suc (k + n)) k (k + suc n) (wrote m (suc (k + n)) (go m p n).state (go m p n).end) (omega arith) (omega arith)
      (numbered-wrote (k + n) (go m p n).state (go m p n).end))

  out-suc : (p : Point S E) (k n : ℕ) → out m p (suc n) ≡ out m p n ++ marks (wrote m (suc (k + n)) (go m p n).state (go m p n).end)
  unfolding out pieces
  out-suc p k n =
      marks-pieces m p 0 k (suc n) ∙ marks-append (pieces m p k n) (wrote m (suc (k + n)) (go m p n).state (go m p n).end)
      ∙ ap (λ ms. ms ++ marks (wrote m (suc (k + n)) (go m p n).state (go m p n).end)) (marks-pieces m p k 0 n)

  -- the pieces of a run up to a limit are its output up to there
  pub marks_upto-pieces : (limit : ℕ) (p : Point S E) (k n : ℕ) → marks_upto limit (pieces m p k n) ≡ out m p (min (limit - k) n)
  unfolding pieces out
  marks_upto-pieces limit p k zero = (let none : min (limit - k) 0 ≡ 0 = omega arith in sym (ap (λ i. marks (pieces m p 0 i)) none))
  marks_upto-pieces limit p k (suc n) = elim (cases_lt (k + n) limit) [
    | inl less ↦ (let short : min (limit - k) n ≡ n = omega arith in let long : min (limit - k) (suc n) ≡ suc n = omega arith in
        marks_upto-append limit (pieces m p k n) (wrote m (suc (k + n)) (go m p n).state (go m p n).end)
        ∙ ap₂ (λ ms ns. ms ++ ns) (marks_upto-pieces limit p k n ∙ ap (out m p) short)
        (marks_upto-all (k + n) (suc (k + n)) limit (wrote m (suc (k + n)) (go m p n).state (go m p n).end) (numbered-wrote (k + n) (go m p n).state (go m p n).end) less)
        ∙ sym (out-suc p k n) ∙ sym (ap (out m p) long))
    | inr more ↦ (let same : min (limit - k) n ≡ min (limit - k) (suc n) = omega arith in
        marks_upto-append limit (pieces m p k n) (wrote m (suc (k + n)) (go m p n).state (go m p n).end)
        ∙ ap₂ (λ ms ns. ms ++ ns) (marks_upto-pieces limit p k n)
        (marks_upto-none (k + n) (suc (k + n)) limit (wrote m (suc (k + n)) (go m p n).state (go m p n).end) (numbered-wrote (k + n) (go m p n).state (go m p n).end) more)
        ∙ append-nil (out m p (min (limit - k) n)) ∙ ap (out m p) same)
  ]

  pub out-zero : (p : Point S E) → out m p 0 ≡ []
  unfolding out pieces
  out-zero p = refl

  -- outputs within a budget add up
  pub out-min : (p : Point S E) (l a b : ℕ) → out m p (min l (a + b)) ≡ out m p (min l a) ++ out m (go m p a) (min (l - a) b)
  out-min p l a b = elim (cases_lt a l) [
    | inl less ↦ (let first : min l a ≡ a = omega arith in let whole : min l (a + b) ≡ a + min (l - a) b = omega arith in
        ap (out m p) whole ∙ out-add m p a (min (l - a) b) ∙ ap (λ i. out m p i ++ out m (go m p a) (min (l - a) b)) (sym first))
    | inr more ↦ (let first : min l (a + b) ≡ min l a = omega arith in let none : min (l - a) b ≡ 0 = omega arith in
        ap (out m p) first ∙ sym (append-nil (out m p (min l a))) ∙ ap (λ ms. out m p (min l a) ++ ms) (sym (ap (out m (go m p a)) none ∙ out-zero (go m p a))))
  ]
