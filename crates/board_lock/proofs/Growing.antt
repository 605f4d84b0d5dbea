-- Lists of entries as they grow.
use Rattle.std.proofs.Common.{◌≡◌, ◌≢◌, ℕ, ◌<◌, ◌≤◌, List, [], ◌∷◌, ◌++◌, length, Option, Some, sym, ap, ◌∙◌, subst, append_assoc, append-nil, length-append, arith}
use Rattle.std.proofs.lemmas.List.{append_cancel_left}
use Rattle.board_lock.specs.Entries.{Foreign, Extends, Appends, Unborn}

module _ {I : Type 0} (belongs : List I → I → Option ℕ) where
  foreign_push : (k : ℕ) (before xs : List I) (e : I) → Foreign belongs k before xs → belongs (before ++ xs) e ≢ Some k → Foreign belongs k before (xs ++ e ∷ [])
  foreign_push k before [] e h n = (subst (λ l. belongs l e ≢ Some k) (append-nil before) n, tt)
  foreign_push k before (x ∷ xs) e h n = (h.0, foreign_push k (before ++ x ∷ []) xs e h.1 (subst (λ l. belongs l e ≢ Some k) (sym (append_assoc before (x ∷ []) xs)) n))

  foreign_back : (k : ℕ) (before xs ys : List I) → Foreign belongs k before (xs ++ ys) → Foreign belongs k (before ++ xs) ys
  foreign_back k before [] ys h = subst (λ l. Foreign belongs k l ys) (sym (append-nil before)) h
  foreign_back k before (x ∷ xs) ys h = subst (λ l. Foreign belongs k l ys) (append_assoc before (x ∷ []) xs) (foreign_back k (before ++ x ∷ []) xs ys h.1)

  pub extends_all : (seat : ℕ) (log : List I) → Extends belongs seat log log
  extends_all seat log = ([], sym (append-nil log), tt)

  pub extends_push : (seat : ℕ) (seen log : List I) (e : I) → Extends belongs seat seen log → belongs log e ≢ Some seat → Extends belongs seat seen (log ++ e ∷ [])
  extends_push seat seen log e h n = (
    h.0 ++ e ∷ [],
    ap (λ l. l ++ e ∷ []) h.1 ∙ append_assoc seen h.0 (e ∷ []),
    foreign_push seat seen h.0 e h.2 (subst (λ l. belongs l e ≢ Some seat) h.1 n),
  )

  -- a list of which some front was seen extends it for a seat to which no entry belongs
  pub extends_born : (k seat : ℕ) (seen log : List I) → Foreign belongs k [] log → Extends belongs seat seen log → Extends belongs k seen log
  extends_born k seat seen log h x = (x.0, x.1, foreign_back k [] seen x.0 (subst (λ l. Foreign belongs k [] l) x.1 h))

  pub unborn_push : (first : ℕ) (log : List I) (e : I) → Unborn belongs first log → ((k : ℕ) → first ≤ k → belongs log e ≢ Some k) → Unborn belongs first (log ++ e ∷ [])
  unborn_push first log e h n k le = foreign_push k [] log e (h k le) (n k le)

  -- the next entry that was appended belongs to no other seat, and the rest was appended to it
  pub next : (seat : ℕ) (seen log : List I) → Appends belongs seat seen log → length seen < length log
      → (e : I) × (rest : List I) × (log ≡ seen ++ e ∷ rest) × ((k : ℕ) → k ≢ seat → belongs seen e ≢ Some k)
  next seat seen log h = following h.0 h.1 h.2
    where
      following : (rest : List I) → log ≡ seen ++ rest → ((k : ℕ) → k ≢ seat → Foreign belongs k seen rest) → length seen < length log
          → (e : I) × (rest : List I) × (log ≡ seen ++ e ∷ rest) × ((k : ℕ) → k ≢ seat → belongs seen e ≢ Some k)
      following [] is foreign less = let same : length log ≡ length seen = ap length (is ∙ append-nil seen) in absurd (omega arith)
      following (e ∷ rest) is foreign less = (e, rest, is, λ k n. (foreign k n).0)

  pub appends_rest : (seat : ℕ) (seen log : List I) (e : I) (rest : List I) → Appends belongs seat seen log → log ≡ seen ++ e ∷ rest → Appends belongs seat (seen ++ e ∷ []) log
  appends_rest seat seen log e rest h is =
      let same : h.0 ≡ e ∷ rest = append_cancel_left seen h.0 (e ∷ rest) (sym h.1 ∙ is) in
      (rest, is ∙ sym (append_assoc seen (e ∷ []) rest), λ k n. (subst (λ l. Foreign belongs k seen l) same (h.2 k n)).1)

  -- where as many entries were seen as there are, all were seen
  pub appends_none : (seat : ℕ) (seen log : List I) → Appends belongs seat seen log → length seen ≡ length log → log ≡ seen
  appends_none seat seen log h = all h.0 h.1
    where
      all : (rest : List I) → log ≡ seen ++ rest → length seen ≡ length log → log ≡ seen
      all [] is same = is ∙ append-nil seen
      all (e ∷ rest) is same = let more : length log ≡ length (seen ++ e ∷ rest) = ap length is in absurd (omega (arith, length-append seen (e ∷ rest)))
