-- The passes of a lock are numbered in the order in which they were made.
use Rattle.std.proofs.Common.{◌≡◌, ◌≢◌, ℕ, zero, suc, ◌+◌, ◌<◌, Bool, true, false, cond, List, [], ◌∷◌, ◌++◌, length, set, Option, Some, None, refl, sym, ap, ◌∙◌, subst, ⊎_elim, arith, length-set, length-append, lit<}
use Rattle.std.specs.Prelude.{slice_get, nat_lt}
use Rattle.std.proofs.lemmas.Bool.{ltb-true}
use mathlib.Core.Option.{some, some-injective, some-ne-none}
use lib.ListN.{get_elem?}
use Rattle.atomic_table.proofs.Lists.{at_set}
use Rattle.board_lock.specs.Rule.{stock_of}
use Rattle.board_lock.specs.Passes.{Held, giver_of, given_by}
use Rattle.board_lock.specs.Seats.{Call, split_passes, turned_passes, after_calls, AreApart}
use Rattle.board_lock.specs.Seats.Call.{Splits, Turns}
use Rattle.board_lock.proofs.Views.{at_below, at_pushed}

stock_else : (m n k : ℕ) → k ≢ 0 → stock_of m k ≡ stock_of n k
stock_else m n zero not = absurd (not refl)
stock_else m n (suc k) not = refl

none_left : (m k : ℕ) → k ≢ 0 → 18446744073709551615 ≡ stock_of m k
none_left m zero not = absurd (not refl)
none_left m (suc k) not = refl

module _ {F I : Type 0} where
  -- the k-th pass has the seat number k, and the first has the numbers from the number of passes on
  record Numbered (ps : List (Held F I)) : Type 0 where
    few : length ps < 18446744073709551616
    each : (k : ℕ) (p : Held F I) → get_elem? ps k ≡ some p → (p.seat ≡ k) × (p.stock ≡ stock_of (length ps) k)

  got : (ps : List (Held F I)) (k : ℕ) (p : Held F I) → slice_get ps k ≡ Some p → get_elem? ps k ≡ some p
  got [] k p e = absurd (cc)
  got (q ∷ qs) zero p e = let is : q ≡ p = cc in ap some is
  got (q ∷ qs) (suc k) p e = got qs k p e

  numbered_one : (p : Held F I) → p.seat ≡ 0 → p.stock ≡ 1 → Numbered (p ∷ [])
  numbered_one p seat stock = record { few = lit< tt; each = one }
    where
      one : (k : ℕ) (q : Held F I) → get_elem? (p ∷ []) k ≡ some q → (q.seat ≡ k) × (q.stock ≡ stock_of 1 k)
      one zero q e = let is = some-injective p q e in (ap (λ (y : Held F I). y.seat) (sym is) ∙ seat, ap (λ (y : Held F I). y.stock) (sym is) ∙ stock)
      one (suc k) q e = absurd (some-ne-none q (sym e))

  -- another pass with the seat number and stock of the k-th may stand in its place
  numbered_set : (ps : List (Held F I)) (k : ℕ) (p q : Held F I) → Numbered ps → get_elem? ps k ≡ some p → q.seat ≡ p.seat → q.stock ≡ p.stock → Numbered (set ps k q)
  numbered_set ps k p q n at seat stock =
      let same : length (set ps k q) ≡ length ps = length-set ps k q in
      let old = n.each k p at in record {
        few = (let few = n.few in omega arith);
        each = λ j u e. subst (λ (m : ℕ). (u.seat ≡ j) × (u.stock ≡ stock_of m j)) (sym same) (⊎_elim
            (λ (x : (j ≡ k) × (q ≡ u)). subst (λ (y : ℕ × Held F I). (y.1.seat ≡ y.0) × (y.1.stock ≡ stock_of (length ps) y.0)) (λ i. (sym x.0 i, x.1 i)) (seat ∙ old.0, stock ∙ old.1))
            (λ (x : (j ≢ k) × (get_elem? ps j ≡ some u)). n.each j u x.1)
            (at_set ps k j q u e));
      }

  -- only the first pass has a stock
  is_first : (count k : ℕ) (p : Held F I) → p.stock ≡ stock_of count k → p.stock < 18446744073709551615 → (k ≡ 0) × (p.stock ≡ count)
  is_first count zero p stock some_left = (refl, stock)
  is_first count (suc k) p stock some_left = absurd (omega arith)

  numbered_split : (ps : List (Held F I)) (k : ℕ) (p : Held F I) → Numbered ps → get_elem? ps k ≡ some p → p.stock < 18446744073709551615 → Numbered (set ps k (giver_of p) ++ given_by p ∷ [])
  numbered_split ps k p n at some_left =
      let count : ℕ = length ps in
      let old = n.each k p at in
      let first = is_first count k p old.1 some_left in
      let below = at_below ps k p at in
      let one : List (Held F I) = set ps k (giver_of p) in
      let same : length one ≡ count = length-set ps k (giver_of p) in
      let longer : length (one ++ given_by p ∷ []) ≡ count + 1 = length-append one (given_by p ∷ []) ∙ ap (λ m. m + 1) same in record {
        few = (let c = first.1 in omega arith);
        each = λ j u e. subst (λ (m : ℕ). (u.seat ≡ j) × (u.stock ≡ stock_of m j)) (sym longer) (⊎_elim
            (λ (here : get_elem? one j ≡ some u). ⊎_elim
            (λ (x : (j ≡ k) × (giver_of p ≡ u)). subst (λ (y : ℕ × Held F I). (y.1.seat ≡ y.0) × (y.1.stock ≡ stock_of (count + 1) y.0)) (λ i. (sym x.0 i, x.1 i))
            (old.0, ap (λ m. m + 1) first.1 ∙ ap (stock_of (count + 1)) (sym first.0)))
            (λ (x : (j ≢ k) × (get_elem? ps j ≡ some u)). let is = n.each j u x.1 in (is.0, is.1 ∙ stock_else count (count + 1) j (λ z. x.0 (z ∙ sym first.0))))
            (at_set ps k j (giver_of p) u here))
            (λ (x : (j ≡ length one) × (given_by p ≡ u)). subst (λ (y : ℕ × Held F I). (y.1.seat ≡ y.0) × (y.1.stock ≡ stock_of (count + 1) y.0)) (λ i. (sym (x.0 ∙ same) i, x.1 i))
            (first.1, none_left (count + 1) count (λ z. omega arith)))
            (at_pushed one (given_by p) u j e));
      }

  numbered_if : (b : Bool) (ps qs : List (Held F I)) → (b ≡ true → Numbered ps) → Numbered qs → Numbered (cond b ps qs)
  numbered_if true ps qs one other = one refl
  numbered_if false ps qs one other = other

  numbered_split_passes : (ps : List (Held F I)) (k : ℕ) (o : Option (Held F I)) → slice_get ps k ≡ o → Numbered ps → Numbered (split_passes ps k o)
  numbered_split_passes ps k None e n = n
  numbered_split_passes ps k (Some p) e n = numbered_if (nat_lt p.stock 18446744073709551615) _ ps (λ is. numbered_split ps k p n (got ps k p e) (ltb-true _ _ is)) n

  numbered_turned : (ps : List (Held F I)) (k : ℕ) (seen : List I) (in_turn : Bool) (o : Option (Held F I)) → slice_get ps k ≡ o → Numbered ps → Numbered (turned_passes ps k seen in_turn o)
  numbered_turned ps k seen in_turn None e n = n
  numbered_turned ps k seen in_turn (Some p) e n = numbered_set ps k p (record p { seen = seen; in_turn = in_turn }) n (got ps k p e) refl refl

  numbered_after : (cs : List (Call I)) (ps : List (Held F I)) → Numbered ps → Numbered (after_calls ps cs)
  numbered_after [] ps n = n
  numbered_after (Splits k ∷ cs) ps n = numbered_after cs (split_passes ps k (slice_get ps k)) (numbered_split_passes ps k (slice_get ps k) refl n)
  numbered_after (Turns k seen in_turn ∷ cs) ps n = numbered_after cs (turned_passes ps k seen in_turn (slice_get ps k)) (numbered_turned ps k seen in_turn (slice_get ps k) refl n)

  apart_of : (ps : List (Held F I)) → Numbered ps → AreApart ps
  apart_of ps n = record {
    apart = λ j k p q at_j at_k same. sym (n.each j p (got ps j p at_j)).0 ∙ (same ∙ (n.each k q (got ps k q at_k)).0);
    below = λ k p e. let at = got ps k p e in let is = n.each k p at in let below = at_below ps k p at in let few = n.few in omega (arith, is.0);
  }

  pub seats_apart : (p : Held F I) (cs : List (Call I)) → p.seat ≡ 0 → p.stock ≡ 1 → AreApart (after_calls (p ∷ []) cs)
  seats_apart p cs seat stock = apart_of (after_calls (p ∷ []) cs) (numbered_after cs (p ∷ []) (numbered_one p seat stock))
