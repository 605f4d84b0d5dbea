-- The views of a table, and how many have a ticket.
use Rattle.std.proofs.Common.{◌≡◌, ◌⊎◌, ℕ, zero, suc, ◌+◌, ◌<◌, ◌≤◌, List, [], ◌∷◌, ◌++◌, length, set, get_or, refl, sym, ap, inl, inr, ⊎_elim, arith}
use mathlib.Core.Option.{some, some-injective, some-ne-none}
use lib.ListN.{get_elem?}
use Rattle.board_lock.specs.declared.known.Known.{Known}
use Rattle.board_lock.specs.declared.known.Stage.{Stage}
use Rattle.board_lock.specs.declared.known.Stage.TheVariants.{Idle, Waits, Holds}
use Rattle.board_lock.specs.Rule.{weight, total, tickets}

module _ {A : Type 0} where
  pub at_below : (l : List A) (i : ℕ) (a : A) → get_elem? l i ≡ some a → i < length l
  at_below [] i a e = absurd (some-ne-none a (sym e))
  at_below (x ∷ xs) zero a e = omega arith
  at_below (x ∷ xs) (suc i) a e = let below = at_below xs i a e in omega arith

  -- an element of a list that one was pushed to
  pub at_pushed : (l : List A) (a b : A) (j : ℕ) → get_elem? (l ++ a ∷ []) j ≡ some b → (get_elem? l j ≡ some b) ⊎ ((j ≡ length l) × (a ≡ b))
  at_pushed [] a b zero e = inr (refl, some-injective a b e)
  at_pushed [] a b (suc j) e = absurd (some-ne-none b (sym e))
  at_pushed (x ∷ xs) a b zero e = inl e
  at_pushed (x ∷ xs) a b (suc j) e = ⊎_elim (λ h. inl h) (λ h. inr (ap suc h.0, h.1)) (at_pushed xs a b j e)

  total_set : (f : A → ℕ) (l : List A) (i : ℕ) (a b : A) → get_elem? l i ≡ some a → total f (set l i b) + f a ≡ total f l + f b
  total_set f [] i a b e = absurd (some-ne-none a (sym e))
  total_set f (x ∷ xs) zero a b e = let is = ap f (some-injective x a e) in omega arith
  total_set f (x ∷ xs) (suc i) a b e = let after = total_set f xs i a b e in omega arith

  total_push : (f : A → ℕ) (l : List A) (a : A) → total f (l ++ a ∷ []) ≡ total f l + f a
  total_push f [] a = omega arith
  total_push f (x ∷ xs) a = let after = total_push f xs a in omega arith

  total_le : (f : A → ℕ) → ((a : A) → f a ≤ 1) → (l : List A) → total f l ≤ length l
  total_le f le [] = omega arith
  total_le f le (x ∷ xs) = let here = le x in let after = total_le f le xs in omega arith

  at_total : (f : A → ℕ) (l : List A) (i : ℕ) (a : A) → get_elem? l i ≡ some a → f a ≤ total f l
  at_total f [] i a e = absurd (some-ne-none a (sym e))
  at_total f (x ∷ xs) zero a e = let is = ap f (some-injective x a e) in omega arith
  at_total f (x ∷ xs) (suc i) a e = let after = at_total f xs i a e in omega arith

weight_le : (stage : Stage) → weight stage ≤ 1
weight_le Idle = omega arith
weight_le (Waits n) = omega arith
weight_le (Holds n) = omega arith

module _ {F I : Type 0} where
  pub tickets_set : (vs : List (Known F I)) (i : ℕ) (v w : Known F I) → get_elem? vs i ≡ some v → tickets (set vs i w) + weight v.stage ≡ tickets vs + weight w.stage
  tickets_set vs i v w e = total_set (λ (u : Known F I). weight u.stage) vs i v w e

  pub tickets_push : (vs : List (Known F I)) (w : Known F I) → tickets (vs ++ w ∷ []) ≡ tickets vs + weight w.stage
  tickets_push vs w = total_push (λ (u : Known F I). weight u.stage) vs w

  pub tickets_le : (vs : List (Known F I)) → tickets vs ≤ length vs
  tickets_le vs = total_le (λ (u : Known F I). weight u.stage) (λ u. weight_le u.stage) vs

  pub at_tickets : (vs : List (Known F I)) (i : ℕ) (v : Known F I) → get_elem? vs i ≡ some v → weight v.stage ≤ tickets vs
  at_tickets vs i v e = at_total (λ (u : Known F I). weight u.stage) vs i v e

-- the number at an index, where there is one
pub get_or_at : (ns : List ℕ) (i n : ℕ) → get_elem? ns i ≡ some n → get_or ns i 0 ≡ n
get_or_at [] i n e = absurd (some-ne-none n (sym e))
get_or_at (x ∷ xs) zero n e = some-injective x n e
get_or_at (x ∷ xs) (suc i) n e = get_or_at xs i n e
