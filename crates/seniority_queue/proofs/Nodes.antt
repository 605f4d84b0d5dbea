-- What one write of a node changes
use Rattle.std.proofs.Common.{◌≡◌, ◌≢◌, ℕ, zero, suc, ◌<◌, List, [], ◌∷◌, ◌++◌, length, set, get_or, slice_get, Option, Some, option_and_then, inl, inr, cond, eqb, refl, ap, arith, length-set}
use Rattle.std.proofs.lemmas.Bool.Decides.{eqb_tells}
use Rattle.std.proofs.lemmas.Option.{slice_get_read}
use Rattle.seniority_queue.specs.Node.{live_of, before_at, after_at}
use Rattle.seniority_queue.specs.Links.{Writes}
use Rattle.seniority_queue.specs.declared.node.Node.{Node}

slice_get-set_same : {X : Type 0} (xs : List X) (i : ℕ) (x : X) → i < length xs → slice_get (set xs i x) i ≡ Some x
slice_get-set_same [] i x inside = absurd (omega arith)
slice_get-set_same (y ∷ rest) zero x inside = refl
slice_get-set_same (y ∷ rest) (suc i) x inside = slice_get-set_same rest i x (omega arith)

slice_get-set_other : {X : Type 0} (xs : List X) (i j : ℕ) (x : X) → j ≢ i → slice_get (set xs i x) j ≡ slice_get xs j
slice_get-set_other [] i j x differ = refl
slice_get-set_other (y ∷ rest) zero zero x differ = absurd (differ refl)
slice_get-set_other (y ∷ rest) zero (suc j) x differ = refl
slice_get-set_other (y ∷ rest) (suc i) zero x differ = refl
slice_get-set_other (y ∷ rest) (suc i) (suc j) x differ = slice_get-set_other rest i j x (λ same. differ (ap suc same))

slice_get-push_same : {X : Type 0} (xs : List X) (x : X) → slice_get (xs ++ x ∷ []) (length xs) ≡ Some x
slice_get-push_same [] x = refl
slice_get-push_same (y ∷ rest) x = slice_get-push_same rest x

slice_get-push_other : {X : Type 0} (xs : List X) (x : X) (j : ℕ) → j ≢ length xs → slice_get (xs ++ x ∷ []) j ≡ slice_get xs j
slice_get-push_other [] x zero differ = absurd (differ refl)
slice_get-push_other [] x (suc j) differ = refl
slice_get-push_other (y ∷ rest) x zero differ = refl
slice_get-push_other (y ∷ rest) x (suc j) differ = slice_get-push_other rest x j (λ same. differ (ap suc same))

module _ {T : Type 0} where
  -- a read of each node, where one node was written
  read-set : {Y : Type 0} (f : ℕ → Node T → Option Y) (nodes : List (Node T)) (i j : ℕ) (n : Node T) → i < length nodes → option_and_then (f j) (slice_get (set nodes i n) j) ≡ cond (eqb j i) (f i n) (option_and_then (f j) (slice_get nodes j))
  read-set f nodes i j n inside =
      elim (eqb_tells j i) [
        | inl same ↦ rw (same.0, same.1, slice_get-set_same nodes i n inside) refl
        | inr differ ↦ rw (differ.0, slice_get-set_other nodes i j n differ.1) refl
      ]

  pub Writes-set : (nodes : List (Node T)) (i : ℕ) (n : Node T) → i < length nodes → Writes nodes (set nodes i n) i n
  Writes-set nodes i n inside = record {
    size = length-set nodes i n;
    after = λ j. read-set (λ _ m. m.after) nodes i j n inside;
    before = λ j. read-set (λ _ m. m.before) nodes i j n inside;
    live = λ j. read-set live_of nodes i j n inside;
  }

  -- what a node more at the end changes: at its own index, and at each other
  pub read-push_same : {Y : Type 0} (f : ℕ → Node T → Option Y) (nodes : List (Node T)) (n : Node T) → option_and_then (f (length nodes)) (slice_get (nodes ++ n ∷ []) (length nodes)) ≡ f (length nodes) n
  read-push_same f nodes n = rw (slice_get-push_same nodes n) refl

  pub read-push_other : {Y : Type 0} (f : ℕ → Node T → Option Y) (nodes : List (Node T)) (n : Node T) (j : ℕ) → j ≢ length nodes → option_and_then (f j) (slice_get (nodes ++ n ∷ []) j) ≡ option_and_then (f j) (slice_get nodes j)
  read-push_other f nodes n j differ = rw (slice_get-push_other nodes n j differ) refl

  -- the links of a node that the code reads
  pub after_at-read : (nodes : List (Node T)) (i : ℕ) (n : Node T) → i < length nodes → n ≡ get_or nodes i n → after_at nodes i ≡ n.after
  after_at-read nodes i n within is = rw (slice_get_read nodes (length nodes) i n refl within is) refl

  pub before_at-read : (nodes : List (Node T)) (i : ℕ) (n : Node T) → i < length nodes → n ≡ get_or nodes i n → before_at nodes i ≡ n.before
  before_at-read nodes i n within is = rw (slice_get_read nodes (length nodes) i n refl within is) refl
