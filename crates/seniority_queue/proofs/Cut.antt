-- `cut_after`, one node after another
use Rattle.std.proofs.Common.{◌≡◌, ◌⊎◌, ◌+◌, ◌-◌, ◌<◌, ◌≤◌, true, false, List, [], ◌∷◌, ◌++◌, length, take, is_some, IsSome, refl, ap, inl, inr, arith, length-append}
use Rattle.std.proofs.lemmas.Bool.{cases_Bool, both_ways}
use Rattle.std.proofs.lemmas.List.{take_at}
use Rattle.seniority_queue.specs.Listing.{LiveNode, Listing, has_key, key_after, through, keeping}
use Rattle.seniority_queue.specs.declared.key.Key.{Key}

-- a list is empty, or has a last element
pub split_last : {X : Type 0} (xs : List X) → (xs ≡ []) ⊎ ((ys : List X) × (y : X) × (xs ≡ ys ++ y ∷ []))
split_last [] = inl refl
split_last (x ∷ rest) =
    elim (split_last rest) [
      | inl none ↦ inr ([], x, ap (λ ys. x ∷ ys) none)
      | inr some ↦ inr (x ∷ some.0, some.1, ap (λ ys. x ∷ ys) some.2)
    ]

pub take-push : {X : Type 0} (xs : List X) (y : X) → take (length (xs ++ y ∷ []) - 1) (xs ++ y ∷ []) ≡ xs
take-push xs y = take_at xs (y ∷ []) (length (xs ++ y ∷ []) - 1) (omega (arith, length-append xs (y ∷ [])))

module _ {T : Type 0} where
  -- where the node with the key has a follower, the last node doesn't matter
  through-push : (key : Key) (xs : List (LiveNode T)) (n : LiveNode T) → IsSome (key_after key (xs ++ n ∷ [])) → through key (xs ++ n ∷ []) ≡ through key xs
  through-push key [] n follows =
      elim (cases_Bool (has_key key n)) [
        | inl here ↦ absurd (both_ways false refl (rw here at follows))
        | inr there ↦ absurd (both_ways false refl (rw there at follows))
      ]
  through-push key (m ∷ xs) n follows =
      elim (cases_Bool (has_key key m)) [
        | inl here ↦ rw here refl
        | inr there ↦
            rw there (ap (λ ms. m ∷ ms) (through-push key xs n (rw there at follows)))
      ]

  -- where it has none, all stay
  through-all : (key : Key) (xs : List (LiveNode T)) → is_some (key_after key xs) ≡ false → through key xs ≡ xs
  through-all key [] alone = refl
  through-all key (m ∷ []) alone = elim (cases_Bool (has_key key m)) [ inl here ↦ rw here refl | inr there ↦ rw there refl ]
  through-all key (m ∷ k ∷ rest) alone =
      elim (cases_Bool (has_key key m)) [
        | inl here ↦ absurd (both_ways true (rw here at alone) refl)
        | inr there ↦ rw there (ap (λ ms. m ∷ ms) (through-all key (k ∷ rest) (rw there at alone)))
      ]

  through-le : (key : Key) (xs : List (LiveNode T)) → length (through key xs) ≤ length xs
  through-le key [] = omega arith
  through-le key (m ∷ xs) =
      elim (cases_Bool (has_key key m)) [
        | inl here ↦ rw here (omega arith)
        | inr there ↦ rw there (omega (arith, through-le key xs))
      ]

  -- one node less at the end leaves the same to be cut
  pub cut-step : (q : Listing T) (key : Key) → IsSome (key_after key q.nodes) → (keeping (keeping q (take (length q.nodes - 1) q.nodes)) (through key (take (length q.nodes - 1) q.nodes)) ≡ keeping q (through key q.nodes)) × (length (take (length q.nodes - 1) q.nodes) < length q.nodes)
  cut-step q key follows =
      elim (split_last q.nodes) [
        | inl none ↦ absurd (both_ways false refl (rw none at follows))
        | inr some ↦
            let xs = some.0 in
            let n = some.1 in
            let cut = through-push key xs n (rw some.2 at follows) in
            let longer = length-append xs (n ∷ []) in
            let spares : q.spare + (length (xs ++ n ∷ []) - length xs) + (length xs - length (through key xs)) ≡ q.spare + (length (xs ++ n ∷ []) - length (through key xs)) = omega (arith, longer, through-le key xs) in
            rw (some.2, take-push xs n, cut) (ap (λ s. record { nodes = through key xs; spare = s; made = q.made }) spares, omega (arith, longer))
      ]

  -- where nothing follows, nothing is left to be cut
  pub cut-done : (q : Listing T) (key : Key) → is_some (key_after key q.nodes) ≡ false → keeping q (through key q.nodes) ≡ q
  cut-done q key alone =
      let none : q.spare + (length q.nodes - length q.nodes) ≡ q.spare = omega arith in
      rw (through-all key q.nodes alone, none) refl
