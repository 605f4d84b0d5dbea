-- Which keys are no longer, or not yet, those of live nodes
use Rattle.std.proofs.Common.{◌≡◌, ◌≢◌, ℕ, suc, ◌<◌, Bool, false, List, [], ◌∷◌, length, drop, get_or, find, None, IfSome, option_map, AllPairs, refl, sym, ap, subst, ◌∙◌, inl, inr, arith}
use Rattle.std.proofs.lemmas.Bool.{cases_Bool, and_left, and_right, ne_eqb}
use Rattle.seniority_queue.specs.Listing.{LiveNode, Listing, has_key, first_key, through, younger, IsGone, IsSound}
use Rattle.seniority_queue.specs.declared.key.Key.{Key}

find-none : {X : Type 0} (p : X → Bool) (xs : List X) → ((k : ℕ) (d : X) → k < length xs → p (get_or xs k d) ≡ false) → find p xs ≡ None
find-none p [] fails = refl
find-none p (x ∷ rest) fails = rw (fails 0 x (omega arith)) (find-none p rest (λ k d within. fails (suc k) d (omega arith)))

module _ {T : Type 0} where
  -- a name that isn't made yet is that of no live node
  pub IsGone-unmade : (q : Listing T) (key : Key) → IsSound q → key.name ≡ q.made → IsGone q key
  IsGone-unmade q key sound unmade =
      ap (option_map (λ (n : LiveNode T). n.value)) (find-none (has_key key) q.nodes (λ k d within.
      and_right _ _ (ne_eqb (get_or q.nodes k d).key.name key.name (λ same. omega (arith, sound.name_below k d within)))))

  -- the key of the oldest node isn't that of a later one
  pub IsGone-drop : (nodes : List (LiveNode T)) → AllPairs (λ m n. m.key.index ≢ n.key.index) nodes → IfSome (first_key nodes) (λ key. option_map (λ n. n.value) (find (has_key key) (drop 1 nodes)) ≡ None)
  IsGone-drop [] apart = tt
  IsGone-drop (m ∷ rest) apart =
      ap (option_map (λ (n : LiveNode T). n.value)) (find-none (has_key m.key) rest (λ k d within.
      and_left _ _ (ne_eqb (get_or rest k d).key.index m.key.index (λ same. apart 0 (suc k) d (omega arith) (omega arith) (sym same)))))

  -- a younger node stands in the list
  younger-at : (key : Key) (nodes : List (LiveNode T)) (j : ℕ) (d : LiveNode T) → j < length (younger key nodes) → (k : ℕ) × (k < length nodes) × (get_or nodes k d ≡ get_or (younger key nodes) j d)
  younger-at key [] j d within = absurd (omega arith)
  younger-at key (m ∷ rest) j d within =
      elim (cases_Bool (has_key key m)) [
        | inl here ↦ rw here (suc j, omega (arith, rw here at within), refl)
        | inr there ↦
            let later = younger-at key rest j d (rw there at within) in
            rw there (suc later.0, omega (arith, later.1), later.2)
      ]

  -- and isn't left by a cut
  pub IsGone-through : (key : Key) (nodes : List (LiveNode T)) (j : ℕ) (d : LiveNode T) → AllPairs (λ m n. m.key.index ≢ n.key.index) nodes → j < length (younger key nodes) → find (has_key (get_or (younger key nodes) j d).key) (through key nodes) ≡ None
  IsGone-through key [] j d apart within = refl
  IsGone-through key (m ∷ rest) j d apart within =
      elim (cases_Bool (has_key key m)) [
        | inl here ↦
            let other : has_key (get_or rest j d).key m ≡ false = and_left _ _ (ne_eqb m.key.index (get_or rest j d).key.index (apart 0 (suc j) d (omega arith) (omega (arith, rw here at within)))) in
            rw (here, other) refl
        | inr there ↦
            let inside = rw there at within in
            let at = younger-at key rest j d inside in
            let other : has_key (get_or (younger key rest) j d).key m ≡ false = and_left _ _ (ne_eqb m.key.index (get_or (younger key rest) j d).key.index (λ same. apart 0 (suc at.0) d (omega arith) (omega (arith, at.1)) (same ∙ ap (λ (x : LiveNode T). x.key.index) (sym at.2)))) in
            let same : younger key (m ∷ rest) ≡ younger key rest = rw there refl in
            let P : List (LiveNode T) → Type 0 = λ ys. find (has_key (get_or ys j d).key) (through key (m ∷ rest)) ≡ None in
            subst P (sym same) (rw (there, other) (IsGone-through key rest j d (λ a b e order later. apart (suc a) (suc b) e (omega arith) (omega arith)) inside))
      ]
