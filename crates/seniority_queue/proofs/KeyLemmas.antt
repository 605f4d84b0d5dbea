-- A key and the place of its node in the list: lemmas for this crate's callers
use Rattle.std.proofs.Common.{◌≡◌, ◌≢◌, ℕ, zero, suc, ◌+◌, true, false, List, [], ◌∷◌, map, take, set, slice_get, find, Some, option_map, cond, AllPairs, refl, sym, ap, subst, ◌∙◌, arith}
use Rattle.std.proofs.lemmas.Bool.{and_from, and_left, and_parts, eq-eqb, ne_eqb, eqb-true}
use Rattle.std.proofs.lemmas.Option.{none-some, same_Some, get_or_from_slice_get, slice_get_within}
use Rattle.seniority_queue.specs.Listing.{LiveNode, Listing, has_key, get, first_key, key_after, through, with_value, IsSound}
use Rattle.seniority_queue.specs.declared.key.Key.{Key}

module _ {T : Type 0} where
  -- a node has its own key, and no other than that of the key
  pub has_key-own : (n : LiveNode T) → has_key n.key n ≡ true
  has_key-own n = and_from _ _ (eq-eqb n.key.index n.key.index refl) (eq-eqb n.key.name n.key.name refl)

  pub has_key-true : (key : Key) (n : LiveNode T) → has_key key n ≡ true → n.key ≡ key
  has_key-true key n passes =
      let parts = and_parts _ _ passes in
      let index : n.key.index ≡ key.index = eqb-true _ _ parts.0 in
      let name : n.key.name ≡ key.name = eqb-true _ _ parts.1 in
      λ i. record { index = index i; name = name i }

  -- indices that rise apart: the node at a place is the first with its key
  abbrev pub IndicesApart : List (LiveNode T) → Type 0
  IndicesApart = AllPairs (λ m n. m.key.index ≢ n.key.index)

  IndicesApart-tail : (m : LiveNode T) (rest : List (LiveNode T)) → IndicesApart (m ∷ rest) → IndicesApart rest
  IndicesApart-tail m rest apart = λ i j d order within. apart (suc i) (suc j) d (omega arith) (omega arith)

  has_key-earlier : (m : LiveNode T) (rest : List (LiveNode T)) (k : ℕ) (n : LiveNode T) → IndicesApart (m ∷ rest) → slice_get rest k ≡ Some n → has_key n.key m ≡ false
  has_key-earlier m rest k n apart at =
      let within = slice_get_within rest k n at in
      let differ = apart 0 (suc k) n (omega arith) (omega arith) in
      and_left _ _ (ne_eqb m.key.index n.key.index (λ same. differ (same ∙ ap (λ (x : LiveNode T). x.key.index) (sym (get_or_from_slice_get rest k n n at)))))

  pub find-at : (nodes : List (LiveNode T)) (k : ℕ) (n : LiveNode T) → IndicesApart nodes → slice_get nodes k ≡ Some n → find (has_key n.key) nodes ≡ Some n
  find-at [] k n apart at = absurd (none-some n at)
  find-at (m ∷ rest) zero n apart at =
      let same : m ≡ n = same_Some m n at in
      rw (← same, has_key-own m) refl
  find-at (m ∷ rest) (suc k) n apart at =
      rw (has_key-earlier m rest k n apart at) (find-at rest k n (IndicesApart-tail m rest apart) at)

  key_after-at : (nodes : List (LiveNode T)) (k : ℕ) (n : LiveNode T) → IndicesApart nodes → slice_get nodes k ≡ Some n → key_after n.key nodes ≡ option_map (λ m. m.key) (slice_get nodes (k + 1))
  key_after-at [] k n apart at = absurd (none-some n at)
  key_after-at (m ∷ rest) zero n apart at =
      let same : m ≡ n = same_Some m n at in
      rw (← same, has_key-own m) (first_key-is rest)
    where
      first_key-is : (xs : List (LiveNode T)) → first_key xs ≡ option_map (λ x. x.key) (slice_get xs 0)
      first_key-is [] = refl
      first_key-is (x ∷ xs) = refl
  key_after-at (m ∷ rest) (suc k) n apart at =
      let next : suc k + 1 ≡ suc (k + 1) = omega arith in
      rw (has_key-earlier m rest k n apart at, next) (key_after-at rest k n (IndicesApart-tail m rest apart) at)

  through-at : (nodes : List (LiveNode T)) (k : ℕ) (n : LiveNode T) → IndicesApart nodes → slice_get nodes k ≡ Some n → through n.key nodes ≡ take (k + 1) nodes
  through-at [] k n apart at = absurd (none-some n at)
  through-at (m ∷ rest) zero n apart at =
      let same : m ≡ n = same_Some m n at in
      rw (← same, has_key-own m) refl
  through-at (m ∷ rest) (suc k) n apart at =
      let next : suc k + 1 ≡ suc (k + 1) = omega arith in
      rw (has_key-earlier m rest k n apart at, next) (ap (λ ms. m ∷ ms) (through-at rest k n (IndicesApart-tail m rest apart) at))

  with_value-rest : (m : LiveNode T) (rest : List (LiveNode T)) (w : T) → IndicesApart (m ∷ rest) → map (λ (x : LiveNode T). cond (has_key m.key x) (record x { value = w }) x) rest ≡ rest
  with_value-rest m [] w apart = refl
  with_value-rest m (x ∷ rest) w apart =
      let other : has_key m.key x ≡ false = and_left _ _ (ne_eqb x.key.index m.key.index (λ same. apart 0 1 m (omega arith) (omega arith) (sym same))) in
      rw other (ap (λ xs. x ∷ xs) (with_value-rest m rest w (λ i j d order within. skip i j d order within)))
    where
      skip : IndicesApart (m ∷ rest)
      skip zero zero d order within = absurd (omega arith)
      skip zero (suc j) d order within = apart 0 (suc (suc j)) d (omega arith) (omega arith)
      skip (suc i) zero d order within = absurd (omega arith)
      skip (suc i) (suc j) d order within = apart (suc (suc i)) (suc (suc j)) d (omega arith) (omega arith)

  with_value-at : (nodes : List (LiveNode T)) (k : ℕ) (n : LiveNode T) (w : T) → IndicesApart nodes → slice_get nodes k ≡ Some n → map (λ (x : LiveNode T). cond (has_key n.key x) (record x { value = w }) x) nodes ≡ set nodes k (record n { value = w })
  with_value-at [] k n w apart at = absurd (none-some n at)
  with_value-at (m ∷ rest) zero n w apart at =
      let P : LiveNode T → Type 0 = λ y. map (λ (x : LiveNode T). cond (has_key y.key x) (record x { value = w }) x) (m ∷ rest) ≡ record y { value = w } ∷ rest in
      subst P (same_Some m n at) (rw (has_key-own m) (ap (λ xs. record m { value = w } ∷ xs) (with_value-rest m rest w apart)))
  with_value-at (m ∷ rest) (suc k) n w apart at =
      rw (has_key-earlier m rest k n apart at) (ap (λ xs. m ∷ xs) (with_value-at rest k n w (IndicesApart-tail m rest apart) at))

  module _ (q : Listing T) (sound : IsSound q) (k : ℕ) (n : LiveNode T) (at : slice_get q.nodes k ≡ Some n) where
    -- what a queue says at the key of the node at a place
    pub get-of_place : get q n.key ≡ Some n.value
    get-of_place = ap (option_map (λ (m : LiveNode T). m.value)) (find-at q.nodes k n sound.indices_apart at)

    pub key_after-of_place : key_after n.key q.nodes ≡ option_map (λ m. m.key) (slice_get q.nodes (k + 1))
    key_after-of_place = key_after-at q.nodes k n sound.indices_apart at

    pub through-of_place : through n.key q.nodes ≡ take (k + 1) q.nodes
    through-of_place = through-at q.nodes k n sound.indices_apart at

    pub with_value-of_place : (w : T) → (with_value q n.key w).nodes ≡ set q.nodes k (record n { value = w })
    with_value-of_place w = with_value-at q.nodes k n w sound.indices_apart at
