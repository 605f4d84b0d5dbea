-- The live node with a key, in the list and in the vector
use Rattle.std.proofs.Common.{◌≡◌, ℕ, ◌<◌, Bool, true, false, ◌&&◌, List, [], ◌∷◌, slice_get, find, Option, Some, None, is_some, option_map, option_and_then, unwrap_or, cond, eqb, refl, sym, ap, ◌∙◌, inl, inr, arith}
use Rattle.std.proofs.lemmas.Bool.Decides.{eqb_tells}
use Rattle.std.proofs.lemmas.Option.{same_Some}
use Rattle.seniority_queue.specs.Listing.{LiveNode, indices, has_key, first_key, last_key, key_after}
use Rattle.seniority_queue.specs.Node.{live_of, live_at, after_at, key_of, if_named}
use Rattle.seniority_queue.specs.Links.{IsChain, times, AllLive}
use Rattle.seniority_queue.specs.declared.key.Key.{Key}
use Rattle.seniority_queue.specs.declared.node.Node.{Node}
use Rattle.seniority_queue.proofs.Counts.{times-other}
use Rattle.seniority_queue.proofs.Chains.{last}

module _ {T : Type 0} where
  -- the value of a live node with this name
  abbrev pub value_named : ℕ → LiveNode T → Option T
  value_named name n = cond (eqb n.key.name name) (Some n.value) None

  -- looking in the list is looking at the index
  pub find-value : (nodes : List (Node T)) (live : List (LiveNode T)) (key : Key) → AllLive nodes live → ((n : LiveNode T) → live_at nodes key.index ≡ Some n → n.key.name ≡ key.name → 0 < times key.index (indices live)) → option_map (λ n. n.value) (find (has_key key) live) ≡ option_and_then (value_named key.name) (live_at nodes key.index)
  find-value nodes [] key held listed = absent (live_at nodes key.index) (λ n is named. omega (arith, listed n is named))
    where
      absent : (o : Option (LiveNode T)) → ((n : LiveNode T) → o ≡ Some n → n.key.name ≡ key.name → ⊥) → None ≡ option_and_then (value_named key.name) o
      absent None none_named = refl
      absent (Some n) none_named =
          elim (eqb_tells n.key.name key.name) [
            | inl same ↦ absurd (none_named n refl same.1)
            | inr differ ↦ rw differ.0 refl
          ]
  find-value nodes (n ∷ rest) key held listed =
      elim (eqb_tells n.key.index key.index) [
        | inl here ↦
            let at : live_at nodes key.index ≡ Some n = ap (live_at nodes) (sym here.1) ∙ held.0 in
            elim (eqb_tells n.key.name key.name) [
              | inl same ↦ rw (here.0, same.0, at, same.0) refl
              | inr differ ↦ rw (here.0, differ.0) (find-value nodes rest key held.1 (λ m is named. absurd (differ.1 (ap (λ (x : LiveNode T). x.key.name) (same_Some n m (sym at ∙ is)) ∙ named))))
            ]
        | inr other ↦ rw other.0 (find-value nodes rest key held.1 (λ m is named. omega (arith, listed m is named, times-other key.index n.key.index (indices rest) other.1)))
      ]

  -- the same of the value of the node that the code finds
  pub node_with-value : (name index : ℕ) (o : Option (Node T)) → option_and_then (λ n. n.value) (option_and_then (if_named name) o) ≡ option_and_then (value_named name) (option_and_then (live_of index) o)
  node_with-value name index None = refl
  node_with-value name index (Some n) = of_value (eqb n.name name) n.value refl refl
    where
      of_value : (b : Bool) (v : Option T) → eqb n.name name ≡ b → n.value ≡ v → option_and_then (λ (m : Node T). m.value) (cond (b && is_some v) (Some n) None) ≡ option_and_then (value_named name) (option_map (λ x. record { key = record { index = index; name = n.name }; value = x }) v)
      of_value true None named is = refl
      of_value true (Some x) named is = rw named is
      of_value false None named is = refl
      of_value false (Some x) named is = rw named refl

  -- the key of a live node
  key_of-node : (index : ℕ) (m : LiveNode T) (o : Option (Node T)) → option_and_then (live_of index) o ≡ Some m → record { index = index; name = unwrap_or (option_map (λ n. n.name) o) 0 } ≡ m.key
  key_of-node index m None is = cc
  key_of-node index m (Some n) is = of_value n.value is
    where
      of_value : (v : Option T) → option_map (λ x. record { key = record { index = index; name = n.name }; value = x }) v ≡ Some m → record { index = index; name = n.name } ≡ m.key
      of_value None is = cc
      of_value (Some x) is = ap (λ (y : LiveNode T). y.key) (same_Some _ _ is)

  pub key_of-live : (nodes : List (Node T)) (m : LiveNode T) → live_at nodes m.key.index ≡ Some m → key_of nodes m.key.index ≡ m.key
  key_of-live nodes m is = key_of-node m.key.index m (slice_get nodes m.key.index) is

  pub first_key-live : (nodes : List (Node T)) (live : List (LiveNode T)) → AllLive nodes live → option_map (key_of nodes) (slice_get (indices live) 0) ≡ first_key live
  first_key-live nodes [] held = refl
  first_key-live nodes (n ∷ rest) held = ap Some (key_of-live nodes n held.0)

  pub last_key-live : (nodes : List (Node T)) (live : List (LiveNode T)) → AllLive nodes live → option_map (key_of nodes) (last (indices live)) ≡ last_key live
  last_key-live nodes [] held = refl
  last_key-live nodes (n ∷ []) held = ap Some (key_of-live nodes n held.0)
  last_key-live nodes (n ∷ m ∷ rest) held = last_key-live nodes (m ∷ rest) held.1

  pub key_after-live : (nodes : List (Node T)) (live : List (LiveNode T)) (key : Key) → AllLive nodes live → IsChain (after_at nodes) (indices live) → key_after key live ≡ cond (is_some (find (has_key key) live)) (option_map (key_of nodes) (after_at nodes key.index)) None
  key_after-live nodes [] key held chain = refl
  key_after-live nodes (n ∷ rest) key held chain =
      elim (eqb_tells n.key.index key.index) [
        | inl here ↦
            elim (eqb_tells n.key.name key.name) [
              | inl same ↦
                  let next : after_at nodes key.index ≡ slice_get (indices rest) 0 = rw here.1 at chain.0 in
                  rw (here.0, same.0, next) (sym (first_key-live nodes rest held.1))
              | inr differ ↦ rw (here.0, differ.0) (key_after-live nodes rest key held.1 chain.1)
            ]
        | inr other ↦ rw other.0 (key_after-live nodes rest key held.1 chain.1)
      ]
