-- A value that is replaced through a `&mut`
use Rattle.std.proofs.Common.{◌≡◌, ◌≢◌, ◌&&◌, ℕ, ◌+◌, ◌<◌, Bool, true, false, List, [], ◌∷◌, length, map, set, reverse, slice_get, Option, Some, None, is_some, IsSome, option_map, option_and_then, cond, eqb, refl, sym, ap, ◌∙◌, inl, inr, arith, length-set}
use Rattle.std.proofs.lemmas.Bool.{cases_Bool, cases_lt, and_parts, and_left, and_from, eqb-true, eq-eqb, ne_eqb, both_ways}
use Rattle.std.proofs.lemmas.Bool.Decides.{eqb_tells}
use Rattle.std.proofs.lemmas.List.{length-map}
use Rattle.std.proofs.lemmas.Option.{same_Some, none-some, slice_get_within, slice_get_past}
use Rattle.seniority_queue.specs.Listing.{LiveNode, Listing, indices, has_key, get, IsLive, with_value}
use Rattle.seniority_queue.specs.Node.{live_of, live_at, before_at, after_at, if_named, node_with}
use Rattle.seniority_queue.specs.Links.{times, AllLive, Writes}
use Rattle.seniority_queue.specs.Stands.{listing_of, NamesRise, Stands}
use Rattle.seniority_queue.specs.declared.key.Key.{Key}
use Rattle.seniority_queue.specs.declared.node.Node.{Node}
use Rattle.seniority_queue.proofs.Nodes.{Writes-set}
use Rattle.seniority_queue.proofs.Chains.{IsChain-agree}
use Rattle.seniority_queue.proofs.Linked.{AllVacant-agree, at_most_once}
use Rattle.seniority_queue.proofs.Stood.{seen_as}
use Rattle.seniority_queue.proofs.Seen.{get_read, listed_at}
use Rattle.seniority_queue.proofs.Leaves.{Leaves, leaves}

module _ {T : Type 0} where
  -- this node with the value w, if it has the key
  abbrev pub replaced : Key → T → LiveNode T → LiveNode T
  replaced key w m = cond (has_key key m) (record m { value = w }) m

  map-replaced : {Y : Type 0} (f : LiveNode T → Y) (key : Key) (w : T) (live : List (LiveNode T)) → ((m : LiveNode T) → f (record m { value = w }) ≡ f m) → map f (map (replaced key w) live) ≡ map f live
  map-replaced f key w [] same = refl
  map-replaced f key w (m ∷ rest) same =
      elim (cases_Bool (has_key key m)) [
        | inl here ↦ rw (here, same m, map-replaced f key w rest same) refl
        | inr there ↦ rw (there, map-replaced f key w rest same) refl
      ]

  pub NamesRise-replaced : (low : ℕ) (key : Key) (w : T) (live : List (LiveNode T)) (made : ℕ) → NamesRise low live made → NamesRise low (map (replaced key w) live) made
  NamesRise-replaced low key w [] made rise = rise
  NamesRise-replaced low key w (m ∷ rest) made rise =
      let later = NamesRise-replaced (m.key.name + 1) key w rest made rise.1 in
      elim (cases_Bool (has_key key m)) [ inl here ↦ rw here (rise.0, later) | inr there ↦ rw there (rise.0, later) ]

  module _ (nodes : List (Node T)) (key : Key) (n : Node T) (w : T) (at : slice_get nodes key.index ≡ Some n) (named : n.name ≡ key.name) where
    rewritten : Writes nodes (set nodes key.index (record n { value = Some w })) key.index (record n { value = Some w })
    rewritten = Writes-set nodes key.index (record n { value = Some w }) (slice_get_within nodes key.index n at)

    after_same : (j : ℕ) → after_at (set nodes key.index (record n { value = Some w })) j ≡ after_at nodes j
    after_same j = rewritten.after j ∙ elim (eqb_tells j key.index) [ inl here ↦ rw (here.0, here.1, at) refl | inr other ↦ rw other.0 refl ]

    before_same : (j : ℕ) → before_at (set nodes key.index (record n { value = Some w })) j ≡ before_at nodes j
    before_same j = rewritten.before j ∙ elim (eqb_tells j key.index) [ inl here ↦ rw (here.0, here.1, at) refl | inr other ↦ rw other.0 refl ]

    live_other : (j : ℕ) → j ≢ key.index → live_at (set nodes key.index (record n { value = Some w })) j ≡ live_at nodes j
    live_other j differ = rewritten.live j ∙ rw (ne_eqb j key.index differ) refl

    -- the key of what was there
    key_was : (m : LiveNode T) → live_at nodes m.key.index ≡ Some m → m.key.index ≡ key.index → m.key ≡ key
    key_was m held here = of_value n.value (ap (option_and_then (live_of key.index)) (sym at) ∙ ap (live_at nodes) (sym here) ∙ held)
      where
        of_value : (v : Option T) → option_map (λ x. record { key = record { index = key.index; name = n.name }; value = x }) v ≡ Some m → m.key ≡ key
        of_value None is = absurd (none-some m is)
        of_value (Some x) is = sym (ap (λ (y : LiveNode T). y.key) (same_Some _ _ is)) ∙ ap (λ k. record { index = key.index; name = k }) named

    AllLive-replaced : (live : List (LiveNode T)) → AllLive nodes live → AllLive (set nodes key.index (record n { value = Some w })) (map (replaced key w) live)
    AllLive-replaced [] held = tt
    AllLive-replaced (m ∷ rest) held =
        let later = AllLive-replaced rest held.1 in
        elim (eqb_tells m.key.index key.index) [
          | inl here ↦
              let is = key_was m held.0 here.1 in
              let has : has_key key m ≡ true = and_from _ _ here.0 (eq-eqb m.key.name key.name (ap (λ (k : Key). k.name) is)) in
              let new : live_at (set nodes key.index (record n { value = Some w })) m.key.index ≡ Some (record m { value = w }) =
              rewritten.live m.key.index ∙ rw here.0 (ap (λ k. Some (record { key = k; value = w })) (ap (λ a. record { index = key.index; name = a }) named ∙ sym is)) in
              rw has (new, later)
          | inr other ↦
              let has : has_key key m ≡ false = and_left _ _ other.0 in
              rw has (live_other m.key.index other.1 ∙ held.0, later)
        ]

  module _ {nodes : List (Node T)} {front back free : Option ℕ} {len made : ℕ} {q : Listing T} (s : Stands nodes front back free len made) (is : listing_of nodes front len made ≡ q) (key : Key) (live : IsLive q key) where
    -- the key of a live node has a node, with its name and a value
    pub key_inside : key.index < length nodes
    key_inside =
        elim (cases_lt key.index (length nodes)) [
          | inl within ↦ within
          | inr past ↦
              let none : node_with key nodes ≡ None = ap (option_and_then (if_named key.name)) (slice_get_past nodes key.index past) in
              absurd (both_ways false refl (rw none at (rw (← get_read s is key) at live)))
        ]

    pub key_node : (n : Node T) → slice_get nodes key.index ≡ Some n → (n.name ≡ key.name) × IsSome n.value
    key_node n at =
        let found : is_some (option_and_then (λ (m : Node T). m.value) (if_named key.name n)) ≡ true = rw at at (rw (← get_read s is key) at live) in
        by_test _ refl found
      where
        by_test : (b : Bool) → (eqb n.name key.name && is_some n.value) ≡ b → is_some (option_and_then (λ (m : Node T). m.value) (cond b (Some n) None)) ≡ true → (n.name ≡ key.name) × IsSome n.value
        by_test true is found = (eqb-true _ _ (and_parts _ _ is).0, (and_parts _ _ is).1)
        by_test false is found = absurd (both_ways false refl found)

    pub key_value : (n : Node T) → slice_get nodes key.index ≡ Some n → get q key ≡ n.value
    key_value n at =
        let known = key_node n at in
        let test : (eqb n.name key.name && is_some n.value) ≡ true = and_from _ _ (eq-eqb _ _ known.0) known.1 in
        sym (get_read s is key) ∙ rw (at, test) refl

    -- the queue with another value there
    pub rewrite-leaves : (n : Node T) (w : T) → slice_get nodes key.index ≡ Some n → Leaves (set nodes key.index (record n { value = Some w })) front back free len made (with_value q key w)
    rewrite-leaves n w at =
        let known = key_node n at in
        let l = s.linked in
        let among = listed_at s key.index n at known.1 in
        let same_indices : indices (map (replaced key w) s.live) ≡ indices s.live = map-replaced (λ (m : LiveNode T). m.key.index) key w s.live (λ m. refl) in
        let sizes : length (set nodes key.index (record n { value = Some w })) ≡ length nodes = length-set nodes key.index (record n { value = Some w }) in
        let counts : length (map (replaced key w) s.live) ≡ length s.live = length-map s.live (replaced key w) in
        let apart : (j : ℕ) → 0 < times j s.vacant → j ≢ key.index = λ j also e. omega (arith, at_most_once nodes front back free s.live s.vacant l key.index, rw e at also) in
        let stands : Stands (set nodes key.index (record n { value = Some w })) front back free len made = record {
          live = map (replaced key w) s.live;
          vacant = s.vacant;
          linked = record {
            forward = rw same_indices (IsChain-agree (after_at nodes) (after_at (set nodes key.index (record n { value = Some w }))) (indices s.live) (λ j also. after_same nodes key n w at known.0 j) l.forward);
            at_front = rw same_indices l.at_front;
            backward = rw same_indices (IsChain-agree (before_at nodes) (before_at (set nodes key.index (record n { value = Some w }))) (reverse (indices s.live)) (λ j also. before_same nodes key n w at known.0 j) l.backward);
            at_back = rw same_indices l.at_back;
            chained = IsChain-agree (after_at nodes) (after_at (set nodes key.index (record n { value = Some w }))) s.vacant (λ j also. after_same nodes key n w at known.0 j) l.chained;
            at_free = l.at_free;
            values = AllLive-replaced nodes key n w at known.0 s.live l.values;
            no_value = AllVacant-agree nodes (set nodes key.index (record n { value = Some w })) s.vacant (λ j also. live_other nodes key n w at known.0 j (apart j also)) l.no_value;
            once = λ j below. rw same_indices (l.once j (omega (arith, sizes)));
            inside = λ j above. rw same_indices (l.inside j (omega (arith, sizes)));
            total = omega (arith, l.total, sizes, counts);
          };
          count = omega (arith, s.count, counts);
          named = NamesRise-replaced 0 key w s.live made s.named;
          fits = omega (arith, s.fits, sizes);
        } in
        leaves _ _ _ _ _ _ (with_value q key w) stands (rw (seen_as s is) refl)
