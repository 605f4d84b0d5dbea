-- What the fields of a queue say of its listing
use Rattle.std.proofs.Common.{◌≡◌, ℕ, ◌<◌, true, false, List, [], ◌∷◌, length, reverse, slice_get, find, Option, Some, None, is_some, IsSome, option_map, option_and_then, refl, sym, ap, ◌∙◌, inl, inr, arith}
use Rattle.std.proofs.lemmas.Bool.{cases_lt, and_parts, both_ways}
use Rattle.std.proofs.lemmas.Option.{same_Some, none-some, cond_some, slice_get_past}
use Rattle.seniority_queue.specs.Listing.{LiveNode, Listing, indices, has_key, first_key, last_key, key_after, get}
use Rattle.seniority_queue.specs.Node.{live_of, live_at, before_at, after_at, key_of, if_named, node_with}
use Rattle.seniority_queue.specs.Links.{IsChain, times, AllLive, AllVacant, HoldsValue}
use Rattle.seniority_queue.specs.Stands.{listing_of, Stands}
use Rattle.seniority_queue.specs.declared.key.Key.{Key}
use Rattle.seniority_queue.specs.declared.node.Node.{Node}
use Rattle.seniority_queue.proofs.Counts.{times-none, times-cons, times-cons-le, times-reverse}
use Rattle.seniority_queue.proofs.Chains.{first-reverse}
use Rattle.seniority_queue.proofs.Linked.{is_inside}
use Rattle.seniority_queue.proofs.Stood.{seen_as, nodes_are}
use Rattle.seniority_queue.proofs.Found.{find-value, node_with-value, first_key-live, last_key-live, key_after-live}

first_among : (xs : List ℕ) (i : ℕ) → slice_get xs 0 ≡ Some i → 0 < times i xs
first_among [] i is = absurd (none-some i is)
first_among (j ∷ rest) i is = elim (times-cons i j rest) [ inl here ↦ omega (arith, here.1) | inr there ↦ absurd (there.0 (same_Some j i is)) ]

first_some : (xs : List ℕ) → 0 < length xs → is_some (slice_get xs 0) ≡ true
first_some [] some = absurd (omega arith)
first_some (i ∷ rest) some = refl

-- a chain doesn't lead out of itself
IsChain-among : (next : ℕ → Option ℕ) (xs : List ℕ) (i j : ℕ) → IsChain next xs → 0 < times i xs → next i ≡ Some j → 0 < times j xs
IsChain-among next [] i j chain among leads = absurd (omega (arith, times-none i))
IsChain-among next (k ∷ rest) i j chain among leads =
    elim (times-cons i k rest) [
      | inl here ↦ omega (arith, first_among rest j (sym chain.0 ∙ ap next here.0 ∙ leads), times-cons-le j k rest)
      | inr there ↦ omega (arith, IsChain-among next rest i j chain.1 (omega (arith, there.1)) leads, times-cons-le j k rest)
    ]

pub is_some-map : {X Y : Type 0} (f : X → Y) (o : Option X) → is_some (option_map f o) ≡ is_some o
is_some-map f None = refl
is_some-map f (Some x) = refl

module _ {T : Type 0} where
  pub if_named-some : (name : ℕ) (o : Option (Node T)) (n : Node T) → option_and_then (if_named name) o ≡ Some n → (o ≡ Some n) × IsSome n.value
  if_named-some name None n is = absurd (none-some n is)
  if_named-some name (Some m) n is =
      let found = cond_some _ m n is in
      (ap Some found.1, ap (λ (x : Node T). is_some x.value) (sym found.1) ∙ (and_parts _ _ found.0).1)

  AllLive-holds : (nodes : List (Node T)) (live : List (LiveNode T)) (i : ℕ) → AllLive nodes live → 0 < times i (indices live) → HoldsValue nodes i
  AllLive-holds nodes [] i held among = absurd (omega (arith, times-none i))
  AllLive-holds nodes (n ∷ rest) i held among =
      elim (times-cons i n.key.index (indices rest)) [
        | inl here ↦ ap is_some (ap (live_at nodes) (sym here.0) ∙ held.0)
        | inr there ↦ AllLive-holds nodes rest i held.1 (omega (arith, there.1))
      ]

  AllVacant-none : (nodes : List (Node T)) (vacant : List ℕ) (i : ℕ) → AllVacant nodes vacant → 0 < times i vacant → live_at nodes i ≡ None
  AllVacant-none nodes [] i held among = absurd (omega (arith, times-none i))
  AllVacant-none nodes (j ∷ rest) i held among =
      elim (times-cons i j rest) [
        | inl here ↦ ap (live_at nodes) (sym here.0) ∙ held.0
        | inr there ↦ AllVacant-none nodes rest i held.1 (omega (arith, there.1))
      ]

  module _ {nodes : List (Node T)} {front back free : Option ℕ} {len made : ℕ} (s : Stands nodes front back free len made) where
    pub front_among : (i : ℕ) → front ≡ Some i → 0 < times i (indices s.live)
    front_among i is = first_among (indices s.live) i (sym s.linked.at_front ∙ is)

    pub back_among : (i : ℕ) → back ≡ Some i → 0 < times i (indices s.live)
    back_among i is = rw times-reverse at (first_among (reverse (indices s.live)) i (sym s.linked.at_back ∙ is))

    pub free_among : (i : ℕ) → free ≡ Some i → 0 < times i s.vacant
    free_among i is = first_among s.vacant i (sym s.linked.at_free ∙ is)

    pub inside_among : (i : ℕ) → 0 < times i (indices s.live) → i < length nodes
    inside_among i among = is_inside nodes front back free s.live s.vacant s.linked i (omega arith)

    pub inside_vacant : (i : ℕ) → 0 < times i s.vacant → i < length nodes
    inside_vacant i among = is_inside nodes front back free s.live s.vacant s.linked i (omega arith)

    pub holds_among : (i : ℕ) → 0 < times i (indices s.live) → HoldsValue nodes i
    holds_among i among = AllLive-holds nodes s.live i s.linked.values among

    pub after_among : (i j : ℕ) → 0 < times i (indices s.live) → after_at nodes i ≡ Some j → j < length nodes
    after_among i j among leads = inside_among j (IsChain-among (after_at nodes) (indices s.live) i j s.linked.forward among leads)

    pub before_among : (i j : ℕ) → 0 < times i (indices s.live) → before_at nodes i ≡ Some j → j < length nodes
    before_among i j among leads =
        inside_among j (rw times-reverse at (IsChain-among (before_at nodes) (reverse (indices s.live)) i j s.linked.backward (rw times-reverse among) leads))

    -- a node with a value is in the list
    pub among_holds : (i : ℕ) (n : LiveNode T) → live_at nodes i ≡ Some n → 0 < times i (indices s.live)
    among_holds i n is =
        elim (cases_lt 0 (times i (indices s.live))) [
          | inl among ↦ among
          | inr absent ↦ elim (cases_lt i (length nodes)) [
            | inl within ↦ absurd (none-some n (sym (AllVacant-none nodes s.vacant i s.linked.no_value (omega (arith, s.linked.once i within))) ∙ is))
            | inr past ↦ absurd (none-some n (sym (ap (option_and_then (live_of i)) (slice_get_past nodes i past)) ∙ is))
          ]
        ]

    pub listed_at : (i : ℕ) (n : Node T) → slice_get nodes i ≡ Some n → IsSome n.value → 0 < times i (indices s.live)
    listed_at i n at some = by_value n.value refl
      where
        by_value : (v : Option T) → n.value ≡ v → 0 < times i (indices s.live)
        by_value None none = absurd (both_ways false refl (rw none at some))
        by_value (Some v) held = among_holds i (record { key = record { index = i; name = n.name }; value = v }) (rw (at, held) refl)

    module _ {q : Listing T} (is : listing_of nodes front len made ≡ q) where
      -- a spare node is there to be taken
      pub free_some : 0 < q.spare → IsSome free
      free_some spare =
          let left : q.spare ≡ length s.vacant = ap (λ (x : Listing T). x.spare) (seen_as s is) in
          rw s.linked.at_free (first_some s.vacant (omega arith))

      pub front_read : option_map (key_of nodes) front ≡ first_key q.nodes
      front_read = rw (nodes_are s is, s.linked.at_front) (first_key-live nodes s.live s.linked.values)

      pub back_read : option_map (key_of nodes) back ≡ last_key q.nodes
      back_read = rw (nodes_are s is, s.linked.at_back, first-reverse) (last_key-live nodes s.live s.linked.values)

      pub get_read : (key : Key) → option_and_then (λ n. n.value) (node_with key nodes) ≡ get q key
      get_read key =
          rw (nodes_are s is) (node_with-value key.name key.index (slice_get nodes key.index) ∙ sym (find-value nodes s.live key s.linked.values (λ n at named. among_holds key.index n at)))

      found_as : (key : Key) → is_some (find (has_key key) s.live) ≡ is_some (option_and_then (λ n. n.value) (node_with key nodes))
      found_as key = sym (is_some-map (λ (n : LiveNode T). n.value) (find (has_key key) s.live)) ∙ ap is_some (rw (nodes_are s is) at (sym (get_read key)))

      pub after_none : (key : Key) → node_with key nodes ≡ None → key_after key q.nodes ≡ None
      after_none key none =
          let absent : is_some (find (has_key key) s.live) ≡ false = found_as key ∙ rw none refl in
          rw (nodes_are s is, key_after-live nodes s.live key s.linked.values s.linked.forward, absent) refl

      pub after_some : (key : Key) (n : Node T) → node_with key nodes ≡ Some n → key_after key q.nodes ≡ option_map (key_of nodes) n.after
      after_some key n some =
          let at = if_named-some key.name (slice_get nodes key.index) n some in
          let present : is_some (find (has_key key) s.live) ≡ true = found_as key ∙ rw some at.1 in
          rw (nodes_are s is, key_after-live nodes s.live key s.linked.values s.linked.forward, present, at.0) refl

      -- the same of what the code found in a slice of the nodes
      module _ (key : Key) (slice : List (Node T)) (same : slice ≡ nodes) where
        pub get_found : (o : Option (Node T)) → o ≡ node_with key slice → option_and_then (λ n. n.value) o ≡ get q key
        get_found o found = ap (option_and_then (λ (n : Node T). n.value)) (found ∙ ap (node_with key) same) ∙ get_read key

        pub after_found : (o : Option (Node T)) → o ≡ node_with key slice → option_and_then (λ n. option_map (key_of slice) n.after) o ≡ key_after key q.nodes
        after_found None found = sym (after_none key (sym (found ∙ ap (node_with key) same)))
        after_found (Some n) found = rw same (sym (after_some key n (sym (found ∙ ap (node_with key) same))))

        pub live_found : (o : Option (Node T)) → o ≡ node_with key slice → is_some o ≡ is_some (get q key)
        live_found None found = ap is_some (get_found None found)
        live_found (Some n) found = sym (if_named-some key.name (slice_get slice key.index) n (sym found)).1 ∙ ap is_some (get_found (Some n) found)

        pub after_inside : (n : Node T) → Some n ≡ node_with key slice → (j : ℕ) → n.after ≡ Some j → j < length nodes
        after_inside n found j leads =
            let at = if_named-some key.name (slice_get nodes key.index) n (sym (found ∙ ap (node_with key) same)) in
            let next : after_at nodes key.index ≡ Some j = rw at.0 leads in
            after_among key.index j (listed_at key.index n at.0 at.1) next
