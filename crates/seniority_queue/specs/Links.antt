-- How the nodes are linked. No public clause cites this module.
use Rattle.std.specs.Prelude.{◌≡◌, ℕ, zero, suc, ◌+◌, ◌<◌, ◌≤◌, Bool, false, ◌==◌, if◌then◌else◌, List, [], ◌∷◌, length, reverse, count_by, slice_get, Option, Some, None, IsSome, option_map}
use Rattle.seniority_queue.specs.Listing.{LiveNode, indices}
use Rattle.seniority_queue.specs.Node.{live_of, live_at, before_at, after_at}
use Rattle.seniority_queue.specs.declared.node.Node.{Node}

-- each index leads to the next, and the last to none
abbrev pub IsChain : (ℕ → Option ℕ) → List ℕ → Type 0
IsChain next [] = Unit {0}
IsChain next (i ∷ rest) = (next i ≡ slice_get rest 0) × IsChain next rest

-- so many indices, from this one on
abbrev pub walk : (ℕ → Option ℕ) → ℕ → Option ℕ → List ℕ
walk next zero at = []
walk next (suc n) None = []
walk next (suc n) (Some i) = i ∷ walk next n (next i)

-- how often the index is in the list
abbrev pub times : ℕ → List ℕ → ℕ
times i xs = count_by (λ j. j == i) xs

abbrev pub is_at : Option ℕ → ℕ → Bool
is_at None j = false
is_at (Some i) j = j == i

module _ {T : Type 0} where
  -- each live node is what the node at its index says
  abbrev pub AllLive : List (Node T) → List (LiveNode T) → Type 0
  AllLive nodes [] = Unit {0}
  AllLive nodes (n ∷ rest) = (live_at nodes n.key.index ≡ Some n) × AllLive nodes rest

  -- none of these indices has a value
  abbrev pub AllVacant : List (Node T) → List ℕ → Type 0
  AllVacant nodes [] = Unit {0}
  AllVacant nodes (i ∷ rest) = (live_at nodes i ≡ None) × AllVacant nodes rest

  -- The links of the nodes: forward from the front they lead through the list, back from its end through the list's
  -- reverse, and from the first free node through the free ones. Each node is in exactly one of the two, once.
  pub record IsLinked (nodes : List (Node T)) (front back free : Option ℕ) (live : List (LiveNode T)) (vacant : List ℕ) : Type 0 where
    pub forward : IsChain (after_at nodes) (indices live)
    pub at_front : front ≡ slice_get (indices live) 0
    pub backward : IsChain (before_at nodes) (reverse (indices live))
    pub at_back : back ≡ slice_get (reverse (indices live)) 0
    pub chained : IsChain (after_at nodes) vacant
    pub at_free : free ≡ slice_get vacant 0
    pub values : AllLive nodes live
    pub no_value : AllVacant nodes vacant
    pub once : (i : ℕ) → i < length nodes → times i (indices live) + times i vacant ≡ 1
    pub inside : (i : ℕ) → length nodes ≤ i → times i (indices live) + times i vacant ≡ 0
    pub total : length live + length vacant ≡ length nodes

  -- the node at this index, if there is one, leads to another node now, and all else is as before
  pub record SetsAfter (old new : List (Node T)) (at to : Option ℕ) : Type 0 where
    pub size : length new ≡ length old
    pub after : (j : ℕ) → after_at new j ≡ (if is_at at j then to else after_at old j)
    pub before : (j : ℕ) → before_at new j ≡ before_at old j
    pub live : (j : ℕ) → live_at new j ≡ live_at old j

  pub record SetsBefore (old new : List (Node T)) (at to : Option ℕ) : Type 0 where
    pub size : length new ≡ length old
    pub after : (j : ℕ) → after_at new j ≡ after_at old j
    pub before : (j : ℕ) → before_at new j ≡ (if is_at at j then to else before_at old j)
    pub live : (j : ℕ) → live_at new j ≡ live_at old j

  -- the node at this index is now this one
  pub record Writes (old new : List (Node T)) (index : ℕ) (n : Node T) : Type 0 where
    pub size : length new ≡ length old
    pub after : (j : ℕ) → after_at new j ≡ (if j == index then n.after else after_at old j)
    pub before : (j : ℕ) → before_at new j ≡ (if j == index then n.before else before_at old j)
    pub live : (j : ℕ) → live_at new j ≡ (if j == index then live_of index n else live_at old j)

  abbrev pub HoldsValue : List (Node T) → ℕ → Type 0
  HoldsValue nodes index = IsSome (live_at nodes index)

  -- the node at this index lost this value, and leads to `next` now
  pub record Vacates (old new : List (Node T)) (index : ℕ) (next : Option ℕ) (value : T) : Type 0 where
    pub had : option_map (λ n. n.value) (live_at old index) ≡ Some value
    pub size : length new ≡ length old
    pub after : (j : ℕ) → after_at new j ≡ (if j == index then next else after_at old j)
    pub before : (j : ℕ) → before_at new j ≡ (if j == index then None else before_at old j)
    pub live : (j : ℕ) → live_at new j ≡ (if j == index then None else live_at old j)
