-- What a contract sees of a queue
use Rattle.std.specs.Prelude.{◌≡◌, ◌≢◌, ℕ, ◌+◌, ◌-◌, ◌<◌, ◌^◌, Bool, ◌&&◌, ◌==◌, if◌then◌else◌, List, [], ◌∷◌, ◌++◌, map, length, find, All, AllPairs, Option, Some, None, option_map, IsSome, refl}
use Rattle.std.specs.Coded.{Coded, code_by, coded×, coded_ℕ, coded_list}
use Rattle.seniority_queue.specs.declared.key.Key.{Key}

-- a live node: its key, and its value
pub record LiveNode (T : Type 0) : Type 0 where
  pub key : Key
  pub value : T

-- the live nodes, oldest first; how many more may be put in without memory; how many were ever put in
pub record Listing (T : Type 0) : Type 0 where
  pub nodes : List (LiveNode T)
  pub spare : ℕ
  pub made : ℕ

abbrev pub live_node_code : {T : Type 0} → Coded T → Coded (LiveNode T)
live_node_code {T} code =
    code_by
    (ℕ × (ℕ × T))
    (coded× coded_ℕ (coded× coded_ℕ code))
    (λ n. (n.key.index, (n.key.name, n.value)))
    (λ p. record { key = record { index = p.0; name = p.1.0 }; value = p.1.1 })
    (λ _. refl)

-- a listing is stored as the tuple of its fields
abbrev pub listing_code : {T : Type 0} → Coded T → Coded (Listing T)
listing_code {T} code =
    code_by
    (List (LiveNode T) × (ℕ × ℕ))
    (coded× (coded_list (live_node_code code)) (coded× coded_ℕ coded_ℕ))
    (λ q. (q.nodes, (q.spare, q.made)))
    (λ p. record { nodes = p.0; spare = p.1.0; made = p.1.1 })
    (λ _. refl)

module _ {T : Type 0} where
  abbrev pub empty_listing : Listing T
  empty_listing = record { nodes = []; spare = 0; made = 0 }

  -- the indices of these nodes
  abbrev pub indices : List (LiveNode T) → List ℕ
  indices = map (λ n. n.key.index)

  -- the node has this key
  abbrev pub has_key : Key → LiveNode T → Bool
  has_key key n = (n.key.index == key.index) && (n.key.name == key.name)

  -- the value of the live node with this key
  abbrev pub get : Listing T → Key → Option T
  get q key = option_map (λ n. n.value) (find (has_key key) q.nodes)

  -- a live node has this key
  abbrev pub IsLive : Listing T → Key → Type 0
  IsLive q key = IsSome (get q key)

  -- no live node has this key
  abbrev pub IsGone : Listing T → Key → Type 0
  IsGone q key = get q key ≡ None

  abbrev pub first_key : List (LiveNode T) → Option Key
  first_key [] = None
  first_key (n ∷ rest) = Some n.key

  abbrev pub last_key : List (LiveNode T) → Option Key
  last_key [] = None
  last_key (n ∷ []) = Some n.key
  last_key (n ∷ m ∷ rest) = last_key (m ∷ rest)

  -- the key of the node that follows the one with this key
  abbrev pub key_after : Key → List (LiveNode T) → Option Key
  key_after key [] = None
  key_after key (n ∷ rest) = if has_key key n then first_key rest else key_after key rest

  -- the nodes up to the one with this key, which is the last of them
  abbrev pub through : Key → List (LiveNode T) → List (LiveNode T)
  through key [] = []
  through key (n ∷ rest) = n ∷ (if has_key key n then [] else through key rest)

  -- the nodes that follow the one with this key
  abbrev pub younger : Key → List (LiveNode T) → List (LiveNode T)
  younger key [] = []
  younger key (n ∷ rest) = if has_key key n then rest else younger key rest

  -- the queue with only these of its nodes left: each of the others is spare
  abbrev pub keeping : Listing T → List (LiveNode T) → Listing T
  keeping q nodes = record q { nodes = nodes; spare = q.spare + (length q.nodes - length nodes) }

  -- the queue with one node more at its end, which takes a spare one
  abbrev pub pushed : Listing T → Key → T → Listing T
  pushed q key value = record { nodes = q.nodes ++ record { key = key; value = value } ∷ []; spare = q.spare - 1; made = q.made + 1 }

  -- the queue with this value at this key, and all else as before
  abbrev pub with_value : Listing T → Key → T → Listing T
  with_value q key value = record q { nodes = map (λ n. if has_key key n then record n { value = value } else n) q.nodes }

  -- What holds of every queue. The index of each live node is below the length plus `spare`, and no two live nodes have
  -- one index. Names rise from the oldest to the youngest, below `made`. So each live node is found by its key, and since
  -- a node that is put in later has a greater name, the key of one that has left is never found again.
  pub record IsSound (q : Listing T) : Type 0 where
    pub index_below : All (λ n. n.key.index < length q.nodes + q.spare) q.nodes
    pub indices_apart : AllPairs (λ m n. m.key.index ≢ n.key.index) q.nodes
    pub name_below : All (λ n. n.key.name < q.made) q.nodes
    pub names_rise : AllPairs (λ m n. m.key.name < n.key.name) q.nodes
    pub found : All (λ n. get q n.key ≡ Some n.value) q.nodes
    pub fits : length q.nodes + q.spare < 2 ^ 32
