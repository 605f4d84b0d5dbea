-- What the nodes of the vector say, by index. No public clause cites this module.
use Rattle.std.specs.Prelude.{ℕ, ◌==◌, ◌&&◌, if◌then◌else◌, List, slice_get, Option, Some, None, is_some, option_map, option_and_then, unwrap_or}
use Rattle.seniority_queue.specs.Listing.{LiveNode}
use Rattle.seniority_queue.specs.declared.key.Key.{Key}
use Rattle.seniority_queue.specs.declared.node.Node.{Node}

module _ {T : Type 0} where
  -- the node with this value
  abbrev pub with_value : Node T → T → Node T
  with_value n value = record n { value = Some value }

  -- a node at this index as a live node, if it has a value
  abbrev pub live_of : ℕ → Node T → Option (LiveNode T)
  live_of index n = option_map (λ v. record { key = record { index = index; name = n.name }; value = v }) n.value

  abbrev pub live_at : List (Node T) → ℕ → Option (LiveNode T)
  live_at nodes index = option_and_then (live_of index) (slice_get nodes index)

  abbrev pub before_at : List (Node T) → ℕ → Option ℕ
  before_at nodes index = option_and_then (λ n. n.before) (slice_get nodes index)

  abbrev pub after_at : List (Node T) → ℕ → Option ℕ
  after_at nodes index = option_and_then (λ n. n.after) (slice_get nodes index)

  -- the key of the node at this index
  abbrev pub key_of : List (Node T) → ℕ → Key
  key_of nodes index = record { index = index; name = unwrap_or (option_map (λ n. n.name) (slice_get nodes index)) 0 }

  -- the node has this name and a value
  abbrev pub if_named : ℕ → Node T → Option (Node T)
  if_named name n = if (n.name == name) && is_some n.value then Some n else None

  -- the live node with this key
  abbrev pub node_with : Key → List (Node T) → Option (Node T)
  node_with key nodes = option_and_then (if_named key.name) (slice_get nodes key.index)
