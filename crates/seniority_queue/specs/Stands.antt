-- What the fields of a queue stand for, and what holds of them. No public clause cites this module.
use Rattle.std.specs.Prelude.{◌≡◌, ℕ, ◌+◌, ◌-◌, ◌^◌, ◌<◌, ◌≤◌, List, [], ◌∷◌, length, filter_map, Option}
use Rattle.seniority_queue.specs.Listing.{LiveNode, Listing}
use Rattle.seniority_queue.specs.Node.{live_at, after_at}
use Rattle.seniority_queue.specs.Links.{walk, IsLinked}
use Rattle.seniority_queue.specs.declared.node.Node.{Node}

module _ {T : Type 0} where
  -- the live nodes are those that the links lead to, from the front on
  abbrev pub listing_of : List (Node T) → Option ℕ → ℕ → ℕ → Listing T
  listing_of nodes front len made = record {
    nodes = filter_map (live_at nodes) (walk (after_at nodes) len front);
    spare = length nodes - len;
    made = made;
  }

  -- names rise, from `low` on, and stay below `made`
  abbrev pub NamesRise : ℕ → List (LiveNode T) → ℕ → Type 0
  NamesRise low [] made = low ≤ made
  NamesRise low (n ∷ rest) made = (low ≤ n.key.name) × NamesRise (n.key.name + 1) rest made

  pub record Stands (nodes : List (Node T)) (front back free : Option ℕ) (len made : ℕ) : Type 0 where
    pub live : List (LiveNode T)
    pub vacant : List ℕ
    pub linked : IsLinked nodes front back free live vacant
    pub count : len ≡ length live
    pub named : NamesRise 0 live made
    pub fits : length nodes < 2 ^ 32
