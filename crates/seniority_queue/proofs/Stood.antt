-- What the fields stand for, and what holds of it
use Rattle.std.proofs.Common.{◌≡◌, ◌≢◌, ℕ, zero, suc, ◌+◌, ◌-◌, ◌<◌, ◌≤◌, List, [], ◌∷◌, length, reverse, get_or, Option, filter_map, option_map, AllPairs, refl, sym, ap, ◌∙◌, arith}
use Rattle.std.proofs.lemmas.List.{length-map, length-reverse}
use Rattle.std.proofs.lemmas.Option.{slice_get-get_or}
use Rattle.seniority_queue.specs.Listing.{LiveNode, Listing, indices, IsSound}
use Rattle.seniority_queue.specs.Node.{live_at, before_at, after_at}
use Rattle.seniority_queue.specs.Links.{walk, times, AllLive, IsLinked}
use Rattle.seniority_queue.specs.Stands.{listing_of, NamesRise, Stands}
use Rattle.seniority_queue.specs.declared.node.Node.{Node}
use Rattle.seniority_queue.proofs.KeyLemmas.{find-at}
use Rattle.seniority_queue.proofs.Counts.{times-self, times-cons-le}
use Rattle.seniority_queue.proofs.Chains.{walk_chain}
use Rattle.seniority_queue.proofs.Linked.{is_inside, at_most_once}

module _ {T : Type 0} where
  -- reading the live nodes gives them back
  filter_map-live : (nodes : List (Node T)) (live : List (LiveNode T)) → AllLive nodes live → filter_map (live_at nodes) (indices live) ≡ live
  filter_map-live nodes [] held = refl
  filter_map-live nodes (n ∷ rest) held = rw held.0 (ap (λ ns. n ∷ ns) (filter_map-live nodes rest held.1))

  -- the listing, where the lists are known
  pub listing_is : (nodes : List (Node T)) (front back free : Option ℕ) (len made : ℕ) (live : List (LiveNode T)) (vacant : List ℕ) → IsLinked nodes front back free live vacant → len ≡ length live → listing_of nodes front len made ≡ record { nodes = live; spare = length vacant; made = made }
  listing_is nodes front back free len made live vacant linked count =
      let steps : len ≡ length (indices live) = count ∙ sym (length-map live (λ n. n.key.index)) in
      let walked : walk (after_at nodes) len front ≡ indices live = rw (steps, linked.at_front) (walk_chain (after_at nodes) (indices live) linked.forward) in
      let listed : filter_map (live_at nodes) (walk (after_at nodes) len front) ≡ live = rw walked (filter_map-live nodes live linked.values) in
      let left : length nodes - len ≡ length vacant = omega (arith, linked.total) in
      rw (listed, left) refl

  -- names at a place, and at two
  NamesRise-le : (low : ℕ) (live : List (LiveNode T)) (made : ℕ) → NamesRise low live made → low ≤ made
  NamesRise-le low [] made rise = rise
  NamesRise-le low (n ∷ rest) made rise = omega (arith, rise.0, NamesRise-le (n.key.name + 1) rest made rise.1)

  NamesRise-at : (low : ℕ) (live : List (LiveNode T)) (made k : ℕ) (d : LiveNode T) → NamesRise low live made → k < length live → (low ≤ (get_or live k d).key.name) × ((get_or live k d).key.name < made)
  NamesRise-at low [] made k d rise within = absurd (omega arith)
  NamesRise-at low (n ∷ rest) made zero d rise within = (rise.0, omega (arith, NamesRise-le (n.key.name + 1) rest made rise.1))
  NamesRise-at low (n ∷ rest) made (suc k) d rise within =
      let later = NamesRise-at (n.key.name + 1) rest made k d rise.1 (omega arith) in
      (omega (arith, rise.0, later.0), later.1)

  NamesRise-two : (low : ℕ) (live : List (LiveNode T)) (made i j : ℕ) (d : LiveNode T) → NamesRise low live made → i < j → j < length live → (get_or live i d).key.name < (get_or live j d).key.name
  NamesRise-two low [] made i j d rise order within = absurd (omega arith)
  NamesRise-two low (n ∷ rest) made i zero d rise order within = absurd (omega arith)
  NamesRise-two low (n ∷ rest) made zero (suc j) d rise order within = omega (arith, (NamesRise-at (n.key.name + 1) rest made j d rise.1 (omega arith)).0)
  NamesRise-two low (n ∷ rest) made (suc i) (suc j) d rise order within = NamesRise-two (n.key.name + 1) rest made i j d rise.1 (omega arith) (omega arith)

  -- the index of an element counts, and that of two elements twice
  times-at : (live : List (LiveNode T)) (k : ℕ) (d : LiveNode T) → k < length live → 0 < times (get_or live k d).key.index (indices live)
  times-at [] k d within = absurd (omega arith)
  times-at (n ∷ rest) zero d within = omega (arith, times-self n.key.index (indices rest))
  times-at (n ∷ rest) (suc k) d within =
      omega (arith, times-at rest k d (omega arith), times-cons-le (get_or rest k d).key.index n.key.index (indices rest))

  times-two : (live : List (LiveNode T)) (i j : ℕ) (d : LiveNode T) → i < j → j < length live → (get_or live i d).key.index ≡ (get_or live j d).key.index → 1 < times (get_or live j d).key.index (indices live)
  times-two [] i j d order within same = absurd (omega arith)
  times-two (n ∷ rest) i zero d order within same = absurd (omega arith)
  times-two (n ∷ rest) zero (suc j) d order within same =
      let later = times-at rest j d (omega arith) in
      let first = times-self (get_or rest j d).key.index (indices rest) in
      rw same (omega (arith, later, first))
  times-two (n ∷ rest) (suc i) (suc j) d order within same =
      omega (arith, times-two rest i j d (omega arith) (omega arith) same, times-cons-le (get_or rest j d).key.index n.key.index (indices rest))

  module _ {nodes : List (Node T)} {front back free : Option ℕ} {len made : ℕ} {q : Listing T} (s : Stands nodes front back free len made) (is : listing_of nodes front len made ≡ q) where
    -- what the queue is seen as, by the lists of the invariant
    pub seen_as : q ≡ record { nodes = s.live; spare = length s.vacant; made = made }
    seen_as = sym is ∙ listing_is nodes front back free len made s.live s.vacant s.linked s.count

    pub nodes_are : q.nodes ≡ s.live
    nodes_are = ap (λ (x : Listing T). x.nodes) seen_as

    -- walking back from the end gives the reverse, and walking the free chain gives the free nodes
    pub walk-back : walk (before_at nodes) len back ≡ reverse (indices s.live)
    walk-back =
        let steps : len ≡ length (reverse (indices s.live)) = omega (arith, s.count, length-reverse (indices s.live), length-map s.live (λ (n : LiveNode T). n.key.index)) in
        rw (steps, s.linked.at_back) (walk_chain (before_at nodes) (reverse (indices s.live)) s.linked.backward)

    pub walk-free : walk (after_at nodes) (length nodes - len) free ≡ s.vacant
    walk-free =
        let steps : length nodes - len ≡ length s.vacant = omega (arith, s.count, s.linked.total) in
        rw (steps, s.linked.at_free) (walk_chain (after_at nodes) s.vacant s.linked.chained)

    -- what holds of every queue
    pub IsSound-stands : IsSound q
    IsSound-stands =
        let l = s.linked in
        let apart : AllPairs (λ m n. m.key.index ≢ n.key.index) s.live = λ i j d order within same. omega (arith, times-two s.live i j d order within same, at_most_once nodes front back free s.live s.vacant l (get_or s.live j d).key.index) in
        rw seen_as record {
          index_below = λ k d within. omega (arith, l.total, is_inside nodes front back free s.live s.vacant l (get_or s.live k d).key.index (omega (arith, times-at s.live k d within)));
          indices_apart = apart;
          found = λ k d within. ap (option_map (λ (m : LiveNode T). m.value)) (find-at s.live k (get_or s.live k d) apart (slice_get-get_or s.live k d within));
          name_below = λ k d within. (NamesRise-at 0 s.live made k d s.named within).1;
          names_rise = λ i j d order within. NamesRise-two 0 s.live made i j d s.named order within;
          fits = omega (arith, l.total, s.fits);
        }
