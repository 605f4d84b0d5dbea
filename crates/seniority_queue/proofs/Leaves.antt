-- What each operation leaves
use Rattle.std.proofs.Common.{◌≡◌, ℕ, suc, ◌+◌, ◌-◌, ◌^◌, ◌<◌, ◌≤◌, List, [], ◌∷◌, ◌++◌, length, take, drop, reverse, slice_get, Option, Some, None, is_some, option_map, cond, refl, sym, ap, ◌∙◌, inl, inr, arith, length-append}
use Rattle.std.proofs.lemmas.Option.{same_Some, none-some}
use Rattle.std.proofs.lemmas.List.{map-append, reverse-append}
use Rattle.seniority_queue.specs.Listing.{LiveNode, Listing, indices, keeping, pushed}
use Rattle.seniority_queue.specs.Node.{live_of, live_at, before_at, after_at}
use Rattle.seniority_queue.specs.Links.{IsLinked, SetsAfter, SetsBefore, Writes, Vacates}
use Rattle.seniority_queue.specs.Stands.{listing_of, NamesRise, Stands}
use Rattle.seniority_queue.specs.declared.key.Key.{Key}
use Rattle.seniority_queue.specs.declared.node.Node.{Node}
use Rattle.seniority_queue.proofs.Linked.{IsLinked-push, IsLinked-pop_front, IsLinked-pop_back, IsLinked-push_free}
use Rattle.seniority_queue.proofs.Stood.{listing_is, seen_as}
use Rattle.seniority_queue.proofs.Cut.{split_last, take-push}

module _ {T : Type 0} where
  -- these fields hold together, and are seen as q
  pub record Leaves (nodes : List (Node T)) (front back free : Option ℕ) (len made : ℕ) (q : Listing T) : Type 0 where
    pub stands : Stands nodes front back free len made
    pub listing_is : listing_of nodes front len made ≡ q

  pub leaves : (nodes : List (Node T)) (front back free : Option ℕ) (len made : ℕ) (q : Listing T) (s : Stands nodes front back free len made) → record { nodes = s.live; spare = length s.vacant; made = made } ≡ q → Leaves nodes front back free len made q
  leaves nodes front back free len made q s is = record { stands = s; listing_is = listing_is nodes front back free len made s.live s.vacant s.linked s.count ∙ is }

  NamesRise-lower : (low lower : ℕ) (live : List (LiveNode T)) (made : ℕ) → lower ≤ low → NamesRise low live made → NamesRise lower live made
  NamesRise-lower low lower [] made below rise = omega (arith, rise)
  NamesRise-lower low lower (n ∷ rest) made below rise = (omega (arith, rise.0), rise.1)

  NamesRise-front : (low : ℕ) (live : List (LiveNode T)) (n : LiveNode T) (made : ℕ) → NamesRise low (live ++ n ∷ []) made → NamesRise low live made
  NamesRise-front low [] n made rise = omega (arith, rise.0, rise.1)
  NamesRise-front low (m ∷ rest) n made rise = (rise.0, NamesRise-front (m.key.name + 1) rest n made rise.1)

  NamesRise-push : (low : ℕ) (live : List (LiveNode T)) (n : LiveNode T) (made : ℕ) → n.key.name ≡ made → NamesRise low live made → NamesRise low (live ++ n ∷ []) (made + 1)
  NamesRise-push low [] n made named rise = (omega (arith, rise), omega arith)
  NamesRise-push low (m ∷ rest) n made named rise = (rise.0, NamesRise-push (m.key.name + 1) rest n made named rise.1)

  module _ {nodes : List (Node T)} {front back free : Option ℕ} {len made : ℕ} {q : Listing T} (s : Stands nodes front back free len made) (is : listing_of nodes front len made ≡ q) where
    -- the oldest node leaves
    pub pop_front-leaves : (cut new : List (Node T)) (i : ℕ) (younger : Option ℕ) (value : T) → front ≡ Some i → after_at nodes i ≡ younger → SetsBefore nodes cut younger None → Vacates cut new i free value → Leaves new younger (cond (is_some younger) back None) (Some i) (len - 1) made (keeping q (drop 1 q.nodes)) × (Some value ≡ option_map (λ n. n.value) (slice_get q.nodes 0))
    pop_front-leaves cut new i younger value first leads sets vacates = by_live s.live s.linked s.count s.named (seen_as s is)
      where
        by_live : (live : List (LiveNode T)) → IsLinked nodes front back free live s.vacant → len ≡ length live → NamesRise 0 live made → q ≡ record { nodes = live; spare = length s.vacant; made = made } → Leaves new younger (cond (is_some younger) back None) (Some i) (len - 1) made (keeping q (drop 1 q.nodes)) × (Some value ≡ option_map (λ n. n.value) (slice_get q.nodes 0))
        by_live [] linked count named seen = absurd (none-some i (sym linked.at_front ∙ first))
        by_live (n ∷ rest) linked count named seen =
            let at : i ≡ n.key.index = same_Some _ _ (sym first ∙ linked.at_front) in
            let next : younger ≡ after_at nodes n.key.index = sym leads ∙ ap (after_at nodes) at in
            let left : IsLinked new younger (cond (is_some younger) back None) (Some i) rest (i ∷ s.vacant) =
            rw (next, at) (IsLinked-pop_front nodes cut new front back free n rest s.vacant value linked (rw next at sets) (rw at at vacates)) in
            let stands : Stands new younger (cond (is_some younger) back None) (Some i) (len - 1) made = record {
              live = rest;
              vacant = i ∷ s.vacant;
              linked = left;
              count = omega (arith, count);
              named = NamesRise-lower (n.key.name + 1) 0 rest made (omega arith) named.1;
              fits = omega (arith, vacates.size, sets.size, s.fits);
            } in
            let spares : suc (length s.vacant) ≡ length s.vacant + (suc (length rest) - length rest) = omega arith in (
              leaves _ _ _ _ _ _ (keeping q (drop 1 q.nodes)) stands (rw seen (ap (λ k. record { nodes = rest; spare = k; made = made }) spares)),
              rw seen (sym vacates.had ∙ ap (option_map (λ (m : LiveNode T). m.value)) (sets.live i ∙ ap (live_at nodes) at ∙ linked.values.0)),
            )

    -- the youngest node leaves
    pub pop_back-leaves : (cut new : List (Node T)) (i : ℕ) (older : Option ℕ) (value : T) → back ≡ Some i → before_at nodes i ≡ older → SetsAfter nodes cut older None → Vacates cut new i free value → Leaves new (cond (is_some older) front None) older (Some i) (len - 1) made (keeping q (take (length q.nodes - 1) q.nodes))
    pop_back-leaves cut new i older value end leads sets vacates =
        elim (split_last s.live) [
          | inl none ↦ absurd (none-some i (rw none at (sym s.linked.at_back ∙ end)))
          | inr some ↦
              let rest = some.0 in
              let n = some.1 in
              let linked : IsLinked nodes front back free (rest ++ n ∷ []) s.vacant = rw some.2 at s.linked in
              let last_index : reverse (indices (rest ++ n ∷ [])) ≡ n.key.index ∷ reverse (indices rest) =
              ap reverse (map-append (λ (m : LiveNode T). m.key.index) rest (n ∷ [])) ∙ reverse-append (indices rest) (n.key.index ∷ []) in
              let at : i ≡ n.key.index = same_Some _ _ (sym end ∙ linked.at_back ∙ ap (λ xs. slice_get xs 0) last_index) in
              let next : older ≡ before_at nodes n.key.index = sym leads ∙ ap (before_at nodes) at in
              let left : IsLinked new (cond (is_some older) front None) older (Some i) rest (i ∷ s.vacant) =
              rw (next, at) (IsLinked-pop_back nodes cut new front back free n rest s.vacant value linked (rw next at sets) (rw at at vacates)) in
              let longer = length-append rest (n ∷ []) in
              let stands : Stands new (cond (is_some older) front None) older (Some i) (len - 1) made = record {
                live = rest;
                vacant = i ∷ s.vacant;
                linked = left;
                count = omega (arith, s.count, ap length some.2, longer);
                named = NamesRise-front 0 rest n made (rw some.2 at s.named);
                fits = omega (arith, vacates.size, sets.size, s.fits);
              } in
              let spares : suc (length s.vacant) ≡ length s.vacant + (length (rest ++ n ∷ []) - length rest) = omega (arith, longer) in
              leaves _ _ _ _ _ _ (keeping q (take (length q.nodes - 1) q.nodes)) stands
              (rw (seen_as s is, some.2, take-push rest n) (ap (λ k. record { nodes = rest; spare = k; made = made }) spares))
        ]

    -- a node more at the end
    pub push-leaves : (written new : List (Node T)) (i : ℕ) (node : Node T) (key : Key) (value : T) → key ≡ record { index = i; name = made } → node ≡ record { name = made; value = Some value; before = back; after = None } → free ≡ Some i → Writes nodes written i node → SetsAfter written new back (Some i) → Leaves new (cond (is_some back) front (Some i)) (Some i) (after_at nodes i) (len + 1) (made + 1) (pushed q key value)
    push-leaves written new i node key value key_is node_is first writes sets = by_vacant s.vacant s.linked (seen_as s is)
      where
        by_vacant : (vacant : List ℕ) → IsLinked nodes front back free s.live vacant → q ≡ record { nodes = s.live; spare = length vacant; made = made } → Leaves new (cond (is_some back) front (Some i)) (Some i) (after_at nodes i) (len + 1) (made + 1) (pushed q key value)
        by_vacant [] linked seen = absurd (none-some i (sym linked.at_free ∙ first))
        by_vacant (j ∷ rest) linked seen =
            let at : j ≡ i = same_Some _ _ (sym linked.at_free ∙ first) in
            let n : LiveNode T = record { key = record { index = i; name = made }; value = value } in
            let left : IsLinked new (cond (is_some back) front (Some i)) (Some i) (after_at nodes i) (s.live ++ n ∷ []) rest =
            IsLinked-push nodes written new front back free s.live i rest n node (rw at at linked) refl (ap (live_of i) node_is) (ap (λ (m : Node T). m.before) node_is) (ap (λ (m : Node T). m.after) node_is) writes sets in
            let stands : Stands new (cond (is_some back) front (Some i)) (Some i) (after_at nodes i) (len + 1) (made + 1) = record {
              live = s.live ++ n ∷ [];
              vacant = rest;
              linked = left;
              count = omega (arith, s.count, length-append s.live (n ∷ []));
              named = NamesRise-push 0 s.live n made refl s.named;
              fits = omega (arith, writes.size, sets.size, s.fits);
            } in
            let spares : length rest ≡ suc (length rest) - 1 = omega arith in
            leaves _ _ _ _ _ _ (pushed q key value) stands (rw (seen, key_is) (ap (λ k. record { nodes = s.live ++ n ∷ []; spare = k; made = made + 1 }) spares))

    -- a free node more
    pub push_free-leaves : (n : Node T) → n.value ≡ None → n.after ≡ free → length nodes + 1 < 2 ^ 32 → Leaves (nodes ++ n ∷ []) front back (Some (length nodes)) len made (record q { spare = q.spare + 1 })
    push_free-leaves n empty next fits =
        let longer = length-append nodes (n ∷ []) in
        let stands : Stands (nodes ++ n ∷ []) front back (Some (length nodes)) len made = record {
          live = s.live;
          vacant = length nodes ∷ s.vacant;
          linked = IsLinked-push_free nodes front back free s.live s.vacant n s.linked empty next;
          count = s.count;
          named = s.named;
          fits = omega (arith, longer);
        } in
        let spares : suc (length s.vacant) ≡ length s.vacant + 1 = omega arith in
        leaves _ _ _ _ _ _ (record q { spare = q.spare + 1 }) stands (rw (seen_as s is) (ap (λ k. record { nodes = s.live; spare = k; made = made }) spares))
