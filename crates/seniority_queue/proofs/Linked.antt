-- How the operations keep the links
use Rattle.std.proofs.Common.{◌≡◌, ◌≢◌, ℕ, ◌+◌, ◌<◌, ◌≤◌, true, false, List, [], ◌∷◌, ◌++◌, length, reverse, slice_get, Option, Some, None, is_some, cond, eqb, refl, sym, ap, ◌∙◌, inl, inr, arith, length-append}
use Rattle.std.proofs.lemmas.Bool.{eq-eqb, ne_eqb, cases_lt}
use Rattle.std.proofs.lemmas.List.{append-nil, map-append, reverse-append}
use Rattle.seniority_queue.specs.Listing.{LiveNode, indices}
use Rattle.seniority_queue.specs.Node.{live_of, live_at, before_at, after_at}
use Rattle.seniority_queue.specs.Links.{IsChain, times, is_at, AllLive, AllVacant, IsLinked, SetsAfter, SetsBefore, Writes, Vacates}
use Rattle.seniority_queue.specs.declared.node.Node.{Node}
use Rattle.seniority_queue.proofs.Counts.{times-append, times-self, times-cons, times-cons-le, times-reverse}
use Rattle.seniority_queue.proofs.Nodes.{read-push_same, read-push_other}
use Rattle.seniority_queue.proofs.Chains.{last, last-reverse, first-reverse, first-push, first-pop, is_at-last, IsChain-agree, IsChain-join}

module _ {T : Type 0} where
  pub AllLive-agree : (old new : List (Node T)) (live : List (LiveNode T)) → ((j : ℕ) → 0 < times j (indices live) → live_at new j ≡ live_at old j) → AllLive old live → AllLive new live
  AllLive-agree old new [] same held = tt
  AllLive-agree old new (n ∷ rest) same held = (
    same n.key.index (omega (arith, times-self n.key.index (indices rest))) ∙ held.0,
    AllLive-agree old new rest (λ j among. same j (omega (arith, times-cons-le j n.key.index (indices rest)))) held.1,
  )

  pub AllVacant-agree : (old new : List (Node T)) (vacant : List ℕ) → ((j : ℕ) → 0 < times j vacant → live_at new j ≡ live_at old j) → AllVacant old vacant → AllVacant new vacant
  AllVacant-agree old new [] same held = tt
  AllVacant-agree old new (i ∷ rest) same held = (
    same i (omega (arith, times-self i rest)) ∙ held.0,
    AllVacant-agree old new rest (λ j among. same j (omega (arith, times-cons-le j i rest))) held.1,
  )

  AllLive-append : (nodes : List (Node T)) (xs ys : List (LiveNode T)) → AllLive nodes xs → AllLive nodes ys → AllLive nodes (xs ++ ys)
  AllLive-append nodes [] ys first second = second
  AllLive-append nodes (n ∷ xs) ys first second = (first.0, AllLive-append nodes xs ys first.1 second)

  AllLive-front : (nodes : List (Node T)) (xs ys : List (LiveNode T)) → AllLive nodes (xs ++ ys) → AllLive nodes xs
  AllLive-front nodes [] ys held = tt
  AllLive-front nodes (n ∷ xs) ys held = (held.0, AllLive-front nodes xs ys held.1)

  pub IsLinked-none : IsLinked {T = T} [] None None None [] []
  IsLinked-none = record {
    forward = tt;
    at_front = refl;
    backward = tt;
    at_back = refl;
    chained = tt;
    at_free = refl;
    values = tt;
    no_value = tt;
    once = λ i below. absurd (omega arith);
    inside = λ i above. refl;
    total = refl;
  }

  module _ (nodes : List (Node T)) (front back free : Option ℕ) where
    -- each index is at most once in the list and the free chain
    pub at_most_once : (live : List (LiveNode T)) (vacant : List ℕ) → IsLinked nodes front back free live vacant → (j : ℕ) → times j (indices live) + times j vacant ≤ 1
    at_most_once live vacant linked j =
        elim (cases_lt j (length nodes)) [ inl below ↦ omega (arith, linked.once j below) | inr above ↦ omega (arith, linked.inside j above) ]

    -- an index of either is that of a node
    pub is_inside : (live : List (LiveNode T)) (vacant : List ℕ) → IsLinked nodes front back free live vacant → (j : ℕ) → 0 < times j (indices live) + times j vacant → j < length nodes
    is_inside live vacant linked j among =
        elim (cases_lt j (length nodes)) [ inl below ↦ below | inr above ↦ absurd (omega (arith, linked.inside j above)) ]

  -- the first of the free chain becomes the youngest of the list
  pub IsLinked-push : (nodes written new : List (Node T)) (front back free : Option ℕ) (live : List (LiveNode T)) (i : ℕ) (rest : List ℕ) (n : LiveNode T) (node : Node T) → IsLinked nodes front back free live (i ∷ rest) → n.key.index ≡ i → live_of i node ≡ Some n → node.before ≡ back → node.after ≡ None → Writes nodes written i node → SetsAfter written new back (Some i) → IsLinked new (cond (is_some back) front (Some i)) (Some i) (after_at nodes i) (live ++ n ∷ []) rest
  IsLinked-push nodes written new front back free live i rest n node linked index holds older none writes sets =
      let was = at_most_once nodes front back free live (i ∷ rest) linked in
      let alone : (times i (indices live) ≡ 0) × (times i rest ≡ 0) = (omega (arith, was i, times-self i rest), omega (arith, was i, times-self i rest)) in
      let last_is : back ≡ last (indices live) = linked.at_back ∙ first-reverse (indices live) in
      let not_last : is_at back i ≡ false = ap (λ o. is_at o i) last_is ∙ is_at-last (indices live) i alone.0 in
      let listed : indices (live ++ n ∷ []) ≡ indices live ++ i ∷ [] = map-append (λ (m : LiveNode T). m.key.index) live (n ∷ []) ∙ ap (λ k. indices live ++ k ∷ []) index in
      let reversed : reverse (indices live ++ i ∷ []) ≡ i ∷ reverse (indices live) = reverse-append (indices live) (i ∷ []) in
      let same : eqb i i ≡ true = eq-eqb i i refl in
      let after_new : after_at new i ≡ None = sets.after i ∙ rw not_last (writes.after i ∙ rw same none) in
      let before_new : before_at new i ≡ back = sets.before i ∙ writes.before i ∙ rw same older in
      let other : (j : ℕ) → j ≢ i → eqb j i ≡ false = λ j differ. ne_eqb j i differ in
      let after_other : (j : ℕ) → j ≢ i → after_at written j ≡ after_at nodes j = λ j differ. writes.after j ∙ rw (other j differ) refl in
      let before_other : (j : ℕ) → j ≢ i → before_at new j ≡ before_at nodes j = λ j differ. sets.before j ∙ writes.before j ∙ rw (other j differ) refl in
      let live_other : (j : ℕ) → j ≢ i → live_at new j ≡ live_at nodes j = λ j differ. sets.live j ∙ writes.live j ∙ rw (other j differ) refl in
      let in_live : (j : ℕ) → 0 < times j (indices live) → j ≢ i = λ j among e. omega (arith, rw e at among, alone.0) in
      let in_rest : (j : ℕ) → 0 < times j rest → j ≢ i = λ j among e. omega (arith, rw e at among, alone.1) in
      let rest_after : (j : ℕ) → 0 < times j rest → after_at new j ≡ after_at nodes j = λ j among.
      let absent : times j (indices live) ≡ 0 = omega (arith, was j, times-cons-le j i rest) in
      let apart : is_at back j ≡ false = ap (λ o. is_at o j) last_is ∙ is_at-last (indices live) j absent in
      sets.after j ∙ rw apart (after_other j (in_rest j among)) in
      let sizes : length new ≡ length nodes = sets.size ∙ writes.size in
      let new_live : live_at new n.key.index ≡ Some n = ap (live_at new) index ∙ sets.live i ∙ writes.live i ∙ rw same holds in
      record {
        forward = rw listed (IsChain-join (after_at nodes) (after_at new) (indices live) [] (i ∷ [])
            (λ j. omega (arith, was j))
            (λ j among. rw (← last_is) (sets.after j ∙ ap (cond (is_at back j) (Some i)) (after_other j (in_live j among))))
            (rw append-nil linked.forward)
            (after_new, tt));
        at_front = rw listed (first-push (indices live) front back i linked.at_front last_is);
        backward = rw (listed, reversed) (
          before_new ∙ linked.at_back,
          IsChain-agree (before_at nodes) (before_at new) (reverse (indices live)) (λ j among. before_other j (in_live j (rw times-reverse at among))) linked.backward,
        );
        at_back = rw (listed, reversed) refl;
        chained = IsChain-agree (after_at nodes) (after_at new) rest rest_after linked.chained.1;
        at_free = linked.chained.0;
        values = AllLive-append new live (n ∷ []) (AllLive-agree nodes new live (λ j among. live_other j (in_live j among)) linked.values) (new_live, tt);
        no_value = AllVacant-agree nodes new rest (λ j among. live_other j (in_rest j among)) linked.no_value.1;
        once = λ j below. rw listed (omega (arith, linked.once j (rw (← sizes) below), times-append j (indices live) (i ∷ []), times-append j (i ∷ []) rest));
        inside = λ j above. rw listed (omega (arith, linked.inside j (rw (← sizes) above), times-append j (indices live) (i ∷ []), times-append j (i ∷ []) rest));
        total = omega (arith, linked.total, length-append live (n ∷ []));
      }

  -- the oldest of the list becomes the first of the free chain
  pub IsLinked-pop_front : (nodes cut new : List (Node T)) (front back free : Option ℕ) (n : LiveNode T) (rest : List (LiveNode T)) (vacant : List ℕ) (value : T) → IsLinked nodes front back free (n ∷ rest) vacant → SetsBefore nodes cut (after_at nodes n.key.index) None → Vacates cut new n.key.index free value → IsLinked new (after_at nodes n.key.index) (cond (is_some (after_at nodes n.key.index)) back None) (Some n.key.index) rest (n.key.index ∷ vacant)
  IsLinked-pop_front nodes cut new front back free n rest vacant value linked sets vacates =
      let i = n.key.index in
      let was = at_most_once nodes front back free (n ∷ rest) vacant linked in
      let alone : (times i (indices rest) ≡ 0) × (times i vacant ≡ 0) = (omega (arith, was i, times-self i (indices rest)), omega (arith, was i, times-self i (indices rest))) in
      let younger : after_at nodes i ≡ slice_get (indices rest) 0 = linked.forward.0 in
      let younger_last : after_at nodes i ≡ last (reverse (indices rest)) = younger ∙ sym (last-reverse (indices rest)) in
      let reversed : reverse (i ∷ indices rest) ≡ reverse (indices rest) ++ i ∷ [] = reverse-append (i ∷ []) (indices rest) in
      let same : eqb i i ≡ true = eq-eqb i i refl in
      let other : (j : ℕ) → j ≢ i → eqb j i ≡ false = λ j differ. ne_eqb j i differ in
      let after_other : (j : ℕ) → j ≢ i → after_at new j ≡ after_at nodes j = λ j differ. vacates.after j ∙ rw (other j differ) (sets.after j) in
      let before_other : (j : ℕ) → j ≢ i → before_at new j ≡ before_at cut j = λ j differ. vacates.before j ∙ rw (other j differ) refl in
      let live_other : (j : ℕ) → j ≢ i → live_at new j ≡ live_at nodes j = λ j differ. vacates.live j ∙ rw (other j differ) (sets.live j) in
      let in_rest : (j : ℕ) → 0 < times j (indices rest) → j ≢ i = λ j among e. omega (arith, rw e at among, alone.0) in
      let in_vacant : (j : ℕ) → 0 < times j vacant → j ≢ i = λ j among e. omega (arith, rw e at among, alone.1) in
      let sizes : length new ≡ length nodes = vacates.size ∙ sets.size in
      record {
        forward = IsChain-agree (after_at nodes) (after_at new) (indices rest) (λ j among. after_other j (in_rest j among)) linked.forward.1;
        at_front = younger;
        backward = rw append-nil at (IsChain-join (before_at nodes) (before_at new) (reverse (indices rest)) (i ∷ []) []
            (λ j. rw times-reverse (omega (arith, was j, times-cons-le j i (indices rest))))
            (λ j among. rw (← younger_last) (before_other j (in_rest j (rw times-reverse at among)) ∙ sets.before j))
            (rw (← reversed) linked.backward)
            tt);
        at_back = first-pop (reverse (indices rest)) back (after_at nodes i) i (linked.at_back ∙ ap (λ xs. slice_get xs 0) reversed) younger_last;
        chained = (vacates.after i ∙ rw same linked.at_free, IsChain-agree (after_at nodes) (after_at new) vacant (λ j among. after_other j (in_vacant j among)) linked.chained);
        at_free = refl;
        values = AllLive-agree nodes new rest (λ j among. live_other j (in_rest j among)) linked.values.1;
        no_value = (vacates.live i ∙ rw same refl, AllVacant-agree nodes new vacant (λ j among. live_other j (in_vacant j among)) linked.no_value);
        once = λ j below. omega (arith, linked.once j (rw (← sizes) below), times-append j (i ∷ []) (indices rest), times-append j (i ∷ []) vacant);
        inside = λ j above. omega (arith, linked.inside j (rw (← sizes) above), times-append j (i ∷ []) (indices rest), times-append j (i ∷ []) vacant);
        total = omega (arith, linked.total);
      }

  -- the youngest of the list becomes the first of the free chain
  pub IsLinked-pop_back : (nodes cut new : List (Node T)) (front back free : Option ℕ) (n : LiveNode T) (rest : List (LiveNode T)) (vacant : List ℕ) (value : T) → IsLinked nodes front back free (rest ++ n ∷ []) vacant → SetsAfter nodes cut (before_at nodes n.key.index) None → Vacates cut new n.key.index free value → IsLinked new (cond (is_some (before_at nodes n.key.index)) front None) (before_at nodes n.key.index) (Some n.key.index) rest (n.key.index ∷ vacant)
  IsLinked-pop_back nodes cut new front back free n rest vacant value linked sets vacates =
      let i = n.key.index in
      let listed : indices (rest ++ n ∷ []) ≡ indices rest ++ i ∷ [] = map-append (λ (m : LiveNode T). m.key.index) rest (n ∷ []) in
      let reversed : reverse (indices (rest ++ n ∷ [])) ≡ i ∷ reverse (indices rest) = ap reverse listed ∙ reverse-append (indices rest) (i ∷ []) in
      let counted : (j : ℕ) → times j (indices (rest ++ n ∷ [])) ≡ times j (indices rest) + times j (i ∷ []) = λ j. ap (times j) listed ∙ times-append j (indices rest) (i ∷ []) in
      let was = at_most_once nodes front back free (rest ++ n ∷ []) vacant linked in
      let alone : (times i (indices rest) ≡ 0) × (times i vacant ≡ 0) = (omega (arith, was i, counted i, times-self i []), omega (arith, was i, counted i, times-self i [])) in
      let backward : IsChain (before_at nodes) (i ∷ reverse (indices rest)) = rw reversed at linked.backward in
      let older : before_at nodes i ≡ slice_get (reverse (indices rest)) 0 = backward.0 in
      let older_last : before_at nodes i ≡ last (indices rest) = older ∙ first-reverse (indices rest) in
      let same : eqb i i ≡ true = eq-eqb i i refl in
      let other : (j : ℕ) → j ≢ i → eqb j i ≡ false = λ j differ. ne_eqb j i differ in
      let after_other : (j : ℕ) → j ≢ i → after_at new j ≡ after_at cut j = λ j differ. vacates.after j ∙ rw (other j differ) refl in
      let before_other : (j : ℕ) → j ≢ i → before_at new j ≡ before_at nodes j = λ j differ. vacates.before j ∙ rw (other j differ) (sets.before j) in
      let live_other : (j : ℕ) → j ≢ i → live_at new j ≡ live_at nodes j = λ j differ. vacates.live j ∙ rw (other j differ) (sets.live j) in
      let in_rest : (j : ℕ) → 0 < times j (indices rest) → j ≢ i = λ j among e. omega (arith, rw e at among, alone.0) in
      let in_vacant : (j : ℕ) → 0 < times j vacant → j ≢ i = λ j among e. omega (arith, rw e at among, alone.1) in
      let vacant_after : (j : ℕ) → 0 < times j vacant → after_at new j ≡ after_at nodes j = λ j among.
      let absent : times j (indices rest) ≡ 0 = omega (arith, was j, counted j) in
      let apart : is_at (before_at nodes i) j ≡ false = ap (λ o. is_at o j) older_last ∙ is_at-last (indices rest) j absent in
      after_other j (in_vacant j among) ∙ sets.after j ∙ rw apart refl in
      let sizes : length new ≡ length nodes = vacates.size ∙ sets.size in
      record {
        forward = rw append-nil at (IsChain-join (after_at nodes) (after_at new) (indices rest) (i ∷ []) []
            (λ j. omega (arith, was j, counted j))
            (λ j among. rw (← older_last) (after_other j (in_rest j among) ∙ sets.after j))
            (rw (← listed) linked.forward)
            tt);
        at_front = first-pop (indices rest) front (before_at nodes i) i (linked.at_front ∙ ap (λ xs. slice_get xs 0) listed) older_last;
        backward = IsChain-agree (before_at nodes) (before_at new) (reverse (indices rest)) (λ j among. before_other j (in_rest j (rw times-reverse at among))) backward.1;
        at_back = older;
        chained = (vacates.after i ∙ rw same linked.at_free, IsChain-agree (after_at nodes) (after_at new) vacant vacant_after linked.chained);
        at_free = refl;
        values = AllLive-agree nodes new rest (λ j among. live_other j (in_rest j among)) (AllLive-front nodes rest (n ∷ []) linked.values);
        no_value = (vacates.live i ∙ rw same refl, AllVacant-agree nodes new vacant (λ j among. live_other j (in_vacant j among)) linked.no_value);
        once = λ j below. omega (arith, linked.once j (rw (← sizes) below), counted j, times-append j (i ∷ []) vacant);
        inside = λ j above. omega (arith, linked.inside j (rw (← sizes) above), counted j, times-append j (i ∷ []) vacant);
        total = omega (arith, linked.total, length-append rest (n ∷ []));
      }

  -- a new node without a value becomes the first of the free chain
  pub IsLinked-push_free : (nodes : List (Node T)) (front back free : Option ℕ) (live : List (LiveNode T)) (vacant : List ℕ) (n : Node T) → IsLinked nodes front back free live vacant → n.value ≡ None → n.after ≡ free → IsLinked (nodes ++ n ∷ []) front back (Some (length nodes)) live (length nodes ∷ vacant)
  IsLinked-push_free nodes front back free live vacant n linked empty next =
      let i = length nodes in
      let new = nodes ++ n ∷ [] in
      let alone : times i (indices live) + times i vacant ≡ 0 = linked.inside i (omega arith) in
      let in_live : (j : ℕ) → 0 < times j (indices live) → j ≢ i = λ j among e. omega (arith, rw e at among, alone) in
      let in_vacant : (j : ℕ) → 0 < times j vacant → j ≢ i = λ j among e. omega (arith, rw e at among, alone) in
      let after_other : (j : ℕ) → j ≢ i → after_at new j ≡ after_at nodes j = λ j differ. read-push_other (λ _ m. m.after) nodes n j differ in
      let before_other : (j : ℕ) → j ≢ i → before_at new j ≡ before_at nodes j = λ j differ. read-push_other (λ _ m. m.before) nodes n j differ in
      let live_other : (j : ℕ) → j ≢ i → live_at new j ≡ live_at nodes j = λ j differ. read-push_other live_of nodes n j differ in
      let longer = length-append nodes (n ∷ []) in
      record {
        forward = IsChain-agree (after_at nodes) (after_at new) (indices live) (λ j among. after_other j (in_live j among)) linked.forward;
        at_front = linked.at_front;
        backward = IsChain-agree (before_at nodes) (before_at new) (reverse (indices live)) (λ j among. before_other j (in_live j (rw times-reverse at among))) linked.backward;
        at_back = linked.at_back;
        chained = (read-push_same (λ _ m. m.after) nodes n ∙ next ∙ linked.at_free, IsChain-agree (after_at nodes) (after_at new) vacant (λ j among. after_other j (in_vacant j among)) linked.chained);
        at_free = refl;
        values = AllLive-agree nodes new live (λ j among. live_other j (in_live j among)) linked.values;
        no_value = (read-push_same live_of nodes n ∙ rw empty refl, AllVacant-agree nodes new vacant (λ j among. live_other j (in_vacant j among)) linked.no_value);
        once = λ j below. elim (times-cons j i vacant) [
          | inl here ↦ omega (arith, here.1, rw here.0 at alone)
          | inr other ↦ omega (arith, other, linked.once j (omega (arith, other, longer)))
        ];
        inside = λ j above. elim (times-cons j i vacant) [
          | inl here ↦ absurd (omega (arith, here, longer))
          | inr other ↦ omega (arith, other, linked.inside j (omega (arith, longer)))
        ];
        total = omega (arith, linked.total, longer);
      }
