-- Going over the open regions, oldest first, until one of them passes a test.
use Rattle.std.proofs.Common.{◌≡◌, ℕ, zero, suc, ◌+◌, ◌-◌, ◌<◌, Bool, true, false, if◌then◌else◌, List, [], ◌∷◌, ◌++◌, Option, Some, None, option_map, length, drop, find, slice_get, get_or, refl, sym, ap, ◌∙◌, subst, arith}
use Rattle.std.proofs.lemmas.Option.{none-some, same_Some, get_or_from_slice_get, slice_get_within}
use Rattle.seniority_queue.specs.Listing.{LiveNode, Listing, get, first_key, last_key, key_after, IsSound}
use Rattle.seniority_queue.specs.declared.key.Key.{Key}
use Rattle.seniority_queue.proofs.KeyLemmas.{get-of_place, key_after-of_place}
use Rattle.track_board.specs.declared.region.Region.{Region}
use Rattle.track_board.specs.LendTests.{last_region, is_numbered, numbered}
use Rattle.track_board.proofs.Queues.{IsYoungest, youngest, no_youngest}

-- how many names are left from this key on
abbrev pub names_left : ℕ → Option Key → ℕ
names_left made (Some key) = made - key.name
names_left made None = 0

module _ (q : Listing Region) (test : Region → Bool) where
  -- the oldest region that passes stands at this key or behind it
  pub record SoughtFrom (at : Option Key) : Type 0 where
    pub place : ℕ
    pub is : at ≡ option_map (λ n. n.key) (slice_get q.nodes place)
    pub rest : find (λ n. test n.value) (drop place q.nodes) ≡ find (λ n. test n.value) q.nodes

  pub sought-first : SoughtFrom (first_key q.nodes)
  sought-first = record { place = 0; is = first q.nodes; rest = refl }
    where
      first : (ns : List (LiveNode Region)) → first_key ns ≡ option_map (λ n. n.key) (slice_get ns 0)
      first [] = refl
      first (n ∷ ns) = refl

  find-from : (ns : List (LiveNode Region)) (place : ℕ) (n : LiveNode Region) → slice_get ns place ≡ Some n
      → find (λ m. test m.value) (drop place ns) ≡ (if test n.value then Some n else find (λ m. test m.value) (drop (suc place) ns))
  find-from [] place n at = absurd (none-some n at)
  find-from (m ∷ ns) zero n at = ap (λ (x : LiveNode Region). if test x.value then Some x else find (λ y. test y.value) ns) (same_Some m n at)
  find-from (m ∷ ns) (suc place) n at = find-from ns place n at

  find-past : (ns : List (LiveNode Region)) (place : ℕ) → slice_get ns place ≡ None → find (λ m. test m.value) (drop place ns) ≡ None
  find-past [] zero at = refl
  find-past [] (suc place) at = refl
  find-past (m ∷ ns) zero at = absurd (cc)
  find-past (m ∷ ns) (suc place) at = find-past ns place at

  -- the node at the key
  pub record Reached (place : ℕ) (key : Key) : Type 0 where
    pub node : LiveNode Region
    pub at : slice_get q.nodes place ≡ Some node
    pub key_is : node.key ≡ key

  reached : (place : ℕ) (key : Key) → Some key ≡ option_map (λ n. n.key) (slice_get q.nodes place) → Reached place key
  reached place key is = by-node (slice_get q.nodes place) refl is
    where
      by-node : (o : Option (LiveNode Region)) → slice_get q.nodes place ≡ o → Some key ≡ option_map (λ n. n.key) o → Reached place key
      by-node None at h = absurd (cc)
      by-node (Some n) at h = record { node = n; at = at; key_is = cc }

  module _ (sound : IsSound q) (at : Option Key) (key : Key) (s : SoughtFrom at) (is : at ≡ Some key) where
    pub here : Reached s.place key
    here = reached s.place key (sym is ∙ s.is)

    found-here : get q key ≡ Some here.node.value
    found-here = ap (get q) (sym here.key_is) ∙ get-of_place q sound s.place here.node here.at

    -- a region has this key
    pub sought-there : None ≡ get q key → ⊥
    sought-there none = (let found = found-here in cc)

    next-is : key_after key q.nodes ≡ option_map (λ n. n.key) (slice_get q.nodes (s.place + 1))
    next-is = ap (λ (k : Key). key_after k q.nodes) (sym here.key_is) ∙ key_after-of_place q sound s.place here.node here.at

    one-more : s.place + 1 ≡ suc s.place
    one-more = omega arith

    module _ (r : Region) (got : Some r ≡ get q key) where
      value-is : here.node.value ≡ r
      value-is = (let same : Some here.node.value ≡ Some r = sym found-here ∙ sym got in same_Some here.node.value r same)

      -- it passes
      pub sought-found : test r ≡ true → find (λ n. test n.value) q.nodes ≡ Some here.node
      sought-found passes =
          sym s.rest ∙ find-from q.nodes s.place here.node here.at
          ∙ ap (λ (b : Bool). if b then Some here.node else find (λ n. test n.value) (drop (suc s.place) q.nodes)) (ap test value-is ∙ passes)

      pub sought-key : test r ≡ true → option_map (λ n. n.key) (find (λ n. test n.value) q.nodes) ≡ Some key
      sought-key passes = ap (option_map (λ (n : LiveNode Region). n.key)) (sought-found passes) ∙ ap (λ (k : Key). Some k) here.key_is

      pub sought-number : test r ≡ true → option_map (λ n. n.value.number) (find (λ n. test n.value) q.nodes) ≡ Some r.number
      sought-number passes = ap (option_map (λ (n : LiveNode Region). n.value.number)) (sought-found passes) ∙ ap (λ (x : Region). Some x.number) value-is

      -- it doesn't
      pub sought-next : test r ≡ false → SoughtFrom (key_after key q.nodes)
      sought-next fails = record {
        place = suc s.place;
        is = next-is ∙ ap (λ (k : ℕ). option_map (λ n. n.key) (slice_get q.nodes k)) one-more;
        rest =
            sym (ap (λ (b : Bool). if b then Some here.node else find (λ n. test n.value) (drop (suc s.place) q.nodes)) (ap test value-is ∙ fails))
            ∙ sym (find-from q.nodes s.place here.node here.at) ∙ s.rest;
      }

    -- fewer names are left behind it
    name-of : (place : ℕ) (n : LiveNode Region) → slice_get q.nodes place ≡ Some n → n.key.name < q.made
    name-of place n found = subst (λ (x : LiveNode Region). x.key.name < q.made) (get_or_from_slice_get q.nodes place n n found) (sound.name_below place n (slice_get_within q.nodes place n found))

    pub sought-fewer : names_left q.made (key_after key q.nodes) < names_left q.made at
    sought-fewer =
        subst (λ (o : Option Key). names_left q.made o < names_left q.made at) (sym next-is)
        (subst (λ (o : Option Key). names_left q.made (option_map (λ n. n.key) (slice_get q.nodes (s.place + 1))) < names_left q.made o) (sym is) (by-next (slice_get q.nodes (s.place + 1)) refl))
      where
        mine : key.name < q.made
        mine = subst (λ (k : Key). k.name < q.made) here.key_is (name-of s.place here.node here.at)

        by-next : (o : Option (LiveNode Region)) → slice_get q.nodes (s.place + 1) ≡ o → names_left q.made (option_map (λ n. n.key) o) < q.made - key.name
        by-next None found = omega (arith, mine)
        by-next (Some n) found =
            let below = name-of (s.place + 1) n found in
            let within = slice_get_within q.nodes (s.place + 1) n found in
            let rise = sound.names_rise s.place (s.place + 1) n (omega arith) within in
            let first : get_or q.nodes s.place n ≡ here.node = get_or_from_slice_get q.nodes s.place here.node n here.at in
            let second : get_or q.nodes (s.place + 1) n ≡ n = get_or_from_slice_get q.nodes (s.place + 1) n n found in
            let order : key.name < n.key.name =
            subst (λ (k : Key). k.name < n.key.name) here.key_is
            (subst (λ (x : LiveNode Region). x.key.name < n.key.name) first (subst (λ (x : LiveNode Region). (get_or q.nodes s.place n).key.name < x.key.name) second rise)) in
            omega (arith, below, mine, order)

  -- no region is left
  pub sought-none : (at : Option Key) → SoughtFrom at → at ≡ None → find (λ n. test n.value) q.nodes ≡ None
  sought-none at s none = sym s.rest ∙ find-past q.nodes s.place (no-node (slice_get q.nodes s.place) (sym s.is ∙ none))
    where
      no-node : (o : Option (LiveNode Region)) → option_map (λ n. n.key) o ≡ None → o ≡ None
      no-node None h = refl
      no-node (Some n) h = absurd (cc)

-- ---- the region of a number

-- its place
pub record NumberedAt (number : ℕ) (ns : List (LiveNode Region)) (n : LiveNode Region) : Type 0 where
  pub place : ℕ
  pub at : slice_get ns place ≡ Some n
  pub has : is_numbered number n ≡ true

pub numbered-at : (number : ℕ) (ns : List (LiveNode Region)) (n : LiveNode Region) → numbered number ns ≡ Some n → NumberedAt number ns n
numbered-at number [] n h = absurd (none-some n h)
numbered-at number (m ∷ ns) n h = by-test (is_numbered number m) refl h (numbered-at number ns n)
  where
    by-test : (b : Bool) → is_numbered number m ≡ b → (if b then Some m else numbered number ns) ≡ Some n → (numbered number ns ≡ Some n → NumberedAt number ns n) → NumberedAt number (m ∷ ns) n
    by-test true is h later = (let same : m ≡ n = same_Some m n h in record { place = 0; at = h; has = subst (λ (x : LiveNode Region). is_numbered number x ≡ true) same is })
    by-test false is h later = (let rest = later h in record { place = suc rest.place; at = rest.at; has = rest.has })

-- by its key
pub record NumberedBy (number : ℕ) (q : Listing Region) (key : Key) : Type 0 where
  pub node : LiveNode Region
  pub found : numbered number q.nodes ≡ Some node
  pub key_is : key ≡ node.key
  pub got : get q key ≡ Some node.value

pub numbered-by : (number : ℕ) (q : Listing Region) (key : Key) → IsSound q → Some key ≡ option_map (λ n. n.key) (numbered number q.nodes) → NumberedBy number q key
numbered-by number q key sound is = by-node (numbered number q.nodes) refl is
  where
    by-node : (o : Option (LiveNode Region)) → numbered number q.nodes ≡ o → Some key ≡ option_map (λ n. n.key) o → NumberedBy number q key
    by-node None found h = absurd (cc)
    by-node (Some n) found h =
        let place = numbered-at number q.nodes n found in
        let same : key ≡ n.key = same_Some key n.key h in
        record { node = n; found = found; key_is = same; got = ap (get q) same ∙ get-of_place q sound place.place n place.at }

-- ---- the youngest region

pub last-behind : (older : List (LiveNode Region)) (n : LiveNode Region) → last_region (older ++ (n ∷ [])) ≡ Some n.value
last-behind [] n = refl
last-behind (x ∷ []) n = refl
last-behind (x ∷ (y ∷ older)) n = last-behind (y ∷ older) n

pub last-get : (q : Listing Region) (key : Key) → IsSound q → Some key ≡ last_key q.nodes → get q key ≡ last_region q.nodes
last-get q key sound is =
    let y : IsYoungest q.nodes key = youngest q.nodes key (sym is) in
    ap (get q) (sym y.key_is) ∙ get-of_place q sound (length y.older) y.node y.at
    ∙ sym (ap last_region y.nodes_are ∙ last-behind y.older y.node)

pub last-none : (ns : List (LiveNode Region)) → None ≡ last_key ns → None ≡ last_region ns
last-none ns is = sym (ap last_region (no_youngest ns (sym is)))
