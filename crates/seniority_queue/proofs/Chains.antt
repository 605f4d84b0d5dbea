-- Chains of indices: how writes change them
use Rattle.std.proofs.Common.{◌≡◌, ℕ, ◌<◌, ◌≤◌, true, false, List, [], ◌∷◌, ◌++◌, length, Option, Some, None, is_some, cond, reverse, slice_get, refl, sym, ap, ◌∙◌, arith}
use Rattle.std.proofs.lemmas.Bool.{eq-eqb, ne_eqb}
use Rattle.std.proofs.lemmas.List.{reverse-append, length-reverse}
use Rattle.seniority_queue.specs.Links.{IsChain, walk, times, is_at}
use Rattle.seniority_queue.proofs.Counts.{times-self, times-cons-le}

-- the last index of a list
abbrev pub last : List ℕ → Option ℕ
last [] = None
last (i ∷ []) = Some i
last (i ∷ j ∷ rest) = last (j ∷ rest)

pub last-push : (xs : List ℕ) (i : ℕ) → last (xs ++ i ∷ []) ≡ Some i
last-push [] i = refl
last-push (j ∷ []) i = refl
last-push (j ∷ k ∷ rest) i = last-push (k ∷ rest) i

pub last-reverse : (xs : List ℕ) → last (reverse xs) ≡ slice_get xs 0
last-reverse [] = refl
last-reverse (i ∷ rest) = ap last (reverse-append (i ∷ []) rest) ∙ last-push (reverse rest) i

first-append : (xs ys : List ℕ) → 0 < length xs → slice_get (xs ++ ys) 0 ≡ slice_get xs 0
first-append [] ys some = absurd (omega arith)
first-append (i ∷ xs) ys some = refl

pub first-reverse : (xs : List ℕ) → slice_get (reverse xs) 0 ≡ last xs
first-reverse [] = refl
first-reverse (i ∷ []) = refl
first-reverse (i ∷ j ∷ rest) =
    ap (λ xs. slice_get xs 0) (reverse-append (i ∷ []) (j ∷ rest))
    ∙ first-append (reverse (j ∷ rest)) (i ∷ []) (omega (arith, length-reverse (j ∷ rest)))
    ∙ first-reverse (j ∷ rest)

-- an index that isn't in the list isn't its last
pub is_at-last : (xs : List ℕ) (j : ℕ) → times j xs ≡ 0 → is_at (last xs) j ≡ false
is_at-last [] j absent = refl
is_at-last (i ∷ []) j absent = ne_eqb j i (λ same. omega (arith, times-self j [], rw (sym same) at absent))
is_at-last (i ∷ k ∷ rest) j absent = is_at-last (k ∷ rest) j (omega (arith, times-cons-le j i (k ∷ rest)))

-- the links of the indices in it alone make a list a chain
pub IsChain-agree : (next next' : ℕ → Option ℕ) (xs : List ℕ) → ((j : ℕ) → 0 < times j xs → next' j ≡ next j) → IsChain next xs → IsChain next' xs
IsChain-agree next next' [] same chain = tt
IsChain-agree next next' (i ∷ rest) same chain = (
  same i (omega (arith, times-self i rest)) ∙ chain.0,
  IsChain-agree next next' rest (λ j among. same j (omega (arith, times-cons-le j i rest))) chain.1,
)

-- a chain up to xs goes on with ys, once the last of xs leads to the first of ys
pub IsChain-join : (next next' : ℕ → Option ℕ) (xs old ys : List ℕ) → ((j : ℕ) → times j xs ≤ 1) → ((j : ℕ) → 0 < times j xs → next' j ≡ cond (is_at (last xs) j) (slice_get ys 0) (next j)) → IsChain next (xs ++ old) → IsChain next' ys → IsChain next' (xs ++ ys)
IsChain-join next next' [] old ys apart sets chain rest = rest
IsChain-join next next' (i ∷ []) old ys apart sets chain rest =
    let here : is_at (Some i) i ≡ true = eq-eqb i i refl in
    (sets i (omega (arith, times-self i [])) ∙ rw here, rest)
IsChain-join next next' (i ∷ k ∷ xs) old ys apart sets chain rest =
    let once = apart i in
    let later : is_at (last (k ∷ xs)) i ≡ false = is_at-last (k ∷ xs) i (omega (arith, times-self i (k ∷ xs))) in (
      sets i (omega (arith, times-self i (k ∷ xs))) ∙ rw later chain.0,
      IsChain-join next next' (k ∷ xs) old ys (λ j. omega (arith, apart j, times-cons-le j i (k ∷ xs))) (λ j among. sets j (omega (arith, times-cons-le j i (k ∷ xs)))) chain.1 rest,
    )

-- a walk along a chain gives its indices
pub walk_chain : (next : ℕ → Option ℕ) (xs : List ℕ) → IsChain next xs → walk next (length xs) (slice_get xs 0) ≡ xs
walk_chain next [] chain = refl
walk_chain next (i ∷ rest) chain = ap (λ ks. i ∷ ks) (ap (walk next (length rest)) chain.0 ∙ walk_chain next rest chain.1)

last-some : (i : ℕ) (xs : List ℕ) → is_some (last (i ∷ xs)) ≡ true
last-some i [] = refl
last-some i (j ∷ rest) = last-some j rest

-- the first index, once one more stands at the end
pub first-push : (xs : List ℕ) (front back : Option ℕ) (i : ℕ) → front ≡ slice_get xs 0 → back ≡ last xs → cond (is_some back) front (Some i) ≡ slice_get (xs ++ i ∷ []) 0
first-push [] front back i first end = rw end refl
first-push (j ∷ rest) front back i first end = rw (end, last-some j rest) first

-- the first index, once the last has left
pub first-pop : (xs : List ℕ) (front older : Option ℕ) (i : ℕ) → front ≡ slice_get (xs ++ i ∷ []) 0 → older ≡ last xs → cond (is_some older) front None ≡ slice_get xs 0
first-pop [] front older i first end = rw end refl
first-pop (j ∷ rest) front older i first end = rw (end, last-some j rest) first
