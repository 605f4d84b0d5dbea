-- A loop that merges ranges which begin in rising order
use Rattle.std.proofs.Common.{◌≡◌, ℕ, suc, ◌+◌, ◌-◌, ◌<◌, ◌≤◌, Bool, true, false, ◌||◌, List, [], ◌∷◌, ◌++◌, length, take, drop, get_or, refl, sym, ap, ◌∙◌, arith}
use Rattle.std.specs.List.{All}
use Rattle.std.specs.List.Sorted.{IsNonDecreasingBy}
use Rattle.std.proofs.lemmas.List.{take_more, take_all, drop_more, take_rest, get_or_default}
use Rattle.std.proofs.lemmas.List.Elements.{All-push, All-head}
use Rattle.std.proofs.lemmas.List.Quantifiers.{all_pairs_push}
use Rattle.elf32_loader.specs.PageRanges.{in_range, has_range, IsPageRange, IsBefore, IsRising}
use Rattle.elf32_loader.specs.declared.page_range.PageRange.{PageRange}
use Rattle.elf32_loader.proofs.OnRangesSoFar.{has_range-push}

-- a list with an element is its first and the rest
pub first_and_rest : (rs : List PageRange) (d : PageRange) → 1 ≤ length rs → get_or rs 0 d ∷ take (length rs - 1) (drop 1 rs) ≡ rs
first_and_rest rs d l = ap (λ xs. get_or rs 0 d ∷ xs) (take_rest rs 1) ∙ sym (drop_more rs 0 d (omega arith))

-- of a first range and i of the rest, `done` is merged, and `current` may still grow
pub record IsMerging (first : PageRange) (rest : List PageRange) (i : ℕ) (done : List PageRange) (current : PageRange) : Type 0 where
  pub pages : (p : ℕ) → (has_range done p || in_range p current) ≡ (in_range p first || has_range (take i rest) p)
  pub rising : IsRising done
  pub behind : All (λ r. IsBefore r current) done
  pub range : IsPageRange current
  pub ahead : (j : ℕ) (d : PageRange) → i ≤ j → j < length rest → current.first ≤ (get_or rest j d).first

pub merging-start : (first : PageRange) (rest : List PageRange) → All IsPageRange (first ∷ rest) → IsNonDecreasingBy (λ r. r.first) (first ∷ rest) → IsMerging first rest 0 [] first
merging-start first rest ranges order = record {
  pages = λ p. start_pages (in_range p first);
  rising = record { ranges = λ k d l. absurd (omega arith); order = λ i j d l m. absurd (omega arith) };
  behind = λ k d l. absurd (omega arith);
  range = All-head IsPageRange first rest ranges;
  ahead = λ j d l m. order 0 (suc j) d (omega arith) (omega arith);
}
  where
    start_pages : (b : Bool) → (false || b) ≡ (b || false)
    start_pages true = refl
    start_pages false = refl

or_assoc : (a b c : Bool) → (a || b || c) ≡ (a || (b || c))
or_assoc true b c = refl
or_assoc false b c = refl

-- the pages of one more range on both sides
more_pages : (first : PageRange) (rest done : List PageRange) (i p : ℕ) (current d : PageRange) → i < length rest → (has_range done p || in_range p current) ≡ (in_range p first || has_range (take i rest) p) → ((has_range done p || in_range p current) || in_range p (get_or rest i d)) ≡ (in_range p first || has_range (take (i + 1) rest) p)
more_pages first rest done i p current d l e =
    ap (λ b. b || in_range p (get_or rest i d)) e
    ∙ or_assoc (in_range p first) (has_range (take i rest) p) (in_range p (get_or rest i d))
    ∙ ap (λ b. in_range p first || b) (sym (has_range-push (take i rest) (get_or rest i d) p))
    ∙ ap (λ rs. in_range p first || has_range rs p) (sym (take_more rest i d l))

pub merging-joined : (first : PageRange) (rest : List PageRange) (i : ℕ) (done : List PageRange) (current both d : PageRange) → i < length rest → IsMerging first rest i done current → ((p : ℕ) → in_range p both ≡ (in_range p current || in_range p (get_or rest i d))) → both.first ≡ current.first → IsPageRange both → IsMerging first rest (i + 1) done both
merging-joined first rest i done current both d l h pages start range = record {
  pages = λ p.
      ap (λ b. has_range done p || b) (pages p)
      ∙ sym (or_assoc (has_range done p) (in_range p current) (in_range p (get_or rest i d)))
      ∙ more_pages first rest done i p current d l (h.pages p);
  rising = h.rising;
  behind = λ k e m. let b : (get_or done k e).end ≤ current.first = h.behind k e m in omega arith;
  range = range;
  ahead = λ j e m r. let a : current.first ≤ (get_or rest j e).first = h.ahead j e (omega arith) r in omega arith;
}

pushed-rising : (done : List PageRange) (current : PageRange) → IsRising done → All (λ r. IsBefore r current) done → IsPageRange current → IsRising (done ++ current ∷ [])
pushed-rising done current h behind range = record {
  ranges = All-push IsPageRange done current h.ranges range;
  order = all_pairs_push IsBefore done current h.order behind;
}

pub merging-apart : (first : PageRange) (rest : List PageRange) (i : ℕ) (done : List PageRange) (current d : PageRange) → i < length rest → IsMerging first rest i done current → IsBefore current (get_or rest i d) → All IsPageRange (first ∷ rest) → IsNonDecreasingBy (λ r. r.first) (first ∷ rest) → IsMerging first rest (i + 1) (done ++ current ∷ []) (get_or rest i d)
merging-apart first rest i done current d l h before ranges order = record {
  pages = λ p. ap (λ b. b || in_range p (get_or rest i d)) (has_range-push done current p) ∙ more_pages first rest done i p current d l (h.pages p);
  rising = pushed-rising done current h.rising h.behind h.range;
  behind = All-push (λ r. IsBefore r (get_or rest i d)) done current
      (λ k e m.
      let b : (get_or done k e).end ≤ current.first = h.behind k e m in
      let a : current.first ≤ (get_or rest i d).first = h.ahead i d (omega arith) l in
      omega arith)
      before;
  range = ranges (suc i) d (omega arith);
  ahead = λ j e m r. same_default j e r (order (suc i) (suc j) d (omega arith) (omega arith));
}
  where
    same_default : (j : ℕ) (e : PageRange) → j < length rest → (get_or rest i d).first ≤ (get_or rest j d).first → (get_or rest i d).first ≤ (get_or rest j e).first
    same_default j e r h = let s : (get_or rest j d).first ≡ (get_or rest j e).first = ap (λ (x : PageRange). x.first) (get_or_default rest j d e r) in omega arith

pub merging-rising : (first : PageRange) (rest : List PageRange) (i : ℕ) (done : List PageRange) (current : PageRange) → IsMerging first rest i done current → IsRising (done ++ current ∷ [])
merging-rising first rest i done current h = pushed-rising done current h.rising h.behind h.range

pub merging-pages : (first : PageRange) (rest : List PageRange) (i : ℕ) (done : List PageRange) (current : PageRange) → length rest ≤ i → IsMerging first rest i done current → (p : ℕ) → has_range (done ++ current ∷ []) p ≡ has_range (first ∷ rest) p
merging-pages first rest i done current l h p =
    has_range-push done current p ∙ h.pages p ∙ ap (λ rs. in_range p first || has_range rs p) (take_all i rest l)
