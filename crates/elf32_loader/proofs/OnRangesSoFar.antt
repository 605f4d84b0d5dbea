-- A list of ranges with one range more
use Rattle.std.proofs.Common.{◌≡◌, ℕ, ◌+◌, ◌<◌, Bool, true, false, ◌||◌, List, [], ◌∷◌, ◌++◌, length, take, get_or, refl, sym, ap, ◌∙◌}
use Rattle.std.specs.List.{All, list_any}
use Rattle.std.proofs.lemmas.List.{take_more}
use Rattle.std.proofs.lemmas.List.Folds.{list_any-append}
use Rattle.std.proofs.lemmas.List.Elements.{All-push}
use Rattle.guest_model.specs.Segment.{Segment, has_bytes, has_page}
use Rattle.elf32_loader.specs.PageRanges.{in_range, has_range, IsPageRange}
use Rattle.elf32_loader.specs.declared.page_range.PageRange.{PageRange}

or_nothing : (b : Bool) → (b || false) ≡ b
or_nothing true = refl
or_nothing false = refl

pub has_range-push : (rs : List PageRange) (r : PageRange) (p : ℕ) → has_range (rs ++ r ∷ []) p ≡ (has_range rs p || in_range p r)
has_range-push rs r p = list_any-append (in_range p) rs (r ∷ []) ∙ ap (λ b. has_range rs p || b) (or_nothing (in_range p r))

pub has_page-more : (hs : List Segment) (i : ℕ) (s : Segment) (p : ℕ) → i < length hs → s ≡ get_or hs i s → list_any (has_page p) (take (i + 1) hs) ≡ (list_any (has_page p) (take i hs) || has_page p s)
has_page-more hs i s p l e =
    ap (list_any (has_page p)) (take_more hs i s l)
    ∙ list_any-append (has_page p) (take i hs) (get_or hs i s ∷ [])
    ∙ ap (λ b. list_any (has_page p) (take i hs) || b) (or_nothing (has_page p (get_or hs i s)) ∙ ap (has_page p) (sym e))

-- the ranges have the pages of these segments
pub record SoFar (hs : List Segment) (rs : List PageRange) : Type 0 where
  pub pages : (p : ℕ) → has_range rs p ≡ list_any (has_page p) hs
  pub ranges : All IsPageRange rs

pub so_far-more : (hs : List Segment) (i : ℕ) (s : Segment) (rs : List PageRange) (r : PageRange) → i < length hs → s ≡ get_or hs i s → SoFar (take i hs) rs → ((p : ℕ) → in_range p r ≡ has_page p s) → IsPageRange r → SoFar (take (i + 1) hs) (rs ++ r ∷ [])
so_far-more hs i s rs r l e h pages range = record {
  pages = λ p. has_range-push rs r p ∙ ap (λ b. b || in_range p r) (h.pages p) ∙ ap (λ b. list_any (has_page p) (take i hs) || b) (pages p) ∙ sym (has_page-more hs i s p l e);
  ranges = All-push IsPageRange rs r h.ranges range;
}

pub so_far-same : (hs : List Segment) (i : ℕ) (s : Segment) (rs : List PageRange) → i < length hs → s ≡ get_or hs i s → has_bytes s ≡ false → SoFar (take i hs) rs → SoFar (take (i + 1) hs) rs
so_far-same hs i s rs l e none h = record {
  pages = λ p.
      let no_page : has_page p s ≡ false = rw none refl in
      h.pages p ∙ sym (or_nothing (list_any (has_page p) (take i hs))) ∙ ap (λ b. list_any (has_page p) (take i hs) || b) (sym no_page) ∙ sym (has_page-more hs i s p l e);
  ranges = h.ranges;
}
