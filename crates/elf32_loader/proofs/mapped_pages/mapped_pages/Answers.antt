use Rattle.std.proofs.Common.{sym, ap, ◌∙◌, rules}
use Rattle.std.proofs.lemmas.List.Sorted.{All-permutation, IsNonDecreasingBy-from_sort_by_key, list_any-IsPermutation}
use Rattle.std.proofs.lemmas.Result.{IfOk-weaker}
use Rattle.elf32_loader.specs.PageRanges.{in_range, has_range, IsPageRange}
use Rattle.elf32_loader.specs.declared.page_range.PageRange.{PageRange}
use Rattle.elf32_loader.proofs.mapped_pages.mapped_pages.Goals as goal

pub merged-requires-clause-ranges : goal.merged-requires-clause-ranges
merged-requires-clause-ranges c = rw c.as_slice.ensures.value (All-permutation IsPageRange _ _ c.sort_unstable_by_key.ensures.permutation c.in_ok-ranges.ensures.ranges)

pub merged-requires-clause-order : goal.merged-requires-clause-order
merged-requires-clause-order c = rw c.as_slice.ensures.value (IsNonDecreasingBy-from_sort_by_key (λ (r : PageRange). r.first) _ c.sort_unstable_by_key.ensures.sorted (λ a r q k. search rules))

pub returns-clause-pages : goal.returns-clause-pages
returns-clause-pages c = IfOk-weaker c.merged.result _ _
    (λ v e p. e p
    ∙ ap (λ rs. has_range rs p) c.as_slice.ensures.value
    ∙ sym (list_any-IsPermutation (in_range p) _ _ c.sort_unstable_by_key.ensures.permutation)
    ∙ c.in_ok-ranges.ensures.pages p)
    c.merged.ensures.pages
