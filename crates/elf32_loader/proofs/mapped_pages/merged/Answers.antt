use Rattle.std.proofs.Common.{sym, subst}
use Rattle.std.specs.List.Sorted.{IsNonDecreasingBy}
use Rattle.elf32_loader.specs.declared.page_range.PageRange.{PageRange}
use Rattle.elf32_loader.proofs.OnMergedRanges.{first_and_rest}
use Rattle.elf32_loader.proofs.mapped_pages.merged.Goals as goal

pub merged_from-requires-clause-order : goal.merged_from-requires-clause-order
merged_from-requires-clause-order c = subst (IsNonDecreasingBy (λ (r : PageRange). r.first)) (sym (first_and_rest c.args.sorted.now (record { first = 0; end = 0 }) c.in-len1-up.len_at_least)) c.requires.order
