use Rattle.elf32_loader.proofs.OnMergedRanges.{IsMerging}
use Rattle.elf32_loader.proofs.mapped_pages.merged_from.Given as goal

abbrev pub invariant-loop-range : goal.invariant-loop-range
invariant-loop-range l = IsMerging l.fn.first l.rest l.range-index l.merged.items l.current
