use Rattle.std.proofs.Common.{subst, sym, List, ℕ}
use Rattle.rv32_asm.proofs.Regions.{HasRegions, no_regions, more_regions}
use Rattle.rv32_asm.proofs.benchmark.region_words.Goals as goal

pub loop-index-init : goal.loop-index-init
loop-index-init c = let P : List ℕ → Type 0 = HasRegions c.args.number 0 in subst P (sym c.new-words.ensures.items) (no_regions c.args.number)

pub loop-index-preserved : goal.loop-index-preserved
loop-index-preserved c = more_regions c.args.number c.loop-index.index _ _ c.loop-index.invariant c.in_ok-push_region.ensures
