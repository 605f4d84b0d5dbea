use Rattle.rv32_asm.proofs.Regions.{HasRegions}
use Rattle.rv32_asm.proofs.benchmark.region_words.Given as goal

abbrev pub invariant-loop-index : goal.invariant-loop-index
invariant-loop-index l = HasRegions l.number l.index l.words.items
