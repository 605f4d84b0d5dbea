use Rattle.std.proofs.Common.{◌≡◌, ◌⊎◌, take}
use Rattle.rv32_text.specs.Mnemonics.{EachParts, Longest}
use Rattle.rv32_text.proofs.start.find_start.Given as goal

abbrev pub invariant-loop-mnemonic : goal.invariant-loop-mnemonic
invariant-loop-mnemonic l = EachParts l.text l.most (take l.mnemonic-index l.mnemonics) × ((l.most ≡ 0) ⊎ Longest l.text l.most)
