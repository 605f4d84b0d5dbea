use Rattle.std.proofs.Common.{◌≡◌, ◌++◌, take}
use Rattle.rv32_asm.specs.SmallImage.{word_bytes}
use Rattle.rv32_asm.proofs.image.push_words.Given as goal

abbrev pub invariant-loop-word : goal.invariant-loop-word
invariant-loop-word l = l.bytes.items ≡ l.fn.bytes.items ++ word_bytes (take l.word-index l.words)
