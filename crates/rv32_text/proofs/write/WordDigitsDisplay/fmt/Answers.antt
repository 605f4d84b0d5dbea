use Rattle.std.proofs.Output.{has_written_of_eq}
use Rattle.rv32_text.proofs.WordTexts.{word_digits}
use Rattle.rv32_text.proofs.write.WordDigitsDisplay.fmt.Goals as goal

pub returns-clause-writes : goal.returns-clause-writes
returns-clause-writes g c = λ plain ok. has_written_of_eq _ _ _ _ _ (word_digits c.args.self.now.0) (c.write.ensures.writes plain ok)
