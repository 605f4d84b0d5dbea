use Rattle.std.proofs.Common.{arith}
use Rattle.std.proofs.Output.{has_written_of_eq}
use Rattle.rv32_text.proofs.WordTexts.{upper_digits}
use Rattle.rv32_text.proofs.write.UpperDigitsDisplay.fmt.Goals as goal

pub returns-clause-writes : goal.returns-clause-writes
returns-clause-writes g c = λ plain ok. has_written_of_eq _ _ _ _ _ (upper_digits c.args.self.now.0 (omega arith)) (c.write.ensures.writes plain ok)
