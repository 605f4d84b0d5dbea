use Rattle.std.proofs.Common.{◌∙◌, Ok, ap, sym, arith}
use Rattle.rv32_text.proofs.Telling.{word_told}
use Rattle.rv32_text.proofs.reader.read.Goals as goal

pub returns-in-Ok-clause-exact : goal.returns-in-Ok-clause-exact
returns-in-Ok-clause-exact c = λ w small e. ap Ok (word_told c.in-Ok.word w (omega arith) small (sym c.in-Ok.ensures ∙ (c.as_bytes.ensures.value ∙ e)))

pub returns-in-Err-clause-exact : goal.returns-in-Err-clause-exact
returns-in-Err-clause-exact c = λ w small e. absurd (c.in-Err.ensures.1 w small (c.as_bytes.ensures.value ∙ e))
