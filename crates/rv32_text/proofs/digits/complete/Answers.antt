use Rattle.std.proofs.Common.{◌∙◌, sym}
use Rattle.rv32_text.proofs.Hexadecimals.{part_of_row}
use Rattle.rv32_text.proofs.digits.complete.Goals as goal

pub returns-else-used-count : goal.returns-else-used-count
returns-else-used-count c = λ m fits. part_of_row c.args.digits c.args.used c.args.value m (λ e. c.if-used-count.false (e ∙ sym c.count.ensures))
