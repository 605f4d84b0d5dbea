use Rattle.std.proofs.Common.{arith}
use Rattle.rv32_text.proofs.Literals.{stops_before_end}
use Rattle.rv32_text.proofs.reader.read_nothing.Goals as goal

pub returns-else-from-text : goal.returns-else-from-text
returns-else-from-text c = stops_before_end c.args.text.now c.args.from (omega (arith, c.requires, c.if-from-text.false)) (omega (arith, c.type_inv.text c.args.from))
