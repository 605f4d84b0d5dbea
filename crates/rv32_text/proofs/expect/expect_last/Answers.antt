use Rattle.std.proofs.Common.{arith}
use Rattle.rv32_text.specs.Languages.{ended}
use Rattle.rv32_text.proofs.Literals.{differs_behind}
use Rattle.rv32_text.proofs.OperandReads.{differs_early}
use Rattle.rv32_text.proofs.expect.expect_last.Goals as goal

pub returns-else-text-literal-clause-ends : goal.returns-else-text-literal-clause-ends
returns-else-text-literal-clause-ends c =
    differs_behind c.args.literal.now c.args.text.now c.in-Ok.ensures.begins.0 c.in-Ok.ensures.begins.1 c.if-text-literal.false
    (λ i. omega (arith, c.type_inv.text i))

pub returns-in-Err-clause-ends : goal.returns-in-Err-clause-ends
returns-in-Err-clause-ends c = differs_early c.args.literal.now (ended c.args.text.now) c.in-Err.shared c.in-Err.ensures.begins
