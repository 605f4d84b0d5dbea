use Rattle.guest_model.specs.Rv32.{rv32}
use Rattle.speculation_law.proofs.Verdicts.{judge-verdict}
use Rattle.rv32_law.proofs.laws.judge_gives_the_verdict.Goals as goal

pub returns : goal.returns
returns c = λ input s n seen j sees answer. judge-verdict (rv32 input) s n seen j sees answer
