use Rattle.speculation.specs.Toy.{toy}
use Rattle.speculation_law.proofs.Verdicts.{judge-verdict}
use Rattle.speculation_law.proofs.laws.judge_gives_the_verdict.Goals as goal

pub returns : goal.returns
returns c = λ program s n seen j sees answer. judge-verdict (toy program) s n seen j sees answer
