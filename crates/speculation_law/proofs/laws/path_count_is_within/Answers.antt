use Rattle.speculation.specs.Toy.{toy}
use Rattle.speculation_law.proofs.Totals.{totalled}
use Rattle.speculation_law.proofs.laws.path_count_is_within.Goals as goal

pub returns : goal.returns
returns c = λ program start budget rows h. totalled (toy program) start budget rows h
