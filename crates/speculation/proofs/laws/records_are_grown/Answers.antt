use Rattle.speculation.specs.Toy.{toy}
use Rattle.speculation.proofs.Records.{run-grown}
use Rattle.speculation.proofs.laws.records_are_grown.Goals as goal

pub returns : goal.returns
returns c = λ program s n. run-grown (toy program) s n
