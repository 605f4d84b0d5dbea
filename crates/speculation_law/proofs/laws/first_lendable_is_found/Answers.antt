use Rattle.speculation.specs.Toy.{toy}
use Rattle.speculation_law.proofs.SerialSteps.{first_lendable-true}
use Rattle.speculation_law.proofs.Lendables.{first_lendable-none}
use Rattle.speculation_law.proofs.laws.first_lendable_is_found.Goals as goal

pub returns : goal.returns
returns c = record {
  found = λ program b core n h. first_lendable-true (toy program) b core n core.regions h;
  none = λ program b core n h. first_lendable-none (toy program) b core n h;
}
