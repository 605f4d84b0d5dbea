use Rattle.speculation.specs.Toy.{toy}
use Rattle.speculation_law.proofs.ToyExact.{exact-toy}
use Rattle.speculation_law.proofs.Histories.{law-partial, law-complete}
use Rattle.speculation_law.proofs.laws.law_of_histories.Goals as goal

pub returns : goal.returns
returns c = record {
  partial = λ program b start entries core h. law-partial (toy program) b start entries core (exact-toy program start) h;
  complete = λ program b start entries core f h finished. law-complete (toy program) b start entries core f (exact-toy program start) h finished;
}
