use Rattle.speculation.specs.Toy.{toy}
use Rattle.speculation.proofs.Runs.{go-add, pieces-add, taken-add, go-stays}
use Rattle.speculation.proofs.Outputs.{out-add}
use Rattle.speculation.proofs.laws.runs_split.Goals as goal

pub returns : goal.returns
returns c = record {
  points = λ program p a b. go-add (toy program) p a b;
  pieces = λ program p k a b. pieces-add (toy program) p k a b;
  outputs = λ program p a b. out-add (toy program) p a b;
  counts = λ program p a b. taken-add (toy program) p a b;
  ends = λ program p a b e h. go-stays (toy program) p a b e h;
}
