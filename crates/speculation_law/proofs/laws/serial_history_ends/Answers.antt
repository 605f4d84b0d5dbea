use Rattle.speculation.specs.Toy.{toy}
use Rattle.speculation_law.proofs.ToyExact.{exact-toy}
use Rattle.speculation_law.proofs.SerialSoFar.{serial-only}
use Rattle.speculation_law.proofs.SerialEnds.{serial-exists, serial-finished}
use Rattle.speculation_law.proofs.laws.serial_history_ends.Goals as goal

pub returns : goal.returns
returns c = record {
  exists = λ program b start. serial-exists (toy program) b start (exact-toy program start);
  only = λ program b start entries others h k. serial-only (toy program) b start (exact-toy program start) entries others h k;
  finished = λ program b start entries h some. serial-finished (toy program) b start (exact-toy program start) entries h some;
}
