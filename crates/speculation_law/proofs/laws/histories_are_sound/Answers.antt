use Rattle.speculation.specs.Toy.{toy}
use Rattle.speculation_law.proofs.ToyExact.{exact-toy}
use Rattle.speculation_law.proofs.Soundness.{sound-history}
use Rattle.speculation_law.proofs.laws.histories_are_sound.Goals as goal

pub returns : goal.returns
returns c = λ program b start entries core h. sound-history (toy program) b start entries core (exact-toy program start) h
