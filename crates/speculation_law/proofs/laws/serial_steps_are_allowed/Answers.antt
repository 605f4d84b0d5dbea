use Rattle.speculation.specs.Toy.{toy}
use Rattle.speculation_law.proofs.ToyExact.{exact-toy}
use Rattle.speculation_law.proofs.Soundness.{sound-history}
use Rattle.speculation_law.proofs.SerialSteps.{serial_next-allowed}
use Rattle.speculation_law.proofs.laws.serial_steps_are_allowed.Goals as goal

pub returns : goal.returns
returns c = λ program b start entries xs core h next.
    (let allowed = serial_next-allowed (toy program) b core xs (sound-history (toy program) b start entries core (exact-toy program start) h).named next in (allowed.new, allowed.leads))
