use Rattle.speculation.specs.Toy.{toy}
use Rattle.speculation_law.proofs.ToyExact.{exact-toy}
use Rattle.speculation_law.proofs.Soundness.{sound-history}
use Rattle.speculation_law.proofs.Fates.{loan-later}
use Rattle.speculation_law.proofs.laws.loans_stay.Goals as goal

pub returns : goal.returns
returns c = λ program b start before rest core later n l h led found foreign.
    loan-later (toy program) b start (exact-toy program start) before rest core later n l (sound-history (toy program) b start before core (exact-toy program start) h) h led found foreign
