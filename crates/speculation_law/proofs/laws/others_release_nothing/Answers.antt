use Rattle.std.proofs.Common.{Some, refl}
use Rattle.speculation.specs.Toy.{toy}
use Rattle.speculation_law.proofs.Prefixes.{released-foreign}
use Rattle.speculation_law.proofs.laws.others_release_nothing.Goals as goal

pub returns : goal.returns
returns c = λ program b before rest core later led foreign. released-foreign (toy program) b rest (Some core) core later before refl foreign led
