use Rattle.std.proofs.Common.{Some, refl}
use Rattle.guest_model.specs.Rv32.{rv32}
use Rattle.speculation_law.proofs.Prefixes.{released-foreign}
use Rattle.rv32_law.proofs.laws.others_release_nothing.Goals as goal

pub returns : goal.returns
returns c = λ input b before rest core later led foreign. released-foreign (rv32 input) b rest (Some core) core later before refl foreign led
