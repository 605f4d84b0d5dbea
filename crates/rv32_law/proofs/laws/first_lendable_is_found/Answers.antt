use Rattle.guest_model.specs.Rv32.{rv32}
use Rattle.speculation_law.proofs.SerialSteps.{first_lendable-true}
use Rattle.speculation_law.proofs.Lendables.{first_lendable-none}
use Rattle.rv32_law.proofs.laws.first_lendable_is_found.Goals as goal

pub returns : goal.returns
returns c = record {
  found = λ input b core n h. first_lendable-true (rv32 input) b core n core.regions h;
  none = λ input b core n h. first_lendable-none (rv32 input) b core n h;
}
