use Rattle.guest_model.specs.Rv32.{rv32}
use Rattle.rv32_law.proofs.Differences.{exact-rv32}
use Rattle.speculation_law.proofs.Soundness.{sound-history}
use Rattle.speculation_law.proofs.SerialSteps.{serial_next-allowed}
use Rattle.rv32_law.proofs.laws.serial_steps_are_allowed.Goals as goal

pub returns : goal.returns
returns c = λ input b start entries xs core guest h next.
    (let allowed = serial_next-allowed (rv32 input) b core xs (sound-history (rv32 input) b start entries core (exact-rv32 input start guest) h).named next in (allowed.new, allowed.leads))
