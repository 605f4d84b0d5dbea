use Rattle.guest_model.specs.Rv32.{rv32}
use Rattle.rv32_law.proofs.Differences.{exact-rv32}
use Rattle.speculation_law.proofs.Soundness.{sound-history}
use Rattle.rv32_law.proofs.laws.histories_are_sound.Goals as goal

pub returns : goal.returns
returns c = λ input b start entries core guest h. sound-history (rv32 input) b start entries core (exact-rv32 input start guest) h
