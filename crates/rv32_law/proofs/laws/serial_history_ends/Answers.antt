use Rattle.guest_model.specs.Rv32.{rv32}
use Rattle.rv32_law.proofs.Differences.{exact-rv32}
use Rattle.speculation_law.proofs.SerialSoFar.{serial-only}
use Rattle.speculation_law.proofs.SerialEnds.{serial-exists, serial-finished}
use Rattle.rv32_law.proofs.laws.serial_history_ends.Goals as goal

pub returns : goal.returns
returns c = record {
  exists = λ input b start guest. serial-exists (rv32 input) b start (exact-rv32 input start guest);
  only = λ input b start entries others guest h k. serial-only (rv32 input) b start (exact-rv32 input start guest) entries others h k;
  finished = λ input b start entries h guest some. serial-finished (rv32 input) b start (exact-rv32 input start guest) entries h some;
}
