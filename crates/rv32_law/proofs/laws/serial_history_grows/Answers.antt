use Rattle.guest_model.specs.Rv32.{rv32}
use Rattle.rv32_law.proofs.Differences.{exact-rv32}
use Rattle.speculation_law.proofs.SerialSoFar.{serial_so_far-next, serial_so_far-whole}
use Rattle.rv32_law.proofs.laws.serial_history_grows.Goals as goal

pub returns : goal.returns
returns c = record {
  grows = λ input b start entries xs core guest so_far h next.
      serial_so_far-next (rv32 input) b start (exact-rv32 input start guest) entries xs core so_far h next;
  whole = λ input b start entries core guest so_far h next. serial_so_far-whole (rv32 input) b start (exact-rv32 input start guest) entries core so_far h next;
}
