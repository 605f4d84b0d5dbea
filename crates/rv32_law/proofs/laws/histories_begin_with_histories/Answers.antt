use Rattle.std.proofs.Common.{Some}
use Rattle.speculation.specs.Core.{opening}
use Rattle.guest_model.specs.Rv32.{rv32}
use Rattle.speculation_law.proofs.Prefixes.{run-parted}
use Rattle.rv32_law.proofs.laws.histories_begin_with_histories.Goals as goal

pub returns : goal.returns
returns c = λ input b start entries rest core h.
    (let parted = run-parted (rv32 input) b start (Some (opening start)) entries rest core h in (parted.middle, parted.first))
