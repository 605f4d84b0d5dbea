use Rattle.guest_model.specs.Rv32.{rv32}
use Rattle.speculation_law.proofs.Totals.{totalled}
use Rattle.rv32_law.proofs.laws.path_count_is_within.Goals as goal

pub returns : goal.returns
returns c = λ input start budget rows h. totalled (rv32 input) start budget rows h
