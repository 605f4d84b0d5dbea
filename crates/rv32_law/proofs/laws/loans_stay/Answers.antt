use Rattle.guest_model.specs.Rv32.{rv32}
use Rattle.rv32_law.proofs.Differences.{exact-rv32}
use Rattle.speculation_law.proofs.Soundness.{sound-history}
use Rattle.speculation_law.proofs.Fates.{loan-later}
use Rattle.rv32_law.proofs.laws.loans_stay.Goals as goal

pub returns : goal.returns
returns c = λ input b start before rest core later n l guest h led found foreign.
    loan-later (rv32 input) b start (exact-rv32 input start guest) before rest core later n l (sound-history (rv32 input) b start before core (exact-rv32 input start guest) h) h led found foreign
