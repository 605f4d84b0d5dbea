use Rattle.guest_model.specs.Rv32.{rv32}
use Rattle.rv32_law.proofs.Differences.{exact-rv32}
use Rattle.speculation_law.proofs.Histories.{law-partial, law-complete}
use Rattle.rv32_law.proofs.laws.law_of_histories.Goals as goal

pub returns : goal.returns
returns c = record {
  partial = λ input b start entries core guest h. law-partial (rv32 input) b start entries core (exact-rv32 input start guest) h;
  complete = λ input b start entries core f guest h finished. law-complete (rv32 input) b start entries core f (exact-rv32 input start guest) h finished;
}
