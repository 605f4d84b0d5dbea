use Rattle.speculation.specs.Run.{fresh}
use Rattle.rv32_law.proofs.OutputBounds.{out-bound, held-bound, history-bound}
use Rattle.rv32_law.proofs.states.output_is_bounded.Goals as goal

pub returns : goal.returns
returns c = record {
  run = λ input s n h. out-bound input (fresh s) n h;
  held = λ input s n given held h is. held-bound input (fresh s) 0 n given held h is;
  history = λ input b start entries core h legal. history-bound input b start entries core h legal;
}
