use Rattle.rv32_law.proofs.OneStep.{step-keeps, answer_one-keeps}
use Rattle.rv32_law.proofs.states.steps_keep_states.Goals as goal

pub returns : goal.returns
returns c = record {
  step = λ fast input s h. step-keeps input s h fast;
  answer = λ input s h. answer_one-keeps input s h;
}
