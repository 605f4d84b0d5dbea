use Rattle.rv32_law.proofs.Differences.{difference-none, difference-same, exact-rv32}
use Rattle.rv32_law.proofs.states.no_difference_is_missed.Goals as goal

pub returns : goal.returns
returns c = record {
  none = λ input s t h k shared none. difference-none input s t h k shared none;
  same = λ s. difference-same s;
  exact = λ input start h. exact-rv32 input start h;
}
