use Rattle.speculation.specs.Run.{fresh}
use Rattle.rv32_law.proofs.Reached.{go-keeps, point-keeps, point-not_spent}
use Rattle.rv32_law.proofs.states.runs_keep_states.Goals as goal

pub returns : goal.returns
returns c = record {
  runs = λ input s n h. go-keeps input (fresh s) n h;
  tracks = λ input kind s own h. point-keeps input kind s own h;
  ends = λ input kind s own e h is. point-not_spent input kind s own e h is;
}
