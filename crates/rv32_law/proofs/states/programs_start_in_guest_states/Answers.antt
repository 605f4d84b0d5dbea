use Rattle.rv32_law.proofs.Starts.{start-is-guest}
use Rattle.rv32_law.proofs.states.programs_start_in_guest_states.Goals as goal

pub returns : goal.returns
returns c = λ input entry areas heap layout. start-is-guest input entry areas heap layout
