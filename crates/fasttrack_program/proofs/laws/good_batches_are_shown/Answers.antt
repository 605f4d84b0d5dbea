use Rattle.fasttrack_program.proofs.OnCompleteness.{batch-done}
use Rattle.fasttrack_program.proofs.laws.good_batches_are_shown.Goals as goal

pub returns : goal.returns
returns c = batch-done
