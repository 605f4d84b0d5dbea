use Rattle.fasttrack_program.proofs.OnTelling.{told-once}
use Rattle.fasttrack_program.proofs.laws.what_is_shown_is_not_refused.Goals as goal

pub returns : goal.returns
returns c = told-once
