use Rattle.fasttrack_program.proofs.OnOwnEnds.{own-end, own-part}
use Rattle.fasttrack_program.proofs.laws.jobs_have_their_own_ends.Goals as goal

pub returns : goal.returns
returns c = record { done = own-end; part = own-part }
