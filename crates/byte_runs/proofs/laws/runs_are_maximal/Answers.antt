use Rattle.std.proofs.Common.{◌^◌}
use Rattle.byte_runs.specs.Runs.{differs}
use Rattle.byte_runs.proofs.OnBelow.{runs_maximal}
use Rattle.byte_runs.proofs.laws.runs_are_maximal.Goals as goal

pub returns-clause-marked : goal.returns-clause-marked
returns-clause-marked c = runs_maximal

pub returns-clause-bytes : goal.returns-clause-bytes
returns-clause-bytes c = λ m n. runs_maximal (differs m n) (2 ^ 32)
