use Rattle.fasttrack_program.proofs.OnPlans.{good-runs, bench-runs}
use Rattle.fasttrack_program.proofs.laws.good_calls_run.Goals as goal

pub returns-clause-image : goal.returns-clause-image
returns-clause-image c = good-runs

pub returns-clause-bench : goal.returns-clause-bench
returns-clause-bench c = bench-runs
