use Rattle.fasttrack_program.proofs.OnCompleteness.{good-done, bench-done}
use Rattle.fasttrack_program.proofs.laws.good_calls_are_done.Goals as goal

pub returns-clause-image : goal.returns-clause-image
returns-clause-image c = good-done

pub returns-clause-bench : goal.returns-clause-bench
returns-clause-bench c = bench-done
