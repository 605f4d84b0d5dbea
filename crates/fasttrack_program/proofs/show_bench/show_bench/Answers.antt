use Rattle.fasttrack_program.proofs.OnRuns.{outcome-of_some}
use Rattle.fasttrack_program.proofs.show_bench.show_bench.Goals as goal

pub end_bench-requires-clause-ran : goal.end_bench-requires-clause-ran
end_bench-requires-clause-ran g c = outcome-of_some c.args.guest.loaded c.args.guest.input c.args.options.now c.run_counted-outcome.result c.run_counted-outcome.ensures
