use Rattle.guest_streams.specs.GuestStreams.{sinks_of}
use Rattle.fasttrack_program.proofs.serve.do_with_workers.Goals as goal

pub returns-in-Bench : goal.returns-in-Bench
returns-in-Bench g c = rw c.in-Bench.is (c.show_bench_with_workers.ensures (sinks_of g.O.Sink g.N.Sink c.args.out.now c.args.notes.now))
