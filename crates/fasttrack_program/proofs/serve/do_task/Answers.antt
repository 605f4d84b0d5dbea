use Rattle.guest_streams.specs.GuestStreams.{sinks_of}
use Rattle.fasttrack_program.proofs.serve.do_task.Goals as goal

pub returns-in-Trial : goal.returns-in-Trial
returns-in-Trial g c = rw c.in-Trial.is (c.show_trial.ensures (sinks_of g.O.Sink g.N.Sink c.args.out.now c.args.notes.now))

pub returns-in-Bench : goal.returns-in-Bench
returns-in-Bench g c = rw c.in-Bench.is (c.show_bench.ensures (sinks_of g.O.Sink g.N.Sink c.args.out.now c.args.notes.now))

pub returns-in-Explain : goal.returns-in-Explain
returns-in-Explain g c = rw c.in-Explain.is (c.show_explanation.ensures (sinks_of g.O.Sink g.N.Sink c.args.out.now c.args.notes.now))
