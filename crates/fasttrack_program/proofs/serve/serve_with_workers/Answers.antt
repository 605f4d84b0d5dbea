use Rattle.guest_streams.specs.GuestStreams.{sinks_of}
use Rattle.fasttrack_program.proofs.serve.serve_with_workers.Goals as goal

pub returns-in-Batch-clause-served : goal.returns-in-Batch-clause-served
returns-in-Batch-clause-served g c = c.serve_batch.ensures.served (sinks_of g.O.Sink g.N.Sink c.args.out.now c.args.notes.now)
