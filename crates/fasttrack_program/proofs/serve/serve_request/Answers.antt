use Rattle.guest_streams.specs.GuestStreams.{sinks_of}
use Rattle.fasttrack_program.proofs.serve.serve_request.Goals as goal

pub returns-then-shows_text-clause-served : goal.returns-then-shows_text-clause-served
returns-then-shows_text-clause-served g c = c.serve_text.ensures.served (sinks_of g.O.Sink g.N.Sink c.args.out.now c.args.notes.now)
