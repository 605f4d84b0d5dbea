use Rattle.guest_streams.specs.GuestStreams.{Sinks, sinks_of}
use Rattle.fasttrack_program.proofs.show_run.show_run_with_workers.Goals as goal

pub returns : goal.returns
returns g c =
    let before : Sinks = sinks_of g.O.Sink g.N.Sink c.args.out.now c.args.notes.now in
    let between : Sinks = sinks_of g.O.Sink g.N.Sink c.run_with_workers-conducted.new.out c.run_with_workers-conducted.new.notes in
    c.end_run.ensures c.args.guest.loaded c.args.guest.input before between c.run_with_workers-conducted.ensures
