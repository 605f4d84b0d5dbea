use Rattle.guest_streams.specs.GuestStreams.{Sinks, sinks_of}
use Rattle.fasttrack_program.proofs.OnRuns.{runs-conducted, runs-nothing}
use Rattle.fasttrack_program.proofs.boards.run_tracks.Goals as goal

pub returns-in-Ok : goal.returns-in-Ok
returns-in-Ok g c =
    let before : Sinks = sinks_of g.O.Sink g.N.Sink c.args.out.now c.args.notes.now in
    let after : Sinks = sinks_of g.O.Sink g.N.Sink c.conduct_serial.new.out c.conduct_serial.new.notes in
    runs-conducted c.args.loaded.now c.args.input c.args.options.now c.in-Ok.board c.conduct_serial.new.board before after c.conduct_serial.result c.requires.alone c.in-Ok.ensures
    c.conduct_serial.ensures.same c.conduct_serial.ensures.conducts

pub returns-in-Err : goal.returns-in-Err
returns-in-Err g c =
    let before : Sinks = sinks_of g.O.Sink g.N.Sink c.args.out.now c.args.notes.now in
    runs-nothing c.args.loaded.now c.args.input c.args.options.now before
