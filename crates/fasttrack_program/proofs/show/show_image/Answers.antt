use Rattle.guest_streams.specs.GuestStreams.{Sinks, with_out}
use Rattle.sink_text.specs.TextOnSink.{WritesOn}
use Rattle.fasttrack_program.specs.Showing.{OfText}
use Rattle.fasttrack_program.proofs.OnShowing.{shows-text}
use Rattle.fasttrack_program.proofs.show.show_image.Goals as goal

pub returns-in-Ok : goal.returns-in-Ok
returns-in-Ok g c = λ (s : Sinks).
    let written : WritesOn g.O.Sink c.args.out.now c.write_bytes.new.out c.in-Ok.image c.write_bytes.result = rw c.as_slice.ensures at c.write_bytes.ensures in
    rw c.shown.ensures
    (shows-text (OfText c.args.text.now) (with_out g.O.Sink c.args.out.now s) (g.O.Sink.contents c.write_bytes.new.out) (g.O.Sink.faults c.write_bytes.new.out) c.in-Ok.image c.write_bytes.result c.in-Ok.ensures written)
