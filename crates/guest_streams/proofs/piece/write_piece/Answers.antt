use Rattle.guest_streams.specs.GuestStreams.{Sinks, sinks_of}
use Rattle.guest_streams.proofs.OnStreams.{WritesPiece-on_out, WritesPiece-on_notes}
use Rattle.guest_streams.proofs.piece.write_piece.Goals as goal

pub returns-then-stream-eq1 : goal.returns-then-stream-eq1
returns-then-stream-eq1 g c =
    let before : Sinks = sinks_of g.O.Sink g.N.Sink c.args.out.now c.args.notes.now in
    WritesPiece-on_out before (g.O.Sink.contents c.write_whole.new.sink) (g.O.Sink.faults c.write_whole.new.sink) c.args.stream c.args.piece.now c.write_whole.result c.if-stream-eq1.true c.write_whole.ensures.written c.write_whole.ensures.counted

pub returns-else-stream-eq1 : goal.returns-else-stream-eq1
returns-else-stream-eq1 g c =
    let before : Sinks = sinks_of g.O.Sink g.N.Sink c.args.out.now c.args.notes.now in
    let written = c.write_whole-else-stream-eq1 in
    WritesPiece-on_notes before (g.N.Sink.contents written.new.sink) (g.N.Sink.faults written.new.sink) c.args.stream c.args.piece.now written.result c.requires c.if-stream-eq1.false written.ensures.written written.ensures.counted
