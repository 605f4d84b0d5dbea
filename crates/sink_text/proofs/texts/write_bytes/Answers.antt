use Rattle.sink_text.proofs.OnTexts.{line_stops}
use Rattle.sink_text.proofs.texts.write_bytes.Goals as goal

pub returns-in-Err : goal.returns-in-Err
returns-in-Err g c = (line_stops (g.O.Sink.contents c.args.out.now) (g.O.Sink.contents c.write_whole.new.sink) c.args.bytes.now c.in-Err.ensures.written, c.in-Err.ensures.counted)
