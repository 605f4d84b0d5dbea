use Rattle.std.proofs.Common.{◌∙◌, arith, length-drop}
use Rattle.host_io.proofs.Pieces.{Appends-take_more}
use Rattle.host_io.proofs.write.write_whole.Goals as goal

pub loop-done-preserved : goal.loop-done-preserved
loop-done-preserved g c =
    let kept = c.loop-done.invariant in
    let write = c.in_ok-done.ensures in (
      omega (arith, write.bound, length-drop c.loop-done.done c.args.bytes.now),
      Appends-take_more (g.S.Sink.contents c.args.sink.now) (g.S.Sink.contents c.loop-done.sink) (g.S.Sink.contents c.write.new.self) c.args.bytes.now c.loop-done.done c.in_ok-done.field-0 kept.1 write.bytes,
      write.counted ∙ kept.2,
    )
