use Rattle.std.proofs.Common.{◌≡◌, ◌+◌, ◌-◌, ◌^◌, min, length, take, ap, length-append, arith}
use Rattle.speculation.specs.Run.{marks_upto}
use Rattle.track_board.specs.Parts.{ready_marks}
use Rattle.track_board.proofs.ReadyMarks.{ready_marks-more}
use Rattle.track_board.proofs.ready.size_of.Goals as goal

pub loop-part-preserved : goal.loop-part-preserved
loop-part-preserved c =
    let part = c.part-item.result in
    let front = ready_marks (take c.loop-part.part-index c.args.ready.now) in
    let more = ap length (ready_marks-more c.args.ready.now c.loop-part.part-index part c.loop-part-test.true c.part-item.is) in
    let parts = length-append front (marks_upto part.limit part.held) in
    let before : c.loop-part.size ≡ min (length front) (2 ^ 64 - 1) = c.loop-part.invariant in
    let now : c.saturating_add-size.result ≡ min (length (ready_marks (take (c.loop-part.part-index + 1) c.args.ready.now))) (2 ^ 64 - 1)
    = omega (arith, c.saturating_add-size.ensures, c.size_upto.ensures.size, before, more, parts) in
    now
