use Rattle.std.proofs.Common.{◌++◌, List, ap, sym, ◌∙◌}
use Rattle.speculation.specs.Run.{Mark, marks_upto}
use Rattle.track_board.proofs.ReadyMarks.{ready_marks-more}
use Rattle.track_board.proofs.ready.copy_of.Goals as goal

pub loop-part-preserved : goal.loop-part-preserved
loop-part-preserved c =
    let part = c.part-item.result in
    c.in_ok-append_bytes.ensures.ok ∙ ap (λ (ms : List Mark). ms ++ marks_upto part.limit part.held) c.loop-part.invariant
    ∙ sym (ready_marks-more c.args.ready.now c.loop-part.part-index part c.loop-part-test.true c.part-item.is)
