use Rattle.std.proofs.Common.{◌≡◌, List, sym, ◌∙◌, subst}
use Rattle.track_board.specs.Value.{Posted}
use Rattle.job_batch.specs.Ends.{AreEnds}
use Rattle.job_batch.specs.Parts.{boards_of}
use Rattle.job_batch.proofs.Places.{boards-kept, seats-kept}
use Rattle.job_batch.proofs.batching.batch.Goals as goal

pub returns : goal.returns
returns g c =
    let before = c.in_ok-opened.opened.jobs.items in
    let after = c.go_together.new.jobs.items in
    let boards : boards_of after ≡ c.args.jobs = boards-kept before after c.go_together.ensures.starts ∙ c.in_ok-opened.ensures.boards ∙ c.into_boards-boards.ensures in
    subst (AreEnds c.args.workers c.args.jobs) (sym c.from_vec.ensures)
    (subst (λ (vs : List Posted). AreEnds c.args.workers vs c.in_ok-ends-2.ends.items) boards
    (c.in_ok-ends-2.ensures c.args.workers (seats-kept c.args.workers before after c.go_together.ensures.starts c.in_ok-opened.ensures.opened.seats)))
