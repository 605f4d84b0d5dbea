use Rattle.track_board.proofs.Releases.{oldest-left}
use Rattle.track_board.proofs.release.discard_front.Goals as goal

pub returns-in-Some-get_mut-clause-front : goal.returns-in-Some-get_mut-clause-front
returns-in-Some-get_mut-clause-front c =
    oldest-left c.args.limit c.args.regions.now c.in-Some.oldest c.in-Some-get_mut.region.now c.discard_held-in-Some-get_mut.new.slot c.args.lead.now
    c.in-Some.ensures.sound c.in-Some.ensures.key c.in-Some-get_mut.ensures.value c.discard_held-in-Some-get_mut.ensures
