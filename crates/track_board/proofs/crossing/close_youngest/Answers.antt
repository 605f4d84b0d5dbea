use Rattle.track_board.proofs.Crosses.{no-youngest, youngest-closed, youngest-found}
use Rattle.track_board.proofs.crossing.close_youngest.Goals as goal

pub returns-in_default : goal.returns-in_default
returns-in_default c = no-youngest c.args.regions.now c.args.crossed c.in_default.ensures.key

pub returns-in-Some-get_mut : goal.returns-in-Some-get_mut
returns-in-Some-get_mut c =
    youngest-closed c.args.regions.now c.in-Some.key c.in-Some-get_mut.region.now c.args.crossed c.in-Some.ensures.sound c.in-Some.ensures.key c.in-Some-get_mut.ensures.value

pub returns-in_default-get_mut : goal.returns-in_default-get_mut
returns-in_default-get_mut c = absurd (youngest-found c.args.regions.now c.in-Some.key c.in-Some.ensures.sound c.in-Some.ensures.key c.in_default-get_mut.ensures.value)
