use Rattle.std.proofs.Common.{◌∙◌}
use Rattle.track_board.proofs.Walks.{last-get, last-none}
use Rattle.track_board.proofs.lendable.youngest.Goals as goal

pub returns-in_default : goal.returns-in_default
returns-in_default c = last-none c.args.regions.now.nodes c.in_default.ensures.key

pub returns : goal.returns
returns c = c.get.ensures.value ∙ last-get c.args.regions.now c.in-Some.key c.in-Some.ensures.sound c.in-Some.ensures.key
