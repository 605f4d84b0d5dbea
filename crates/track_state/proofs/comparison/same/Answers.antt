use Rattle.track_state.proofs.OnComparison.{exactly-none}
use Rattle.track_state.proofs.comparison.same.Goals as goal

pub returns-clause-none : goal.returns-clause-none
returns-clause-none g c = exactly-none c.args.a.now c.args.b.now c.find_difference.result c.pc-left.ensures.zero c.pc-right.ensures.zero c.requires.comparable.layout c.find_difference.ensures.first
