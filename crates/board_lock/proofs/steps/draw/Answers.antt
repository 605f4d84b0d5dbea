use Rattle.std.proofs.Common.{rules}
use Rattle.board_lock.proofs.Turning.{draws}
use Rattle.board_lock.proofs.steps.draw.Goals as goal

pub fetch_add-requires : goal.fetch_add-requires
fetch_add-requires g c = (search rules, search rules, draws g.T.Kept.fixed g.T.Kept.entries g.T.Kept.belongs (g.T.Kept.fixed c.args.top.now.key.value) _ _ _ c.requires.idle)
