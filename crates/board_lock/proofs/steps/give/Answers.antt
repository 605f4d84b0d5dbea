use Rattle.std.proofs.Common.{rules}
use Rattle.board_lock.proofs.Turning.{splits}
use Rattle.board_lock.proofs.steps.give.Goals as goal

pub split_seat-requires : goal.split_seat-requires
split_seat-requires g c = (search rules, search rules, splits g.T.Kept.fixed g.T.Kept.entries g.T.Kept.belongs (g.T.Kept.fixed c.args.top.now.key.value) _ _ c.requires.idle.0 c.requires.stock)
