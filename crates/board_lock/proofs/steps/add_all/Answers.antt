use Rattle.std.proofs.Common.{rules}
use Rattle.board_lock.proofs.Resting.{one_more}
use Rattle.board_lock.proofs.steps.add_all.Goals as goal

pub loop-preserved : goal.loop-preserved
loop-preserved g c =
    let before = c.loop.invariant in
    let after = one_more g.T.Kept.belongs c.args.place.now.me c.loop.place.me c.add_one.new.place.me (g.T.Kept.entries c.args.value.now) c.loop.counter before.1 before.2 before.3 c.add_one.ensures.entry in
    ((search rules, search rules), after.0, after.1, after.2)
