use Rattle.std.proofs.Common.{rules, sym, subst, length, ◌<◌}
use Rattle.board_lock.specs.Entries.{Appends}
use Rattle.board_lock.proofs.Turning.{adds}
use Rattle.board_lock.proofs.steps.add_one.Goals as goal

pub fetch_add-requires : goal.fetch_add-requires
fetch_add-requires g c =
    let m = c.args.place.now.me in (
      search rules,
      search rules,
      adds g.T.Kept.fixed g.T.Kept.entries g.T.Kept.belongs (g.T.Kept.fixed c.args.top.now.key.value) _ _ m c.requires.turn.0 g.J.Target.target c.requires.turn.1
          (subst (λ l. Appends g.T.Kept.belongs m.0.seat m.0.seen l) (sym c.requires.target) c.requires.appends) (subst (λ l. length m.0.seen < length l) (sym c.requires.target) c.requires.more),
    )
