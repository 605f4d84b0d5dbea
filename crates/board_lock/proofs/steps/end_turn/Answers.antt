use Rattle.std.proofs.Common.{rules}
use Rattle.board_lock.proofs.Resting.{put_in}
use Rattle.board_lock.proofs.Turning.{passes}
use Rattle.board_lock.proofs.steps.end_turn.Goals as goal

pub fetch_add-served-requires : goal.fetch_add-served-requires
fetch_add-served-requires g c =
    let full = put_in c.args.place.now.me c.exchange-vacant.new.seat.me c.args.value c.exchange-vacant.ensures.3 c.requires.turn in
    (search rules, search rules, passes g.T.Kept.fixed g.T.Kept.entries g.T.Kept.belongs (g.T.Kept.fixed c.args.top.now.key.value) _ _ _ c.requires.turn.0 c.args.value full.0 full.1 (search rules) (search rules))
