use Rattle.std.proofs.Common.{rules, ◌∷◌, Some, sym, ap, ◌∙◌}
use Rattle.atomic_table.specs.Table.{rest}
use Rattle.board_lock.proofs.Turning.{looks}
use Rattle.board_lock.proofs.steps.take_turn.Goals as goal

pub load-serving-requires : goal.load-serving-requires
load-serving-requires g c =
    let ticket = c.requires.ticket in
    let is = c.loop.invariant.1 ∙ ticket.2 in
    (search rules, search rules, looks g.T.Kept.fixed g.T.Kept.entries g.T.Kept.belongs (g.T.Kept.fixed c.args.top.now.key.value) _ _ c.loop.place.me ticket.0 (ap (λ m. m.0.stage) is) (ap (λ m. m.1) is))

pub exchange-requires : goal.exchange-requires
exchange-requires g c =
    let ticket = c.requires.ticket in
    let is = c.loop.invariant.1 ∙ ticket.2 in
    let found = (c.load-serving.ensures.2 ticket.0 (ap (λ m. m.0.stage) is)).0 (c.if-serving-ticket.true ∙ ticket.1) in
    let taken = ap (λ m. m.1) found.2 in
    (search rules, (Some found.0, taken ∙ ap (λ cs. (0, Some found.0) ∷ rest cs) (sym taken)))
