use Rattle.std.proofs.Common.{ap, ◌∙◌}
use Rattle.board_lock.proofs.Resting.{poised_turn, still_in_turn}
use Rattle.board_lock.proofs.lock.TurnLock.leave.Goals as goal

pub end_turn-requires-clause-turn : goal.end_turn-requires-clause-turn
end_turn-requires-clause-turn g c =
    let turn = poised_turn _ _ (ap (λ p. p.in_turn) c.pass.view_is ∙ c.requires.turn) c.pass.invariant.3 in
    (turn.0, still_in_turn c.pass.inside.place.me _ _ turn.0 c.add_all.ensures.entries turn.1 turn.2)
