use Rattle.track_board.proofs.Seats.{all-cleared, all-given_up}
use Rattle.track_board_tests.proofs.history_tests.steps.Round.give_up.Goals as goal

pub invariant_of-self : goal.invariant_of-self
invariant_of-self c = (c.self.invariant.0, all-cleared c.self.inside.board c.self.inside.out.items c.take.new.out.items c.args.place c.self.invariant.1 c.take.ensures.left)

pub invariant_of-self-2 : goal.invariant_of-self-2
invariant_of-self-2 c = (
  c.give_up.ensures.known,
  all-given_up c.self.inside.board c.give_up.new.self c.self.invariant.0 c.give_up.ensures.known c.self.inside.out.items c.self.invariant.1
      c.args.place c.in-Some.loan c.take.new.out.items c.in-Some.ensures.taken c.take.ensures.left c.give_up.ensures.entry,
)
