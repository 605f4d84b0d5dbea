use Rattle.track_board.proofs.Seats.{all-cleared, all-home}
use Rattle.worker_gate_tests.proofs.replay.Replay.bring_home.Goals as goal

pub invariant_of-self : goal.invariant_of-self
invariant_of-self c = (c.self.invariant.0, all-cleared c.self.inside.board c.self.inside.out.items c.take.new.out.items c.args.place c.self.invariant.1 c.take.ensures.left)

pub back-requires-clause-ran : goal.back-requires-clause-ran
back-requires-clause-ran c = (c.self.invariant.1 c.args.place c.in-Some.loan c.in-Some.ensures.taken).ran

pub invariant_of-self-2 : goal.invariant_of-self-2
invariant_of-self-2 c = (
  c.back.ensures.known,
  all-home c.self.inside.board c.back.new.self c.self.invariant.0 c.back.ensures.known c.self.inside.out.items c.self.invariant.1
      c.args.place c.in-Some.loan c.take.new.out.items c.in-Some.ensures.taken c.take.ensures.left c.back.result c.back.ensures.returned,
)
