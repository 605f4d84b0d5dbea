use Rattle.track_board.proofs.Seats.{all-wait}
use Rattle.worker_gate_tests.proofs.replay.Replay.settle.Goals as goal

pub invariant_of-self : goal.invariant_of-self
invariant_of-self c = (c.settle.ensures.known, all-wait c.self.inside.board c.settle.new.board c.self.invariant.0 c.settle.ensures.known c.self.inside.out.items c.self.invariant.1 c.settle.ensures.others)
