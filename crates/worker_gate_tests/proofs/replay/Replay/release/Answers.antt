use Rattle.track_board.proofs.Seats.{all-wait}
use Rattle.worker_gate_tests.proofs.replay.Replay.release.Goals as goal

pub invariant_of-self : goal.invariant_of-self
invariant_of-self c = (c.release.ensures.known, all-wait c.self.inside.board c.release.new.board c.self.invariant.0 c.release.ensures.known c.self.inside.out.items c.self.invariant.1 c.release.ensures.others)
