use Rattle.std.proofs.Common.{◌≡◌, length}
use Rattle.seniority_queue.specs.Listing.{through, keeping}
use Rattle.seniority_queue.proofs.queue.Queue.cut_after.Given as goal

abbrev pub invariant-loop-key : goal.invariant-loop-key
invariant-loop-key g l = keeping l.self (through l.key l.self.nodes) ≡ keeping l.fn.self (through l.key l.fn.self.nodes)

abbrev pub decreases-loop-key : goal.decreases-loop-key
decreases-loop-key g l = length l.self.nodes
