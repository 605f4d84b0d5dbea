use Rattle.track_board.proofs.Settling.{IsSettling, weight_of}
use Rattle.track_board.proofs.board.Board.settle.Given as goal

abbrev pub invariant-loop : goal.invariant-loop
invariant-loop l = IsSettling l.fn.self l.self l.before

abbrev pub decreases-loop : goal.decreases-loop
decreases-loop l = weight_of l.self
