use Rattle.track_board.proofs.Settling.{acted-known}
use Rattle.track_board.proofs.board.Board.settle_one.Goals as goal

pub returns-clause-known : goal.returns-clause-known
returns-clause-known c = acted-known c.args.self.now c.act.new.self c.in_ok-act.ensures c.find_due.ensures.known
