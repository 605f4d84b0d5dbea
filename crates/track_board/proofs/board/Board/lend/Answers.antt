use Rattle.track_board.proofs.Lends.{lend-oldest}
use Rattle.track_board.proofs.board.Board.lend.Goals as goal

pub returns-in-Some-clause-loan : goal.returns-in-Some-clause-loan
returns-in-Some-clause-loan c = lend-oldest c.args.self.now c.lend_named.new.self c.args.seat c.in-Some.name c.lend_named.result c.in-Some.ensures.oldest c.lend_named.ensures.loan
