use Rattle.std.proofs.Common.{◌⊎◌, IsTrue, subst}
use Rattle.speculation.specs.declared.tracks.Name.{Name}
use Rattle.speculation.specs.Core.{over}
use Rattle.track_board.specs.Value.{core_of}
use Rattle.track_board.specs.Loans.{WasDropped}
use Rattle.track_board.proofs.board.Board.give_up.Goals as goal

pub returns-clause-over : goal.returns-clause-over
returns-clause-over c = subst (λ (n : Name). IsTrue (over (core_of c.end_loan.new.self)) ⊎ WasDropped c.args.self.now n) c.name.ensures c.end_loan.ensures.over
