use Rattle.std.proofs.Common.{sym, subst}
use Rattle.track_board.specs.LoanView.{LoanView}
use Rattle.track_board.specs.Loans.{HasRun}
use Rattle.track_board.proofs.board.Board.back.Goals as goal

pub take_normal-requires-clause-ran : goal.take_normal-requires-clause-ran
take_normal-requires-clause-ran c = subst (λ (l : LoanView). HasRun c.args.self.now l) (sym c.loan.view_is) c.requires.ran

pub take_lead-requires-clause-ran : goal.take_lead-requires-clause-ran
take_lead-requires-clause-ran c = subst (λ (l : LoanView). HasRun c.args.self.now l) (sym c.loan.view_is) c.requires.ran
