use Rattle.std.proofs.Common.{List, sym, ap, ◌∙◌}
use Rattle.speculation.specs.Core.{find_loan}
use Rattle.track_board.specs.Value.{GuestCore}
use Rattle.track_board.specs.Parts.{core_loans}
use Rattle.track_board.specs.declared.loan.Lent.{Lent}
use Rattle.track_board.proofs.Foundation.{core-seen, known-seen}
use Rattle.track_board.proofs.board.Board.loan_of.Goals as goal

pub returns-clause-loan : goal.returns-clause-loan
returns-clause-loan c =
    let h = c.self.invariant.1 in
    c.open_loan_of.ensures ∙ ap (λ (ls : List Lent). find_loan c.args.name (core_loans ls)) c.deref.ensures.value
    ∙ ap (find_loan c.args.name) (h.fields.loans ∙ ap (λ (k : GuestCore). k.loans) (sym (core-seen c.self.inside c.self.invariant.0 c.args.self.now h c.self.view_is)))

pub returns-clause-known : goal.returns-clause-known
returns-clause-known c = known-seen c.self.inside c.self.invariant.0 c.args.self.now c.self.invariant.1 c.self.view_is
