use Rattle.std.proofs.Common.{Some, sym, ap, ◌∙◌}
use Rattle.std.proofs.lemmas.Option.{get_or_from_slice_get}
use Rattle.speculation.specs.declared.tracks.OpenLoan.{OpenLoan}
use Rattle.track_board.specs.Parts.{core_loan}
use Rattle.track_board.proofs.Lents.{position-lent, position-missing}
use Rattle.track_board.proofs.lent.open_loan_of.Goals as goal

pub returns-in-Some : goal.returns-in-Some
returns-in-Some c =
    let at = position-lent c.args.name c.args.loans.now c.in-Some.place (sym c.find_lent.ensures ∙ c.in-Some.is) in
    ap (λ (l : OpenLoan). Some l) (c.open_loan.ensures ∙ ap core_loan (get_or_from_slice_get c.args.loans.now c.in-Some.place at.0 _ at.1.at)) ∙ sym at.1.found

pub returns-in-None : goal.returns-in-None
returns-in-None c = sym (position-missing c.args.name c.args.loans.now (sym c.find_lent.ensures ∙ c.in-None.is))
