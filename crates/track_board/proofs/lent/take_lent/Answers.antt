use Rattle.std.proofs.Common.{◌≡◌, List, Some, sym, ap, ◌∙◌}
use Rattle.std.specs.List.{position}
use Rattle.std.proofs.lemmas.Option.{get_or_from_slice_get}
use Rattle.track_board.specs.Parts.{core_loan, core_loans}
use Rattle.track_board.specs.declared.loan.Lent.{Lent}
use Rattle.track_board.proofs.Lents.{is_of, LentAt, position-lent, position-missing}
use Rattle.track_board.proofs.lent.take_lent.Goals as goal

-- the loan that was found is taken out
found-loan : (c : goal.After-remove) → (l : Lent) × LentAt c.args.name c.args.loans.now.items c.in-Some.place l
found-loan c =
    position-lent c.args.name c.args.loans.now.items c.in-Some.place
    (ap (λ (xs : List Lent). position (is_of c.args.name) xs) (sym c.deref.ensures.value) ∙ sym c.find_lent.ensures ∙ c.in-Some.is)

is-found : (c : goal.After-remove) → c.remove.result ≡ (found-loan c).0
is-found c = c.remove.ensures.value ∙ get_or_from_slice_get c.args.loans.now.items c.in-Some.place (found-loan c).0 c.remove.result (found-loan c).1.at

pub unreachable-requires : goal.unreachable-requires
unreachable-requires c =
    let none = position-missing c.args.name c.args.loans.now.items
    (ap (λ (xs : List Lent). position (is_of c.args.name) xs) (sym c.deref.ensures.value) ∙ sym c.find_lent.ensures ∙ c.in-None.is) in
    let some = c.requires.1 in cc

pub returns-clause-found : goal.returns-clause-found
returns-clause-found c = (found-loan c).1.found ∙ ap (λ (l : Lent). Some (core_loan l)) (sym (is-found c))

pub returns-clause-ended : goal.returns-clause-ended
returns-clause-ended c = ap core_loans c.remove.ensures.items ∙ (found-loan c).1.ended

pub returns-clause-place : goal.returns-clause-place
returns-clause-place c = (c.in-Some.place, (found-loan c).1.at ∙ ap (λ (l : Lent). Some l) (sym (is-found c)), c.remove.ensures.items)
