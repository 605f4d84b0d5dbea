use Rattle.std.proofs.Common.{◌≡◌, true, false, Some, None, sym, ap, ◌∙◌}
use Rattle.std.specs.List.{position}
use Rattle.speculation.specs.Core.{name_eq}
use Rattle.track_board.specs.declared.loan.Loan.{Loan}
use Rattle.journal_check.proofs.Taking.{place-missing, place-taken, removed-at}
use Rattle.journal_check.proofs.replay.take_out.Goals as goal

pub unreachable-requires : goal.unreachable-requires
unreachable-requires c =
    let here : position (λ (l : Loan). name_eq c.args.name l.name) c.args.out.now.items ≡ None =
    ap (position (λ (l : Loan). name_eq c.args.name l.name)) (sym c.deref.ensures.value) ∙ sym c.in-None.ensures in
    let both : true ≡ false = sym c.requires ∙ place-missing c.args.name c.args.out.now.items here in
    cc

pub returns : goal.returns
returns c =
    let here : position (λ (l : Loan). name_eq c.args.name l.name) c.args.out.now.items ≡ Some c.in-Some.place =
    ap (position (λ (l : Loan). name_eq c.args.name l.name)) (sym c.deref.ensures.value) ∙ sym c.in-Some.ensures in
    place-taken c.args.name c.args.out.now.items c.remove.new.self.items c.in-Some.place c.remove.result here c.remove.ensures.items
    (removed-at c.args.out.now.items c.in-Some.place c.remove.result c.remove.ensures.value)
