use Rattle.std.proofs.Common.{◌≡◌, ℕ, false, Some, None, unwrap_or, set, get_or, ap, ◌∙◌, arith}
use Rattle.std.proofs.lemmas.List.{get_or_default}
use Rattle.std.proofs.lemmas.List.Edits.{map_over_more}
use Rattle.track_board.specs.declared.loan.Lent.{Lent}
use Rattle.track_board.specs.Discarding.{lent_dropped}
use Rattle.track_board.proofs.discarding.mark_dropped.Goals as goal

pub loop-loan-preserved : goal.loop-loan-preserved
loop-loan-preserved c =
    let none : Lent = record { seat = 0; name = record { generation = 0; region = 0; normal = false }; key = None; dropped = None } in
    let loan : Lent = get_or c.loop-loan.loan-items c.loop-loan.loan-index none in
    let row : c.unwrap_or.result ≡ unwrap_or loan.dropped c.args.row = c.unwrap_or.ensures in
    ap (λ (n : ℕ). set c.loop-loan.loan-items c.loop-loan.loan-index (record loan { dropped = Some n })) row
    ∙ map_over_more (lent_dropped c.args.row) c.args.loans.now.items c.loop-loan.loan-items c.loop-loan.loan-index loan (omega arith) c.loop-loan.invariant
    (get_or_default c.loop-loan.loan-items c.loop-loan.loan-index none loan (omega arith))
