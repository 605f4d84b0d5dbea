-- Rows and ends as they are reported, and back
use Rattle.std.proofs.Common.{◌≡◌, List, [], ◌∷◌, map, refl, ap, ◌∙◌}
use Rattle.speculation.specs.Ledger.{Row as LedgerRow}
use Rattle.speculation.specs.Verdicts.{Verdict as CoreVerdict, Kept as CoreKept, Differs as CoreDiffers, Stopped as CoreStopped, Late as CoreLate}
use Rattle.guest_model.specs.declared.difference.Difference.{Difference}
use Rattle.guest_model.specs.declared.end.End.{End}
use Rattle.guest_model.specs.declared.end.End.TheVariants.{Exit, Trap, Spent}
use Rattle.guest_streams.specs.GuestStreams.{end_of}
use Rattle.region_ledger.specs.Ledger.{core_verdict, core_end, ledger_row, ledger_rows}
use Rattle.region_ledger.specs.declared.row.Row.{Row}
use Rattle.region_ledger.specs.declared.verdict.Verdict.{Verdict}
use Rattle.region_ledger.specs.declared.verdict.Verdict.TheVariants.{Kept, Differs, Stopped, Late}
use Rattle.region_account.specs.Reported.{reported_verdict, reported_row}

reported_verdict-back : (v : Verdict) → reported_verdict (core_verdict v) ≡ v
reported_verdict-back Kept = refl
reported_verdict-back (Differs d) = refl
reported_verdict-back Stopped = refl
reported_verdict-back Late = refl

pub reported_row-back : (r : Row) → reported_row (ledger_row r) ≡ r
reported_row-back r = ap (λ v. record r { verdict = v }) (reported_verdict-back r.verdict)

pub reported_rows-back : (rows : List Row) → map reported_row (ledger_rows rows) ≡ rows
reported_rows-back [] = refl
reported_rows-back (r ∷ rs) = ap (λ x. x ∷ map reported_row (ledger_rows rs)) (reported_row-back r) ∙ ap (λ xs. r ∷ xs) (reported_rows-back rs)

core_verdict-back : (v : CoreVerdict Difference) → core_verdict (reported_verdict v) ≡ v
core_verdict-back CoreKept = refl
core_verdict-back (CoreDiffers d) = refl
core_verdict-back CoreStopped = refl
core_verdict-back CoreLate = refl

ledger_row-back : (r : LedgerRow Difference) → ledger_row (reported_row r) ≡ r
ledger_row-back r = ap (λ v. record r { judged = record r.judged { verdict = v } }) (core_verdict-back r.judged.verdict)

pub ledger_rows-back : (rows : List (LedgerRow Difference)) → ledger_rows (map reported_row rows) ≡ rows
ledger_rows-back [] = refl
ledger_rows-back (r ∷ rs) = ap (λ x. x ∷ ledger_rows (map reported_row rs)) (ledger_row-back r) ∙ ap (λ xs. r ∷ xs) (ledger_rows-back rs)

pub end_of-back : (e : End) → end_of (core_end e) ≡ e
end_of-back (Exit code) = refl
end_of-back (Trap trap pc) = refl
end_of-back Spent = refl
