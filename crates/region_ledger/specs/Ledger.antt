-- What the types of this crate stand for in the theory of speculative runs, at the differences of RV32 states
use Rattle.std.specs.Prelude.{◌≡◌, ℕ, ◌≤◌, Bool, true, false, Option, Some, None, List, length, map, count_by}
use Rattle.guest_model.specs.declared.difference.Difference.{Difference}
use Rattle.guest_model.specs.declared.end.End.{End}
use Rattle.guest_model.specs.declared.end.End.TheVariants.{Exit, Trap, Spent}
use Rattle.speculation.specs.Core.{Finished as CoreFinished}
use Rattle.speculation.specs.Ledger.{Row as LedgerRow, path_count}
use Rattle.speculation.specs.Verdicts.{Verdict as CoreVerdict, Kept as CoreKept, Differs as CoreDiffers, Stopped as CoreStopped, Late as CoreLate, Judged, Seen, Running as SeenRunning, Ended as SeenEnded, Met}
use Rattle.region_ledger.specs.declared.verdict.Verdict.{Verdict}
use Rattle.region_ledger.specs.declared.verdict.Verdict.TheVariants.{Kept, Differs, Stopped, Late}
use Rattle.region_ledger.specs.declared.judgement.FastPart.{FastPart}
use Rattle.region_ledger.specs.declared.judgement.FastPart.TheVariants.{Running, Ended, Closed}
use Rattle.region_ledger.specs.declared.row.Row.{Row}
use Rattle.region_ledger.specs.declared.finished.Finished.{Finished}
use Rattle.region_ledger.specs.declared.summary.Totals.{Totals}

abbrev pub core_verdict : Verdict → CoreVerdict Difference
core_verdict Kept = CoreKept
core_verdict (Differs d) = CoreDiffers d
core_verdict Stopped = CoreStopped
core_verdict Late = CoreLate

-- a verdict with the number of fast instructions
abbrev pub judged : Verdict × ℕ → Judged Difference
judged v = record { verdict = core_verdict v.0; fast = v.1 }

abbrev pub seen : FastPart → Seen Difference
seen (Running k) = SeenRunning k
seen (Ended k) = SeenEnded k
seen (Closed k d) = Met k d

abbrev pub ledger_row : Row → LedgerRow Difference
ledger_row r = record { number = r.number; at = r.at; pc = r.pc; original = r.original; judged = judged (r.verdict, r.fast) }

abbrev pub ledger_rows : List Row → List (LedgerRow Difference)
ledger_rows rows = map ledger_row rows

-- the theory's end of a run has none where the budget was spent
abbrev pub core_end : End → Option End
core_end (Exit code) = Some (Exit code)
core_end (Trap trap pc) = Some (Trap trap pc)
core_end Spent = None

abbrev pub core_finished : Finished → CoreFinished End
core_finished f = record { end = core_end f.end; count = f.count }

-- Totals

abbrev pub is_kept : Verdict → Bool
is_kept Kept = true
is_kept (Differs d) = false
is_kept Stopped = false
is_kept Late = false

abbrev pub is_differing : Verdict → Bool
is_differing Kept = false
is_differing (Differs d) = true
is_differing Stopped = false
is_differing Late = false

abbrev pub is_stopped : Verdict → Bool
is_stopped Kept = false
is_stopped (Differs d) = false
is_stopped Stopped = true
is_stopped Late = false

abbrev pub is_late : Verdict → Bool
is_late Kept = false
is_late (Differs d) = false
is_late Stopped = false
is_late Late = true

-- a kept fast version takes at most as many instructions as its original
abbrev pub SavesAtMostAll : Row → Type 0
SavesAtMostAll r = r.verdict ≡ Kept → r.fast ≤ r.original

-- the rows by verdict, and the path count of the ledger
abbrev pub totals_of : List Row → ℕ → Totals
totals_of rows alone = record {
  regions = length rows;
  kept = count_by (λ r. is_kept r.verdict) rows;
  differs = count_by (λ r. is_differing r.verdict) rows;
  stopped = count_by (λ r. is_stopped r.verdict) rows;
  late = count_by (λ r. is_late r.verdict) rows;
  alone_count = alone;
  path_count = path_count alone (ledger_rows rows);
}
