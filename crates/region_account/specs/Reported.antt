-- The ledger of a program as it is reported
use Rattle.std.specs.Prelude.{ℕ, List, map}
use Rattle.speculation.specs.Ledger.{Row as LedgerRow, ledger}
use Rattle.speculation.specs.Verdicts.{Verdict as CoreVerdict, Kept as CoreKept, Differs as CoreDiffers, Stopped as CoreStopped, Late as CoreLate}
use Rattle.guest_model.specs.Image.{Image, start_of}
use Rattle.guest_model.specs.Rv32.{rv32}
use Rattle.guest_model.specs.declared.difference.Difference.{Difference}
use Rattle.region_ledger.specs.declared.row.Row.{Row}
use Rattle.region_ledger.specs.declared.verdict.Verdict.{Verdict}
use Rattle.region_ledger.specs.declared.verdict.Verdict.TheVariants.{Kept, Differs, Stopped, Late}

-- a verdict and a row of the theory, as they are reported
abbrev pub reported_verdict : CoreVerdict Difference → Verdict
reported_verdict CoreKept = Kept
reported_verdict (CoreDiffers d) = Differs d
reported_verdict CoreStopped = Stopped
reported_verdict CoreLate = Late

abbrev pub reported_row : LedgerRow Difference → Row
reported_row r = record { number = r.number; at = r.at; pc = r.pc; original = r.original; fast = r.judged.fast; verdict = reported_verdict r.judged.verdict }

-- the ledger of the program with this input, within this budget, as it is reported
abbrev pub reported_ledger : Image → List ℕ → ℕ → List Row
reported_ledger i input budget = map reported_row (ledger (rv32 input) (start_of i) budget)
