-- The explanation of a program: each row of its ledger with its account, then the totals and the end
use Rattle.std.specs.Prelude.{ℕ, List, [], ◌∷◌, ◌++◌}
use Rattle.speculation.specs.Run.{fresh, go}
use Rattle.guest_model.specs.Image.{Image, program_alone, start_of}
use Rattle.guest_model.specs.MachineState.{MachineState}
use Rattle.guest_model.specs.Rv32.{rv32}
use Rattle.guest_streams.specs.GuestStreams.{end_of}
use Rattle.region_ledger.specs.Ledger.{totals_of}
use Rattle.region_ledger.specs.declared.row.Row.{Row}
use Rattle.report_text.specs.Reports.{row_line, totals_line, end_line}
use Rattle.region_account.specs.Accounts.{account_lines}
use Rattle.region_account.specs.Reported.{reported_ledger}

-- The state after n instructions of the program that starts so. A region that is opened by the instruction behind them
-- opens there.
abbrev pub state_after : List ℕ → MachineState → ℕ → MachineState
state_after input first n = (go (rv32 input) (fresh first) n).state

-- a row, and what is told of its region
abbrev pub row_lines : List ℕ → MachineState → Row → List ℕ
row_lines input first r = row_line r ++ account_lines input (state_after input first r.at) r.original r.verdict

unfoldable pub rows_lines : List ℕ → MachineState → List Row → List ℕ
rows_lines input first [] = []
rows_lines input first (r ∷ rs) = row_lines input first r ++ rows_lines input first rs

-- of the program of this image with this input, within this budget
unfoldable pub explanation : Image → List ℕ → ℕ → List ℕ
explanation i input budget =
    rows_lines input (start_of i) (reported_ledger i input budget)
    ++ (totals_line (totals_of (reported_ledger i input budget) (program_alone i input budget).count) ++ end_line (end_of (program_alone i input budget).end))
