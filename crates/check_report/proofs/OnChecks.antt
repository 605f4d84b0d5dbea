-- What a check answers can be written.
use Rattle.std.proofs.Common.{ℕ, ◌≤◌, List, [], arith, ap, ◌∙◌, append-nil}
use Rattle.std.specs.Prelude.{All}
use Rattle.speculation.specs.Ledger.{originals}
use Rattle.speculation_law.specs.Totals.{Totalled}
use Rattle.speculation_law.proofs.Totals.{totalled}
use Rattle.guest_model.specs.Image.{start_of}
use Rattle.guest_model.specs.Rv32.{rv32}
use Rattle.elf32_loader.specs.LoadedImage.{image_of_loaded}
use Rattle.region_ledger.specs.Ledger.{ledger_rows, SavesAtMostAll}
use Rattle.region_trial.proofs.OnTrials.{saves-rows}
use Rattle.track_board.specs.declared.kept.Program.{Program}
use Rattle.journal_check.specs.declared.checking.Checked.{Checked}
use Rattle.journal_check.specs.Checks.{IsChecked, alone_of}

module _ (p : Program) (journal : List ℕ) (c : Checked) (is : IsChecked p journal c) where
  checked-totals : Totalled (alone_of p).count (ledger_rows c.rows)
  checked-totals =
      totalled (rv32 p.input) (start_of (image_of_loaded p.loaded)) p.settings.budget (ledger_rows c.rows)
      ([], append-nil (ledger_rows c.rows) ∙ is.rows)

  -- the originals of the rows are part of what the program takes alone
  pub checked-inside : originals (ledger_rows c.rows) ≤ c.finished.count
  checked-inside =
      let total = checked-totals in
      omega (arith, total.regions, ap (λ f. f.count) is.finished)

  -- no kept fast version takes more instructions than its original
  pub checked-saves : All SavesAtMostAll c.rows
  checked-saves = saves-rows c.rows checked-totals.within
