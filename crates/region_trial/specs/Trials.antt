-- The trial of a program: its end and count, and the rows of its ledger
use Rattle.std.specs.Prelude.{◌≡◌, ℕ, ◌≤◌, List, All}
use Rattle.speculation.specs.Ledger.{ledger, originals}
use Rattle.guest_model.specs.Image.{program_alone, start_of}
use Rattle.guest_model.specs.Rv32.{rv32}
use Rattle.elf32_loader.specs.LoadedImage.{image_of_loaded}
use Rattle.elf32_loader.specs.declared.loaded.Loaded.{Loaded}
use Rattle.region_ledger.specs.Ledger.{core_finished, ledger_rows, SavesAtMostAll}
use Rattle.region_trial.specs.declared.trial.Trial.{Trial}

-- The program ended as the program alone does within the budget, the rows are its ledger, and their totals add up.
pub record IsTrialOf (l : Loaded) (input : List ℕ) (budget : ℕ) (t : Trial) : Type 0 where
  pub finished : core_finished t.finished ≡ record { end = (program_alone (image_of_loaded l) input budget).end; count = (program_alone (image_of_loaded l) input budget).count }
  pub rows : ledger_rows t.rows ≡ ledger (rv32 input) (start_of (image_of_loaded l)) budget
  pub inside : originals (ledger_rows t.rows) ≤ t.finished.count
  pub saves : All SavesAtMostAll t.rows
