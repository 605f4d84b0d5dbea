-- What a check answers
use Rattle.std.specs.Prelude.{◌≡◌, ℕ, ◌+◌, List, length, Some, Result, Ok, Err}
use Rattle.speculation.specs.declared.history.Entry.{Entry}
use Rattle.speculation.specs.declared.history.Settings.{Settings}
use Rattle.speculation.specs.Record.{Ran, alone, output_of}
use Rattle.speculation.specs.Ledger.{Row, ledger}
use Rattle.speculation.specs.Core.{Finished, verified}
use Rattle.guest_model.specs.Image.{start_of}
use Rattle.guest_model.specs.MachineState.{MachineState}
use Rattle.guest_model.specs.Rv32.{rv32}
use Rattle.guest_model.specs.declared.difference.Difference.{Difference}
use Rattle.guest_model.specs.declared.end.End.{End}
use Rattle.elf32_loader.specs.LoadedImage.{image_of_loaded}
use Rattle.elf32_loader.specs.declared.loaded.Loaded.{Loaded}
use Rattle.region_ledger.specs.Ledger.{core_finished, ledger_rows}
use Rattle.track_board.specs.declared.kept.Program.{Program}
use Rattle.track_board.specs.Value.{GuestCore}
use Rattle.journal_check.specs.declared.checking.Checked.{Checked}
use Rattle.journal_check.specs.declared.fault.CheckFault.{CheckFault}
use Rattle.journal_check.specs.declared.fault.CheckFault.TheVariants.{Journal, NoMemory}
use Rattle.journal_check.specs.declared.fault.JournalFault.{JournalFault}
use Rattle.journal_check.specs.Journals.{IsJournal, IsFault}

abbrev pub program_by : Settings → Loaded → List ℕ → Program
program_by settings loaded input = record { settings = settings; loaded = loaded; input = input }

-- the program alone within the budget, and its ledger

abbrev pub alone_of : Program → Ran MachineState End
alone_of p = alone (rv32 p.input) (start_of (image_of_loaded p.loaded)) p.settings.budget

abbrev pub ledger_of : Program → List (Row Difference)
ledger_of p = ledger (rv32 p.input) (start_of (image_of_loaded p.loaded)) p.settings.budget

-- the journal is that of a legal history that has a finish
pub record IsLegal (p : Program) (journal : List ℕ) : Type 0 where
  pub entries : List Entry
  pub core : GuestCore
  pub is : IsJournal p journal entries core
  pub finish : Finished End
  pub finished : core.finish ≡ Some finish

-- The journal is that of a legal history that has a finish. End, count and rows are those of the program alone, and what the
-- journal releases and what it leaves are together the length of its output.
pub record IsChecked (p : Program) (journal : List ℕ) (r : Checked) : Type 0 where
  pub legal : IsLegal p journal
  pub finished : core_finished r.finished ≡ record { end = (alone_of p).end; count = (alone_of p).count }
  pub rows : ledger_rows r.rows ≡ ledger_of p
  pub entries : r.entries ≡ length legal.entries
  pub released : r.released ≡ length legal.core.released
  pub left : r.left ≡ length (verified p.settings legal.core)
  pub total : r.released + r.left ≡ length (output_of (alone_of p))

-- the journal has the fault that is told
abbrev pub HasFault : Program → List ℕ → CheckFault → Type 0
HasFault p journal (Journal f) = IsFault p journal f
HasFault p journal NoMemory = Unit {0}

-- this fault is told, want of memory aside
abbrev pub Tells : JournalFault → Result Checked CheckFault → Type 0
Tells f (Ok r) = ⊥
Tells f (Err (Journal g)) = g ≡ f
Tells f (Err NoMemory) = Unit {0}
