-- What a conductor does with a board, and what the two sinks get by it
use Rattle.std.specs.Prelude.{◌≡◌, ℕ, ◌+◌, List, [], ◌∷◌, length, Some}
use Rattle.speculation.specs.declared.history.Entry.{Entry}
use Rattle.speculation.specs.declared.history.Entry.TheVariants.{Release}
use Rattle.speculation.specs.Record.{Ran, alone, output_of}
use Rattle.speculation.specs.Ledger.{ledger}
use Rattle.speculation.specs.Serial.{IsSerial}
use Rattle.guest_model.specs.MachineState.{MachineState}
use Rattle.guest_model.specs.declared.end.End.{End}
use Rattle.region_ledger.specs.Ledger.{ledger_rows}
use Rattle.region_ledger.specs.declared.finished.Finished.{Finished}
use Rattle.guest_streams.specs.GuestStreams.{Sinks, GetsAll, GetsPart, StopsShort, end_of}
use Rattle.track_board.specs.declared.outcome.Outcome.{Outcome}
use Rattle.track_board.specs.Value.{Posted, machine_of, start_state}
use Rattle.track_board.specs.Settles.{verified_of, IsOutcome}
use Rattle.serial_run.specs.declared.conducted.Conducted.{Conducted}
use Rattle.serial_run.specs.declared.conducted.Conducted.TheVariants.{Done, WriteFault, NoMemory}

-- the program of a board, alone within the budget
abbrev pub alone_of : Posted → Ran MachineState End
alone_of v = alone (machine_of v) (start_state v) v.settings.budget

-- settings, image and input are as before
pub record IsSameRun (v w : Posted) : Type 0 where
  pub settings : w.settings ≡ v.settings
  pub loaded : w.loaded ≡ v.loaded
  pub input : w.input ≡ v.input

-- how many bytes these entries released
abbrev pub released_total : List Entry → ℕ
released_total [] = 0
released_total (Release bytes ∷ xs) = bytes + released_total xs
released_total (x ∷ xs) = released_total xs

-- The outcome of a board that came to its end: its end and count are those of the program alone, its rows are the ledger,
-- its entries released as many bytes as the program alone writes, and nothing verified is left to release.
pub record IsWhole (w : Posted) (o : Outcome) : Type 0 where
  pub outcome : IsOutcome w o
  pub finished : Finished
  pub finish : o.finished ≡ Some finished
  pub end : finished.end ≡ end_of (alone_of w).end
  pub count : finished.count ≡ (alone_of w).count
  pub rows : ledger_rows o.rows ≡ ledger (machine_of w) (start_state w) w.settings.budget
  pub total : released_total w.entries ≡ length (output_of (alone_of w))
  pub released : verified_of w ≡ []

-- the entries of a board are the serial history
abbrev pub HasSerialHistory : Posted → Type 0
HasSerialHistory w = IsSerial (machine_of w) w.settings (start_state w) w.entries

-- What a conductor answers and leaves: the sinks got both streams of all that the program alone writes, the outcome is
-- whole, and the board has a history of the kind that is promised; or the sinks got a part of it. Where neither count of
-- faults rose, or could not, the answer is `Done` or `NoMemory`; after `WriteFault` one of them did, at a byte of its
-- stream.
abbrev pub Conducts : (promised : Posted → Type 0) → Posted → Sinks → Sinks → Conducted → Type 0
Conducts promised w old new (Done o) = (IsWhole w o × promised w) × GetsAll old new (output_of (alone_of w))
Conducts promised w old new WriteFault = StopsShort old new (output_of (alone_of w))
Conducts promised w old new NoMemory = GetsPart old new (output_of (alone_of w))
