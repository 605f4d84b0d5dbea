-- A guest, and a run of it with tracks
use Rattle.std.specs.Prelude.{ℕ, List}
use Rattle.speculation.specs.declared.history.Entry.{Entry}
use Rattle.elf32_loader.specs.LoadedImage.{image_of_loaded}
use Rattle.elf32_loader.specs.declared.loaded.Loaded.{Loaded}
use Rattle.host_io.specs.declared.sink.Sink.{Ghosts as SinkRow}
use Rattle.guest_streams.specs.GuestStreams.{Sinks}
use Rattle.track_board.specs.Value.{Posted}
use Rattle.track_board.specs.declared.outcome.Outcome.{Outcome}
use Rattle.serial_run.specs.Conducting.{IsWhole, Conducts}
use Rattle.serial_run.specs.declared.conducted.Conducted.{Conducted}
use Rattle.worker_gate.specs.Histories.{HasRunHistory}
use Rattle.fasttrack_program.specs.Promise.{Given, settings_of}
use Rattle.fasttrack_program.specs.declared.options.Options.{Options}

-- a task on the guest of a loaded image
abbrev pub given_of : Loaded → List ℕ → Options → Given
given_of l input o = record { image = image_of_loaded l; input = input; options = o }

-- a board of this image and input with these options
abbrev pub board_for : Loaded → List ℕ → Options → List Entry → Posted
board_for l input o entries = record { settings = settings_of o; loaded = l; input = input; entries = entries }

-- such a board was brought from its first entry to its end, by as many workers as the options say
abbrev pub RunsTracks : Loaded → List ℕ → Options → Sinks → Sinks → Conducted → Type 0
RunsTracks l input o old new r = (entries : List Entry) × Conducts (HasRunHistory o.workers) (board_for l input o entries) old new r

-- some guest was run so
abbrev pub HasRun : Options → Conducted → Type 0
HasRun o r = (l : Loaded) × (input : List ℕ) × (old : Sinks) × (new : Sinks) × RunsTracks l input o old new r

-- the same of the outcome alone
abbrev pub HasOutcome : Loaded → List ℕ → Options → Outcome → Type 0
HasOutcome l input o outcome = (entries : List Entry) × (IsWhole (board_for l input o entries) outcome × HasRunHistory o.workers (board_for l input o entries))

-- the same sinks, but for what notes hold and count; in a clause `N.Sink` is the row of their bound
abbrev pub with_notes : {N : Type 0} → SinkRow N → N → Sinks → Sinks
with_notes n notes s = record s { notes = n.contents notes; notes_faults = n.faults notes }
