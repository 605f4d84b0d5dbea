-- What contracts see of a board: its settings, its image, its input and its entries; and the core that these lead to
use Rattle.std.specs.Prelude.{◌≡◌, ℕ, ◌≤◌, ◌^◌, List, [], ◌∷◌, ◌++◌, Option, Some, unwrap_or}
use Rattle.speculation.specs.declared.history.Settings.{Settings}
use Rattle.speculation.specs.declared.history.Entry.{Entry}
use Rattle.speculation.specs.Machine.{Machine}
use Rattle.speculation.specs.Core.{Core, opening}
use Rattle.speculation.specs.Events.{core_run}
use Rattle.guest_model.specs.Image.{start_of}
use Rattle.guest_model.specs.MachineState.{MachineState}
use Rattle.guest_model.specs.Rv32.{rv32}
use Rattle.guest_model.specs.declared.end.End.{End}
use Rattle.guest_model.specs.declared.difference.Difference.{Difference}
use Rattle.elf32_loader.specs.LoadedImage.{image_of_loaded}
use Rattle.elf32_loader.specs.declared.loaded.Loaded.{Loaded}

-- the core of a board of guest tracks
abbrev pub GuestCore : Type 0
GuestCore = Core MachineState End Difference

-- a board with its journal
pub record Posted : Type 0 where
  pub settings : Settings
  pub loaded : Loaded
  pub input : List ℕ
  pub entries : List Entry

-- the guest machine that reads this board's input
abbrev pub machine_of : Posted → Machine MachineState End Difference
machine_of v = rv32 v.input

-- where its program starts
abbrev pub start_state : Posted → MachineState
start_state v = start_of (image_of_loaded v.loaded)

-- the core after its entries, if each is allowed in its turn
abbrev pub run_of : Posted → Option GuestCore
run_of v = core_run (machine_of v) v.settings (Some (opening (start_state v))) v.entries

-- the same as a core, which is meant only where the entries are allowed
unfoldable pub core_of : Posted → GuestCore
core_of v = unwrap_or (run_of v) (opening (start_state v))

-- one entry more
abbrev pub posted : Posted → Entry → Posted
posted v e = record v { entries = v.entries ++ (e ∷ []) }

-- at least one and at most 32 regions may be open, and the budget is at most 2 ^ 40
pub record IsSettings (b : Settings) : Type 0 where
  pub some : 1 ≤ b.tracks
  pub tracks : b.tracks ≤ 32
  pub budget : b.budget ≤ 2 ^ 40

-- what is known of every board: its limits, and that its entries are a legal history
pub record IsKnown (v : Posted) : Type 0 where
  pub limits : IsSettings v.settings
  pub legal : run_of v ≡ Some (core_of v)
