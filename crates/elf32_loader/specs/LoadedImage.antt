-- What `load` answers
use Rattle.std.specs.Prelude.{◌≡◌, ℕ, List, Option, Some, None, Result, Ok, Err}
use Rattle.guest_model.specs.AreaMap.{areas_bytes}
use Rattle.guest_model.specs.Image.{Image, image}
use Rattle.guest_model.specs.ImageFault.{Fault, first_fault}
use Rattle.elf32_loader.specs.FaultOf.{fault_of}
use Rattle.elf32_loader.specs.declared.fault.ImageFault.{ImageFault}
use Rattle.elf32_loader.specs.declared.loaded.Loaded.{Loaded}

-- the image that a loaded value stands for: its entry, the bytes of its areas and its heap
abbrev pub image_of_loaded : Loaded → Image
image_of_loaded l = record { entry = l.entry; memory = areas_bytes l.areas; heap = l.heap }

-- the file is refused for this fault; for want of memory only where it has no fault
abbrev pub IsRefused : List ℕ → Option Fault → Type 0
IsRefused bs (Some f) = image bs ≡ Err f
IsRefused bs None = first_fault bs ≡ None

-- the answer is the image that the file holds, or its first fault
abbrev pub Loads : List ℕ → Result Loaded ImageFault → Type 0
Loads bs (Ok l) = image bs ≡ Ok (image_of_loaded l)
Loads bs (Err e) = IsRefused bs (fault_of e)
