-- The fault of the image that an answer names
use Rattle.std.specs.Prelude.{◌≡◌, Option, Some, None, Result, Ok, Err, IsSome}
use Rattle.guest_model.specs.ImageFault as image
use Rattle.guest_model.specs.ImageFault.{Fault}
use Rattle.elf32_loader.specs.declared.fault.ImageFault.{ImageFault}
use Rattle.elf32_loader.specs.declared.fault.ImageFault.TheVariants.{Short, Magic, Class, ByteOrder, Version, Kind, Machine, Headers, Dynamic, Segment, Overlap, StackOverlap, TooLarge, Entry, NoMemory}

-- none for want of memory, which is no fault of the image
abbrev pub fault_of : ImageFault → Option Fault
fault_of Short = Some image.Short
fault_of Magic = Some image.Magic
fault_of Class = Some image.Class
fault_of ByteOrder = Some image.ByteOrder
fault_of Version = Some image.Version
fault_of Kind = Some image.Kind
fault_of Machine = Some image.Machine
fault_of Headers = Some image.Headers
fault_of (Dynamic i) = Some (image.Dynamic i)
fault_of (Segment i) = Some (image.BadSegment i)
fault_of (Overlap i j) = Some (image.Overlap i j)
fault_of (StackOverlap i) = Some (image.StackOverlap i)
fault_of TooLarge = Some image.TooLarge
fault_of Entry = Some image.Entry
fault_of NoMemory = None

-- a check fails exactly where there is this fault, and names it
abbrev pub Checks : {A : Type 0} → Option Fault → Result A ImageFault → Type 0
Checks want (Ok _) = want ≡ None
Checks want (Err e) = IsSome (fault_of e) × (want ≡ fault_of e)
