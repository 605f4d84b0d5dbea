-- Faults of an image as text
use Rattle.std.specs.Prelude.{ℕ, List, ◌++◌, codes, decimal}
use Rattle.elf32_loader.specs.declared.fault.ImageFault.{ImageFault}
use Rattle.elf32_loader.specs.declared.fault.ImageFault.TheVariants.{Short, Magic, Class, ByteOrder, Version, Kind, Machine, Headers, Dynamic, Segment, Overlap, StackOverlap, TooLarge, Entry, NoMemory}

-- the name of a fault, with the places in the program header table that it names
abbrev pub fault_text : ImageFault → List ℕ
fault_text Short = codes "short"
fault_text Magic = codes "magic"
fault_text Class = codes "class"
fault_text ByteOrder = codes "byte order"
fault_text Version = codes "version"
fault_text Kind = codes "kind"
fault_text Machine = codes "machine"
fault_text Headers = codes "headers"
fault_text (Dynamic i) = codes "dynamic " ++ decimal i
fault_text (Segment i) = codes "segment " ++ decimal i
fault_text (Overlap i j) = codes "overlap " ++ (decimal i ++ (codes " " ++ decimal j))
fault_text (StackOverlap i) = codes "stack overlap " ++ decimal i
fault_text TooLarge = codes "too large"
fault_text Entry = codes "entry"
fault_text NoMemory = codes "no memory"
