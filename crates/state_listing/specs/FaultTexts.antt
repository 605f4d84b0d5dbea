-- How a refusal of a file of counts is printed
use Rattle.std.specs.Prelude.{ℕ, List, ◌++◌, codes, decimal}
use Rattle.state_listing.specs.declared.fault.CountsFault.{CountsFault}
use Rattle.state_listing.specs.declared.fault.CountsFault.TheVariants.{Line, NoMemory}

abbrev pub fault_text : CountsFault → List ℕ
fault_text (Line line) = codes "bad counts: line " ++ decimal line
fault_text NoMemory = codes "out of memory"
