-- What is printed of a journal that is refused
use Rattle.std.specs.Prelude.{ℕ, List, ◌∷◌, ◌++◌, codes, decimal}
use Rattle.journal_check.specs.declared.fault.Cause.{Cause}
use Rattle.journal_check.specs.declared.fault.Cause.TheVariants.{Text, NotAllowed, Unfinished}
use Rattle.journal_check.specs.declared.fault.CheckFault.{CheckFault}
use Rattle.journal_check.specs.declared.fault.CheckFault.TheVariants.{Journal, NoMemory}
use Rattle.journal_check.specs.declared.fault.JournalFault.{JournalFault}

abbrev pub cause_text : Cause → List ℕ
cause_text Text = codes "text"
cause_text NotAllowed = codes "not allowed"
cause_text Unfinished = codes "unfinished"

abbrev pub fault_text : JournalFault → List ℕ
fault_text f = codes "line " ++ (decimal f.line ++ (32 ∷ cause_text f.cause))

abbrev pub check_fault_text : CheckFault → List ℕ
check_fault_text (Journal f) = codes "bad journal: " ++ fault_text f
check_fault_text NoMemory = codes "out of memory"
