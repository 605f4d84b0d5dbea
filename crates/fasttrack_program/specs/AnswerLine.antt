-- The line on notes for an answer
use Rattle.std.specs.Prelude.{◌≡◌, ℕ, ◌<◌, List, [], ◌∷◌, ◌++◌, length, take, Option, Some, None, codes, decimal, ◌⊎◌}
use Rattle.std.specs.Io.KnownBytes.{Appends}
use Rattle.host_io.specs.Faults.{Rose}
use Rattle.report_text.specs.Texts.{address_text, trap_text}
use Rattle.fault_text.specs.FaultTexts.{fault_text}
use Rattle.journal_check.specs.FaultTexts.{fault_text as journal_fault_text}
use Rattle.fasttrack_program.specs.declared.answer.Answer.{Answer}
use Rattle.fasttrack_program.specs.declared.answer.Answer.TheVariants.{Exited, Trapped, Spent, Shown, Usage, ReadFault, ImageTooLong, BadImage, InputTooLong, JournalTooLong, BadJournal, BadList, BadCounts, BadText, WriteFault, NoMemory}

-- a line ends with a line feed
abbrev pub as_line : List ℕ → List ℕ
as_line text = codes "fasttrack: " ++ (text ++ 10 ∷ [])

-- an exit, and what is shown, have no line
abbrev pub line_of : Answer → Option (List ℕ)
line_of (Exited code) = None
line_of (Trapped trap pc) = Some (as_line (codes "trap " ++ (trap_text trap ++ (codes " at " ++ address_text pc))))
line_of Spent = Some (as_line (codes "budget spent"))
line_of Shown = None
line_of Usage = Some (as_line (codes "bad words"))
line_of ReadFault = Some (as_line (codes "read failed"))
line_of ImageTooLong = Some (as_line (codes "image too long"))
line_of (BadImage fault) = Some (as_line (codes "bad image: " ++ fault_text fault))
line_of InputTooLong = Some (as_line (codes "input too long"))
line_of JournalTooLong = Some (as_line (codes "journal too long"))
line_of (BadJournal fault) = Some (as_line (codes "bad journal: " ++ journal_fault_text fault))
line_of BadList = Some (as_line (codes "bad list"))
line_of (BadCounts line) = Some (as_line (codes "bad counts: line " ++ decimal line))
line_of (BadText at) = Some (as_line (codes "bad text: line " ++ (decimal at.line ++ (codes " place " ++ decimal at.place))))
line_of WriteFault = Some (as_line (codes "write failed"))
line_of NoMemory = Some (as_line (codes "no memory"))

-- the answers whose line has numbers
abbrev pub HasNumbers : Answer → Type 0
HasNumbers (Trapped trap pc) = Unit {0}
HasNumbers (BadImage fault) = Unit {0}
HasNumbers (BadJournal fault) = Unit {0}
HasNumbers (BadCounts line) = Unit {0}
HasNumbers (BadText at) = Unit {0}
HasNumbers _ = ⊥

-- the answer of a call whose line could not be written: a guest's end is lost then, any other answer stays
abbrev pub without_line : Answer → Answer
without_line (Trapped trap pc) = WriteFault
without_line Spent = WriteFault
without_line answer = answer

-- The line was written whole, or in part and a fault was counted; `said` is the answer whose line it is.
abbrev pub WritesLine : Option (List ℕ) → Option (List ℕ) → ℕ → ℕ → Answer → Answer → List ℕ → Type 0
WritesLine old new faults faults' said result line =
    (Appends old new line × (faults' ≡ faults) × (result ≡ said))
    ⊎ ((n : ℕ) × (n < length line) × Appends old new (take n line) × Rose faults faults' × (result ≡ without_line said))

-- an answer without a line leaves notes as they were
abbrev pub WritesLineOf : Option (List ℕ) → Option (List ℕ) → ℕ → ℕ → Answer → Answer → Option (List ℕ) → Type 0
WritesLineOf old new faults faults' said result None = (new ≡ old) × (faults' ≡ faults) × (result ≡ said)
WritesLineOf old new faults faults' said result (Some line) = WritesLine old new faults faults' said result line

-- the line is that of the answer, or that of want of memory where there was none for a line with numbers
abbrev pub IsSaidFor : Answer → Answer → Type 0
IsSaidFor answer said = (said ≡ answer) ⊎ ((said ≡ NoMemory) × HasNumbers answer)

-- what the line of an answer leaves on notes, and what the call then answers
pub record Concludes (old new : Option (List ℕ)) (faults faults' : ℕ) (answer result : Answer) : Type 0 where
  pub said : Answer
  pub for_answer : IsSaidFor answer said
  pub writes : WritesLineOf old new faults faults' said result (line_of said)
