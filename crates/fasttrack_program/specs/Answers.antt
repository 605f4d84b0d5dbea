-- The answer of an end, of an output that could not be written and of a journal that is refused, and the exit status of each
-- answer
use Rattle.std.specs.Prelude.{ℕ, ◌%◌}
use Rattle.guest_model.specs.declared.end.End.{End}
use Rattle.guest_model.specs.declared.end.End.TheVariants as E
use Rattle.guest_streams.specs.declared.fault.OutputFault.{OutputFault}
use Rattle.guest_streams.specs.declared.fault.OutputFault.TheVariants as F
use Rattle.journal_check.specs.declared.fault.CheckFault.{CheckFault}
use Rattle.journal_check.specs.declared.fault.CheckFault.TheVariants as C
use Rattle.fasttrack_program.specs.declared.answer.Answer.{Answer}
use Rattle.fasttrack_program.specs.declared.answer.Answer.TheVariants.{Exited, Trapped, Spent, Shown, Usage, ReadFault, ImageTooLong, BadImage, InputTooLong, JournalTooLong, BadJournal, BadList, BadCounts, BadText, WriteFault, NoMemory}

-- the end of a guest
abbrev pub answer_of : End → Answer
answer_of (E.Exit code) = Exited code
answer_of (E.Trap trap pc) = Trapped trap pc
answer_of E.Spent = Spent

-- why an output could not be written
abbrev pub answer_of_fault : OutputFault → Answer
answer_of_fault F.Write = WriteFault
answer_of_fault F.NoMemory = NoMemory

-- why a journal was not checked to its end
abbrev pub answer_of_check : CheckFault → Answer
answer_of_check (C.Journal fault) = BadJournal fault
answer_of_check C.NoMemory = NoMemory

-- a guest's code modulo 256, 0 for what is shown, and one number for each other answer
abbrev pub status_of : Answer → ℕ
status_of (Exited code) = code % 256
status_of (Trapped trap pc) = 240
status_of Spent = 241
status_of Shown = 0
status_of Usage = 242
status_of ReadFault = 243
status_of ImageTooLong = 244
status_of (BadImage fault) = 245
status_of InputTooLong = 246
status_of WriteFault = 247
status_of NoMemory = 248
status_of JournalTooLong = 249
status_of (BadJournal fault) = 250
status_of BadList = 251
status_of (BadCounts line) = 252
status_of (BadText at) = 253
