use Rattle.std.proofs.Common.{Some, sym, ap, ◌∙◌}
use Rattle.fasttrack_program.specs.AnswerLine.{line_of}
use Rattle.fasttrack_program.proofs.OnLines.{Concludes-own, Concludes-same, Concludes-silent}
use Rattle.fasttrack_program.specs.declared.answer.Answer.TheVariants.{Trapped, BadImage, BadJournal, BadCounts, BadText}
use Rattle.fasttrack_program.proofs.answer_line.conclude.Goals as goal

pub returns-in-Exited : goal.returns-in-Exited
returns-in-Exited g c = Concludes-silent _ _ c.args.answer (ap line_of c.in-Exited.is)

pub returns-in-Shown : goal.returns-in-Shown
returns-in-Shown g c = Concludes-silent _ _ c.args.answer (ap line_of c.in-Shown.is)

pub returns-in-Ok : goal.returns-in-Ok
returns-in-Ok g c = Concludes-same _ _ _ _ c.args.answer (Trapped c.in-Trapped.trap c.in-Trapped.pc) c.write_line.result _ c.in-Trapped.is (c.in-Ok.ensures ∙ ap Some (sym c.as_str.ensures.value)) c.write_line.ensures

pub returns-in-Ok-fault_line : goal.returns-in-Ok-fault_line
returns-in-Ok-fault_line g c = Concludes-same _ _ _ _ c.args.answer (BadImage c.in-BadImage.fault) c.write_line-in-Ok-fault_line.result _ c.in-BadImage.is (c.in-Ok-fault_line.ensures ∙ ap Some (sym c.as_str-in-Ok-fault_line.ensures.value)) c.write_line-in-Ok-fault_line.ensures

pub returns-in-Ok-journal_line : goal.returns-in-Ok-journal_line
returns-in-Ok-journal_line g c = Concludes-same _ _ _ _ c.args.answer (BadJournal c.in-BadJournal.fault) c.write_line-in-Ok-journal_line.result _ c.in-BadJournal.is (c.in-Ok-journal_line.ensures ∙ ap Some (sym c.as_str-in-Ok-journal_line.ensures.value)) c.write_line-in-Ok-journal_line.ensures

pub returns-in-Ok-counts_line : goal.returns-in-Ok-counts_line
returns-in-Ok-counts_line g c = Concludes-same _ _ _ _ c.args.answer (BadCounts c.in-BadCounts.line) c.write_line-in-Ok-counts_line.result _ c.in-BadCounts.is (c.in-Ok-counts_line.ensures ∙ ap Some (sym c.as_str-in-Ok-counts_line.ensures.value)) c.write_line-in-Ok-counts_line.ensures

pub returns-in-Ok-place_line : goal.returns-in-Ok-place_line
returns-in-Ok-place_line g c = Concludes-same _ _ _ _ c.args.answer (BadText c.in-BadText.place) c.write_line-in-Ok-place_line.result _ c.in-BadText.is (c.in-Ok-place_line.ensures ∙ ap Some (sym c.as_str-in-Ok-place_line.ensures.value)) c.write_line-in-Ok-place_line.ensures

pub returns-in-JournalTooLong : goal.returns-in-JournalTooLong
returns-in-JournalTooLong g c = Concludes-own _ _ _ _ c.args.answer c.write_line-in-JournalTooLong.result _ (ap line_of c.in-JournalTooLong.is) c.write_line-in-JournalTooLong.ensures

pub returns-in-Spent : goal.returns-in-Spent
returns-in-Spent g c = Concludes-own _ _ _ _ c.args.answer c.write_line-in-Spent.result _ (ap line_of c.in-Spent.is) c.write_line-in-Spent.ensures

pub returns-in-Usage : goal.returns-in-Usage
returns-in-Usage g c = Concludes-own _ _ _ _ c.args.answer c.write_line-in-Usage.result _ (ap line_of c.in-Usage.is) c.write_line-in-Usage.ensures

pub returns-in-ReadFault : goal.returns-in-ReadFault
returns-in-ReadFault g c = Concludes-own _ _ _ _ c.args.answer c.write_line-in-ReadFault.result _ (ap line_of c.in-ReadFault.is) c.write_line-in-ReadFault.ensures

pub returns-in-ImageTooLong : goal.returns-in-ImageTooLong
returns-in-ImageTooLong g c = Concludes-own _ _ _ _ c.args.answer c.write_line-in-ImageTooLong.result _ (ap line_of c.in-ImageTooLong.is) c.write_line-in-ImageTooLong.ensures

pub returns-in-InputTooLong : goal.returns-in-InputTooLong
returns-in-InputTooLong g c = Concludes-own _ _ _ _ c.args.answer c.write_line-in-InputTooLong.result _ (ap line_of c.in-InputTooLong.is) c.write_line-in-InputTooLong.ensures

pub returns-in-WriteFault : goal.returns-in-WriteFault
returns-in-WriteFault g c = Concludes-own _ _ _ _ c.args.answer c.write_line-in-WriteFault.result _ (ap line_of c.in-WriteFault.is) c.write_line-in-WriteFault.ensures
