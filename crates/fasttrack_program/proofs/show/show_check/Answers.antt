use Rattle.std.proofs.Common.{refl, sym}
use Rattle.elf32_loader.specs.LoadedImage.{image_of_loaded}
use Rattle.guest_streams.specs.GuestStreams.{Sinks, with_out}
use Rattle.journal_check.specs.Checks.{program_by, HasFault, IsChecked}
use Rattle.check_report.specs.CheckedTexts.{checked_text}
use Rattle.check_report.proofs.OnChecks.{checked-inside, checked-saves}
use Rattle.fasttrack_program.specs.Promise.{settings_of}
use Rattle.fasttrack_program.specs.Showing.{OfJournal}
use Rattle.fasttrack_program.proofs.OnShowing.{shows-text, shows-fault}
use Rattle.fasttrack_program.proofs.show.show_check.Goals as goal

pub write_checked-requires-clause-inside : goal.write_checked-requires-clause-inside
write_checked-requires-clause-inside g c = checked-inside (program_by c.settings_in.result c.args.guest.loaded c.in-Ok.input.value) c.args.journal.now c.in-Ok-check.checked c.in-Ok-check.ensures.checked

pub write_checked-requires-clause-saves : goal.write_checked-requires-clause-saves
write_checked-requires-clause-saves g c = checked-saves (program_by c.settings_in.result c.args.guest.loaded c.in-Ok.input.value) c.args.journal.now c.in-Ok-check.checked c.in-Ok-check.ensures.checked

pub returns-in-Ok-check : goal.returns-in-Ok-check
returns-in-Ok-check g c = λ (s : Sinks).
    let x = OfJournal (image_of_loaded c.args.guest.loaded) c.args.guest.input (settings_of c.args.options.now) c.args.journal.now in
    let checked = c.in-Ok-check.checked in
    let is : IsChecked (program_by (settings_of c.args.options.now) c.args.guest.loaded c.args.guest.input) c.args.journal.now checked =
    rw (sym c.settings_in.ensures, sym c.in-Ok.ensures.ok) c.in-Ok-check.ensures.checked in
    let text = checked_text checked.entries checked.released checked.left checked.rows checked.finished in
    rw c.shown.ensures
    (shows-text x (with_out g.O.Sink c.args.out.now s) (g.O.Sink.contents c.write_checked.new.out) (g.O.Sink.faults c.write_checked.new.out) text c.write_checked.result
    (record { loaded = c.args.guest.loaded; image = refl; checked = checked; is = is; text_is = refl }) c.write_checked.ensures)

pub returns : goal.returns
returns g c = λ (s : Sinks).
    let fault : HasFault (program_by (settings_of c.args.options.now) c.args.guest.loaded c.args.guest.input) c.args.journal.now c.in-Err.fault =
    rw (sym c.settings_in.ensures, sym c.in-Ok.ensures.ok) c.in-Err.ensures.fault in
    rw (c.plain-in-Err.ensures, c.answer_of_check.ensures)
    (shows-fault c.args.guest.loaded c.args.guest.input (settings_of c.args.options.now) c.args.journal.now (with_out g.O.Sink c.args.out.now s) c.in-Err.fault fault)
