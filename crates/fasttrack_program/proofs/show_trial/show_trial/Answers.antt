use Rattle.std.proofs.Common.{Ok, Err, [], refl, ap, ◌∙◌}
use Rattle.guest_streams.specs.GuestStreams.{Sinks, with_out}
use Rattle.program_words.specs.declared.request.Task.TheVariants.{Trial}
use Rattle.elf32_loader.specs.LoadedImage.{image_of_loaded}
use Rattle.fasttrack_program.specs.Promise.{promise_of}
use Rattle.fasttrack_program.specs.Reports.{report, program_report}
use Rattle.fasttrack_program.specs.Tracks.{given_of}
use Rattle.sink_text.proofs.OnTexts.{WritesText-as}
use Rattle.fasttrack_program.proofs.OnReports.{trial_report, report-whole, report-part}
use Rattle.fasttrack_program.proofs.show_trial.show_trial.Goals as goal

pub returns-in-Ok-write_report : goal.returns-in-Ok-write_report
returns-in-Ok-write_report g c = λ (s : Sinks).
    let before = with_out g.O.Sink c.args.out.now s in
    let text = program_report (image_of_loaded c.args.guest.now.loaded) c.args.guest.now.input c.args.options.now.budget in
    let is = ap (λ xs. report xs c.in-Ok.trial.finished.count c.in-Ok.trial.finished.end) c.as_slice-2.ensures ∙ trial_report c.args.guest.now.loaded c.args.guest.now.input c.args.options.now.budget c.in-Ok.trial (rw c.as_slice.ensures at c.in-Ok.ensures) in
    let written = WritesText-as {T = Unit {0}} before.out (g.O.Sink.contents c.write_report.new.out) before.out_faults (g.O.Sink.faults c.write_report.new.out) _ text (Ok tt) is c.in-Ok-write_report.ensures in
    rw c.plain-in-Ok-write_report.ensures
    (report-whole (promise_of Trial) (given_of c.args.guest.now.loaded c.args.guest.now.input c.args.options.now) [] refl text refl before (g.O.Sink.contents c.write_report.new.out) (g.O.Sink.faults c.write_report.new.out) written)

pub returns : goal.returns
returns g c = λ (s : Sinks).
    let before = with_out g.O.Sink c.args.out.now s in
    let text = program_report (image_of_loaded c.args.guest.now.loaded) c.args.guest.now.input c.args.options.now.budget in
    let is = ap (λ xs. report xs c.in-Ok.trial.finished.count c.in-Ok.trial.finished.end) c.as_slice-2.ensures ∙ trial_report c.args.guest.now.loaded c.args.guest.now.input c.args.options.now.budget c.in-Ok.trial (rw c.as_slice.ensures at c.in-Ok.ensures) in
    let written = WritesText-as {T = Unit {0}} before.out (g.O.Sink.contents c.write_report.new.out) before.out_faults (g.O.Sink.faults c.write_report.new.out) _ text (Err c.in-Err.fault) is c.in-Err.ensures in
    rw (c.plain-in-Err.ensures, c.answer_of_fault.ensures)
    (report-part (promise_of Trial) (given_of c.args.guest.now.loaded c.args.guest.now.input c.args.options.now) [] refl text refl before (g.O.Sink.contents c.write_report.new.out) (g.O.Sink.faults c.write_report.new.out) c.in-Err.fault written)
