use Rattle.std.proofs.Common.{Ok, Err, [], refl, ap}
use Rattle.guest_streams.specs.GuestStreams.{Sinks, with_out}
use Rattle.program_words.specs.declared.request.Task.TheVariants.{Explain}
use Rattle.elf32_loader.specs.LoadedImage.{image_of_loaded}
use Rattle.region_account.specs.Explanation.{explanation}
use Rattle.sink_text.proofs.OnTexts.{WritesText-as}
use Rattle.fasttrack_program.specs.Promise.{promise_of}
use Rattle.fasttrack_program.specs.Tracks.{given_of}
use Rattle.fasttrack_program.proofs.OnReports.{report-whole, report-part}
use Rattle.fasttrack_program.proofs.show_explanation.show_explanation.Goals as goal

pub returns-in-Ok : goal.returns-in-Ok
returns-in-Ok g c = λ (s : Sinks).
    let before = with_out g.O.Sink c.args.out.now s in
    let i = image_of_loaded c.args.guest.now.loaded in
    let budget = c.args.options.now.budget in
    let text = explanation i c.args.guest.now.input budget in
    let is = ap (λ input. explanation i input budget) c.as_slice-input.ensures in
    let written = WritesText-as {T = Unit {0}} before.out (g.O.Sink.contents c.write_explanation.new.out) before.out_faults (g.O.Sink.faults c.write_explanation.new.out) _ text (Ok tt) is c.in-Ok.ensures in
    rw c.plain.ensures
    (report-whole (promise_of Explain) (given_of c.args.guest.now.loaded c.args.guest.now.input c.args.options.now) [] refl text refl before (g.O.Sink.contents c.write_explanation.new.out) (g.O.Sink.faults c.write_explanation.new.out) written)

pub returns-in-Err : goal.returns-in-Err
returns-in-Err g c = λ (s : Sinks).
    let before = with_out g.O.Sink c.args.out.now s in
    let i = image_of_loaded c.args.guest.now.loaded in
    let budget = c.args.options.now.budget in
    let text = explanation i c.args.guest.now.input budget in
    let is = ap (λ input. explanation i input budget) c.as_slice-input.ensures in
    let written = WritesText-as {T = Unit {0}} before.out (g.O.Sink.contents c.write_explanation.new.out) before.out_faults (g.O.Sink.faults c.write_explanation.new.out) _ text (Err c.in-Err.fault) is c.in-Err.ensures in
    rw (c.plain-in-Err.ensures, c.answer_of_fault.ensures)
    (report-part (promise_of Explain) (given_of c.args.guest.now.loaded c.args.guest.now.input c.args.options.now) [] refl text refl before (g.O.Sink.contents c.write_explanation.new.out) (g.O.Sink.faults c.write_explanation.new.out) c.in-Err.fault written)
