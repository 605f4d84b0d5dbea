use Rattle.std.proofs.Common.{Ok, Err, inl, inr, refl}
use Rattle.std.specs.Prelude.{IsTrue}
use Rattle.elf32_loader.specs.LoadedImage.{image_of_loaded}
use Rattle.elf32_loader.specs.declared.loaded.Loaded.{Loaded}
use Rattle.program_words.specs.CommandLine.{Request, asked}
use Rattle.fasttrack_program.specs.Plan.{takes_file, takes_input}
use Rattle.fasttrack_program.specs.declared.answer.Answer.{Answer}
use Rattle.fasttrack_program.proofs.OnPlans.{input-takes, program-takes, holds-program}
use Rattle.fasttrack_program.proofs.OnReading.{reads-file, reads-task, reads-input}
use Rattle.fasttrack_program.proofs.guest.read_program.Goals as goal

pub returns-in-Err : goal.returns-in-Err
returns-in-Err g c =
    let r : Request = asked c.args.request.now in
    let wants : IsTrue (takes_input r.task) = program-takes r.task c.requires in
    let file : IsTrue (takes_file r.task) = input-takes r.task wants in
    record {
      found = inl c.in-Err.ensures.reads;
      reads = reads-file g.F.Files g.I.Source r file c.args.files.now c.read_image.new.files Loaded c.args.input.now c.in-Err.answer c.in-Err.ensures.counted;
      held = c.read_image.ensures.held;
    }

pub returns-in-Ok-read_input : goal.returns-in-Ok-read_input
returns-in-Ok-read_input g c =
    let r : Request = asked c.args.request.now in
    let wants : IsTrue (takes_input r.task) = program-takes r.task c.requires in
    let file : IsTrue (takes_file r.task) = input-takes r.task wants in
    record {
      found = (c.in-Ok.ensures.reads, c.in-Ok-read_input.ensures.reads);
      reads = λ (answer : Answer) late. reads-task g.F.Files g.I.Source r file c.args.files.now c.read_image.new.files wants (c.in-Ok.ensures.counted.calm (λ e. cc)) c.args.input.now c.read_input.new.input
          (Ok c.in-Ok-read_input.input) c.in-Ok-read_input.ensures.unread answer (c.in-Ok-read_input.ensures.counted.calm (λ e. cc)) late;
      held = c.read_image.ensures.held;
    }

pub returns-in-Err-read_input : goal.returns-in-Err-read_input
returns-in-Err-read_input g c =
    let r : Request = asked c.args.request.now in
    let wants : IsTrue (takes_input r.task) = program-takes r.task c.requires in
    let file : IsTrue (takes_file r.task) = input-takes r.task wants in
    let read = c.in-Ok.ensures.reads in
    record {
      found = inr (image_of_loaded c.in-Ok.loaded, read, c.in-Err-read_input.ensures.reads);
      reads = reads-input g.F.Files g.I.Source r file c.args.files.now c.read_image.new.files wants (c.in-Ok.ensures.counted.calm (λ e. cc)) c.args.input.now c.read_input.new.input
          (Err c.in-Err-read_input.answer) c.in-Err-read_input.ensures.unread read.0 read.1 (holds-program r.task c.requires read.0 (image_of_loaded c.in-Ok.loaded) read.2) c.in-Err-read_input.answer refl c.in-Err-read_input.ensures.counted c.in-Err-read_input.ensures.reads;
      held = c.read_image.ensures.held;
    }
