use Rattle.std.proofs.Common.{◌≡◌, ℕ, List, Option, Some, Err, inl, inr, refl, sym, ap, ◌∙◌, subst}
use Rattle.std.specs.Prelude.{IsTrue}
use Rattle.elf32_loader.specs.LoadedImage.{image_of_loaded}
use Rattle.program_words.specs.CommandLine.{Request, asked}
use Rattle.fasttrack_program.specs.Plan.{bytes_in, input_in, takes_input, takes_program}
use Rattle.fasttrack_program.specs.declared.answer.Answer.{Answer}
use Rattle.fasttrack_program.specs.declared.answer.Answer.TheVariants.{Shown}
use Rattle.fasttrack_program.specs.Reading.{Known, known_of, Reads}
use Rattle.fasttrack_program.proofs.OnPlans.{input-takes, program-takes, beside-takes, beside-more, holds-program}
use Rattle.fasttrack_program.proofs.OnReading.{late-bytes, late-Shown, reads_input-is, reads-all, reads-more}
use Rattle.fasttrack_program.proofs.subject.read_both.Goals as goal

pub returns-in-Err-clause-found : goal.returns-in-Err-clause-found
returns-in-Err-clause-found g c = inl c.in-Err.ensures.found

pub returns-in-Err-read_file-clause-found : goal.returns-in-Err-read_file-clause-found
returns-in-Err-read_file-clause-found g c =
    let r : Request = asked c.args.request.now in
    let known : Known = known_of g.F.Files g.I.Source (Some r) c.args.files.now c.args.input.now in
    let held : g.F.Files.contents c.read_program.new.files c.in-Some.name.now ≡ g.F.Files.contents c.args.files.now c.in-Some.name.now = ap (λ (of : List ℕ → Option (List ℕ)). of c.in-Some.name.now) c.in-Ok.ensures.held in
    let named : known.beside ≡ g.F.Files.contents c.args.files.now c.in-Some.name.now = rw c.in-Some.is refl in
    inr (c.in-Ok.guest, c.in-Ok.ensures.found, subst (λ (k : Option (List ℕ)). Reads {A = List ℕ} (bytes_in c.args.limit c.args.too_long) k (Err c.in-Err-read_file.answer)) (held ∙ sym named) c.in-Err-read_file.ensures.reads)

pub returns-in-Err-read_file-clause-reads : goal.returns-in-Err-read_file-clause-reads
returns-in-Err-read_file-clause-reads g c =
    let r : Request = asked c.args.request.now in
    let program : IsTrue (takes_program r.task) = beside-takes r.task c.requires.task in
    let wants : IsTrue (takes_input r.task) = program-takes r.task program in
    let read = c.in-Ok.ensures.found in
    reads-more g.F.Files g.I.Source r (input-takes r.task wants) c.args.files.now c.read_program.new.files c.read_file.new.files c.args.input.now c.read_program.new.input
    (c.in-Ok.ensures.reads Shown late-Shown) (beside-more r.task c.requires.task) read.0.0 read.0.1 (holds-program r.task program read.0.0 (image_of_loaded c.in-Ok.guest.loaded) read.0.2)
    read.1.0 read.1.1 c.in-Ok.guest.input (ap (λ b. input_in b read.1.0) (reads_input-is r wants) ∙ read.1.2)
    (List ℕ) c.in-Err-read_file.answer c.in-Err-read_file.ensures.counted
    (late-bytes c.args.limit c.args.too_long (g.F.Files.contents c.read_program.new.files c.in-Some.name.now) c.in-Err-read_file.answer c.requires.late c.in-Err-read_file.ensures.reads)

pub returns-in-Ok-read_file-clause-reads : goal.returns-in-Ok-read_file-clause-reads
returns-in-Ok-read_file-clause-reads g c = λ (answer : Answer) late.
    let r : Request = asked c.args.request.now in
    let wants : IsTrue (takes_input r.task) = program-takes r.task (beside-takes r.task c.requires.task) in
    reads-all g.F.Files g.I.Source r (input-takes r.task wants) c.args.files.now c.read_program.new.files c.read_file.new.files c.args.input.now c.read_program.new.input
    (c.in-Ok.ensures.reads Shown late-Shown) (c.in-Ok-read_file.ensures.counted.calm (λ e. cc)) answer late
