use Rattle.std.proofs.Common.{Some, Ok, Err}
use Rattle.program_words.specs.CommandLine.{Request, asked}
use Rattle.fasttrack_program.specs.Reading.{Known, known_of}
use Rattle.fasttrack_program.proofs.OnSubjects.{finds-journal, finds-states, finds-words, finds-no_words, finds-text, finds-no_text}
use Rattle.fasttrack_program.proofs.subject.find_subject.Goals as goal

pub returns-in-Ok-clause-found : goal.returns-in-Ok-clause-found
returns-in-Ok-clause-found g c =
    let r : Request = asked c.args.request.now in
    let known : Known = known_of g.F.Files g.I.Source (Some r) c.args.files.now c.args.input.now in
    finds-journal r known c.in-Check.is (Ok (c.in-Ok.guest, c.in-Ok.journal)) c.in-Ok.ensures.found

pub returns-in-Err-clause-found : goal.returns-in-Err-clause-found
returns-in-Err-clause-found g c =
    let r : Request = asked c.args.request.now in
    let known : Known = known_of g.F.Files g.I.Source (Some r) c.args.files.now c.args.input.now in
    finds-journal r known c.in-Check.is (Err c.in-Err.answer) c.in-Err.ensures.found

pub returns-in-Ok-read_both-clause-found : goal.returns-in-Ok-read_both-clause-found
returns-in-Ok-read_both-clause-found g c =
    let r : Request = asked c.args.request.now in
    let known : Known = known_of g.F.Files g.I.Source (Some r) c.args.files.now c.args.input.now in
    finds-states r known c.in-At.is (Ok (c.in-Ok-read_both.guest, c.in-Ok-read_both.counts)) c.in-Ok-read_both.ensures.found

pub returns-in-Err-read_both-clause-found : goal.returns-in-Err-read_both-clause-found
returns-in-Err-read_both-clause-found g c =
    let r : Request = asked c.args.request.now in
    let known : Known = known_of g.F.Files g.I.Source (Some r) c.args.files.now c.args.input.now in
    finds-states r known c.in-At.is (Err c.in-Err-read_both.answer) c.in-Err-read_both.ensures.found

pub returns-in-Ok-read_image-clause-found : goal.returns-in-Ok-read_image-clause-found
returns-in-Ok-read_image-clause-found g c =
    let r : Request = asked c.args.request.now in
    let known : Known = known_of g.F.Files g.I.Source (Some r) c.args.files.now c.args.input.now in
    finds-words r known c.in-Ok-read_image.loaded c.in-List.is c.in-Ok-read_image.ensures.reads

pub returns-in-Err-read_image-clause-found : goal.returns-in-Err-read_image-clause-found
returns-in-Err-read_image-clause-found g c =
    let r : Request = asked c.args.request.now in
    let known : Known = known_of g.F.Files g.I.Source (Some r) c.args.files.now c.args.input.now in
    finds-no_words r known c.in-Err-read_image.answer c.in-List.is c.in-Err-read_image.ensures.reads

pub returns-in-Ok-read_file-clause-found : goal.returns-in-Ok-read_file-clause-found
returns-in-Ok-read_file-clause-found g c =
    let r : Request = asked c.args.request.now in
    let known : Known = known_of g.F.Files g.I.Source (Some r) c.args.files.now c.args.input.now in
    finds-text r known c.in-Pack.is c.in-Ok-read_file.text c.in-Ok-read_file.ensures.reads

pub returns-in-Err-read_file-clause-found : goal.returns-in-Err-read_file-clause-found
returns-in-Err-read_file-clause-found g c =
    let r : Request = asked c.args.request.now in
    let known : Known = known_of g.F.Files g.I.Source (Some r) c.args.files.now c.args.input.now in
    finds-no_text r known c.in-Pack.is c.in-Err-read_file.answer c.in-Err-read_file.ensures.reads
