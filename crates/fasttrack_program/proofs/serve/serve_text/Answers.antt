use Rattle.std.proofs.Common.{Some, None}
use Rattle.guest_streams.specs.GuestStreams.{Sinks, with_out}
use Rattle.program_words.specs.CommandLine.{Request, asked}
use Rattle.fasttrack_program.specs.Finding.{showing_of}
use Rattle.fasttrack_program.specs.Reading.{Known, known_of}
use Rattle.fasttrack_program.proofs.OnKeeping.{late-shown}
use Rattle.fasttrack_program.proofs.OnSubjects.{served-subject, served-no_subject}
use Rattle.fasttrack_program.proofs.serve.serve_text.Goals as goal

pub returns-in-Ok-clause-served : goal.returns-in-Ok-clause-served
returns-in-Ok-clause-served g c = λ (s : Sinks).
    let r : Request = asked c.args.request.now in
    let known : Known = known_of g.F.Files g.I.Source (Some r) c.args.files.now c.args.input.now in
    served-subject r c.options_in-options.result known c.in-Ok.subject (with_out g.O.Sink c.args.out.now s) (with_out g.O.Sink c.show.new.out s) c.show.result c.options_in-options.ensures c.in-Ok.ensures.found (c.show.ensures s)

-- Whatever notes hold, the answer is the same.
pub returns-in-Ok-clause-reads : goal.returns-in-Ok-clause-reads
returns-in-Ok-clause-reads g c =
    let s : Sinks = record { out = None; out_faults = 0; notes = None; notes_faults = 0 } in
    let x = showing_of c.options_in-options.result c.in-Ok.subject in
    c.in-Ok.ensures.reads c.show.result.answer (late-shown x (with_out g.O.Sink c.args.out.now s) (with_out g.O.Sink c.show.new.out s) c.show.result (c.show.ensures s))

pub returns-in-Err-clause-served : goal.returns-in-Err-clause-served
returns-in-Err-clause-served g c = λ (s : Sinks).
    let r : Request = asked c.args.request.now in
    let known : Known = known_of g.F.Files g.I.Source (Some r) c.args.files.now c.args.input.now in
    rw c.plain.ensures (served-no_subject r known c.in-Err.answer (with_out g.O.Sink c.args.out.now s) c.in-Err.ensures.found)
