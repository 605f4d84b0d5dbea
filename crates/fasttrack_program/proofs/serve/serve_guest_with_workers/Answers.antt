use Rattle.std.proofs.Common.{Some}
use Rattle.guest_streams.specs.GuestStreams.{Sinks, sinks_of}
use Rattle.program_words.specs.CommandLine.{Request, asked}
use Rattle.fasttrack_program.specs.Reading.{Known, known_of}
use Rattle.fasttrack_program.specs.Tracks.{given_of}
use Rattle.fasttrack_program.proofs.OnKeeping.{late-kept}
use Rattle.fasttrack_program.proofs.OnPlans.{served-guest, served-none}
use Rattle.fasttrack_program.proofs.serve.serve_guest_with_workers.Goals as goal

pub returns-in-Ok-clause-served : goal.returns-in-Ok-clause-served
returns-in-Ok-clause-served g c =
    let r : Request = asked c.args.request.now in
    let known : Known = known_of g.F.Files g.I.Source (Some r) c.args.files.now c.args.input.now in
    let before : Sinks = sinks_of g.O.Sink g.N.Sink c.args.out.now c.args.notes.now in
    let after : Sinks = sinks_of g.O.Sink g.N.Sink c.do_with_workers.new.out c.do_with_workers.new.notes in
    served-guest r c.options_in-options.result known c.in-Ok.guest before after c.do_with_workers.result c.options_in-options.ensures c.in-Ok.ensures.found c.do_with_workers.ensures

pub returns-in-Ok-clause-reads : goal.returns-in-Ok-clause-reads
returns-in-Ok-clause-reads g c =
    let r : Request = asked c.args.request.now in
    let before : Sinks = sinks_of g.O.Sink g.N.Sink c.args.out.now c.args.notes.now in
    let after : Sinks = sinks_of g.O.Sink g.N.Sink c.do_with_workers.new.out c.do_with_workers.new.notes in
    let given = given_of c.in-Ok.guest.loaded c.in-Ok.guest.input c.options_in-options.result in
    c.in-Ok.ensures.reads c.do_with_workers.result.answer (late-kept r.task given before after c.do_with_workers.result c.do_with_workers.ensures)

pub returns-in-Err-clause-served : goal.returns-in-Err-clause-served
returns-in-Err-clause-served g c =
    let r : Request = asked c.args.request.now in
    let known : Known = known_of g.F.Files g.I.Source (Some r) c.args.files.now c.args.input.now in
    let before : Sinks = sinks_of g.O.Sink g.N.Sink c.args.out.now c.args.notes.now in
    rw c.plain.ensures (served-none r known c.in-Err.answer before c.in-Err.ensures.found)

pub returns-in-Err-clause-reads : goal.returns-in-Err-clause-reads
returns-in-Err-clause-reads g c = rw c.plain.ensures c.in-Err.ensures.reads
