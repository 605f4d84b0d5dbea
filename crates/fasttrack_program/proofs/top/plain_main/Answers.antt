use Rattle.std.proofs.Common.{refl}
use Rattle.guest_streams.specs.GuestStreams.{Sinks, sinks_of}
use Rattle.fasttrack_program.proofs.OnCompleteness.{completed, read-failed}
use Rattle.fasttrack_program.proofs.OnLines.{reads-concluded}
use Rattle.fasttrack_program.proofs.top.plain_main.Goals as goal

pub returns-clause-reads : goal.returns-clause-reads
returns-clause-reads g c =
    reads-concluded g.F.Files g.I.Source _ c.args.files.now c.serve_words.new.files c.args.input.now c.serve_words.new.input _ _ _ _ c.in_ok-served.served.answer c.end_call.result c.end_call.ensures.line c.in_ok-served.ensures.reads

pub returns-clause-complete : goal.returns-clause-complete
returns-clause-complete g c = λ calm.
    let before : Sinks = sinks_of g.O.Sink g.N.Sink c.args.out.now c.args.notes.now in
    let between : Sinks = sinks_of g.O.Sink g.N.Sink c.serve_words.new.out c.serve_words.new.notes in
    let after : Sinks = sinks_of g.O.Sink g.N.Sink c.serve_words.new.out c.end_call.new.notes in
    completed _ _ before between after c.in_ok-served.served c.end_call.result c.in_ok-served.ensures.served refl refl c.end_call.ensures.line calm.out_calm calm.notes_calm
    (λ e. read-failed g.F.Files g.I.Source _ c.args.files.now c.serve_words.new.files c.args.input.now c.serve_words.new.input calm.files_calm calm.input_calm ((returns-clause-reads g c).fault e))
