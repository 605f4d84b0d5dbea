use Rattle.std.proofs.Common.{Some}
use Rattle.std.specs.Prelude.{vec_len, vec_capacity}
use Rattle.guest_streams.specs.GuestStreams.{Sinks, sinks_of}
use Rattle.program_words.specs.CommandLine.{Request, asked}
use Rattle.fasttrack_program.specs.Reading.{Known, known_of}
use Rattle.fasttrack_program.proofs.OnPlans.{served-refused}
use Rattle.fasttrack_program.proofs.OnTold.{told-fits}
use Rattle.fasttrack_program.proofs.top.serve_words.Goals as goal

pub returns-in-Err-clause-served : goal.returns-in-Err-clause-served
returns-in-Err-clause-served g c =
    rw c.plain.ensures (served-refused _ (known_of g.F.Files g.I.Source _ c.args.files.now c.args.input.now) (sinks_of g.O.Sink g.N.Sink c.args.out.now c.args.notes.now) c.in-Err.answer c.in-Err.ensures.request)

pub returns-in-Ok-2-clause-room : goal.returns-in-Ok-2-clause-room
returns-in-Ok-2-clause-room g c =
    let r : Request = asked c.in-Ok.request in
    let known : Known = known_of g.F.Files g.I.Source (Some r) c.args.files.now c.args.input.now in
    let before : Sinks = sinks_of g.O.Sink g.N.Sink c.args.out.now c.args.notes.now in
    let after : Sinks = sinks_of g.O.Sink g.N.Sink c.serve_request.new.out c.serve_request.new.notes in
    told-fits r known before after c.serve_request.result (vec_len c.read_request.new.histories) (vec_capacity c.read_request.new.histories) c.serve_request.ensures.served c.in-Ok.ensures.room
