use Rattle.std.proofs.Common.{ap, ◌∙◌}
use Rattle.guest_streams.specs.GuestStreams.{Sinks, sinks_of}
use Rattle.worker_gate.specs.Seats.{BoardPass}
use Rattle.fasttrack_program.proofs.OnRuns.{runs-worked, runs-nothing}
use Rattle.fasttrack_program.proofs.workers.run_with_workers.Goals as goal

pub returns-in_default : goal.returns-in_default
returns-in_default g c =
    let before : Sinks = sinks_of g.O.Sink g.N.Sink c.args.out.now c.args.notes.now in
    runs-nothing c.args.loaded.now c.args.input c.args.options.now before

pub returns-in_default-new : goal.returns-in_default-new
returns-in_default-new g c =
    let before : Sinks = sinks_of g.O.Sink g.N.Sink c.args.out.now c.args.notes.now in
    runs-nothing c.args.loaded.now c.args.input c.args.options.now before

pub returns : goal.returns
returns g c =
    let before : Sinks = sinks_of g.O.Sink g.N.Sink c.args.out.now c.args.notes.now in
    let after : Sinks = sinks_of g.O.Sink g.N.Sink c.conduct-conducted.new.out c.conduct-conducted.new.notes in
    let fixed = ap (λ (p : BoardPass). p.fixed) c.conduct-conducted.ensures.pass ∙ ap (λ (p : BoardPass). p.fixed) c.in-Ok-new.ensures in
    runs-worked c.args.loaded.now c.args.input c.args.options.now c.in-Ok.board c.conduct-conducted.new.pass before after c.conduct-conducted.result c.requires.some c.in-Ok.ensures
    fixed c.conduct-conducted.ensures.conducts
