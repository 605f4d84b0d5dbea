use Rattle.std.proofs.Common.{None, Some, refl}
use Rattle.std.specs.Prelude.{map}
use Rattle.guest_streams.specs.GuestStreams.{Sinks, with_out}
use Rattle.program_words.specs.CommandLine.{Request, asked}
use Rattle.fasttrack_program.specs.Jobs.{Batch}
use Rattle.fasttrack_program.specs.Plan.{batch_of, image_in, job_settings}
use Rattle.fasttrack_program.specs.Reading.{Known, known_of}
use Rattle.fasttrack_program.proofs.OnJobs.{served-jobs, served-no_jobs, stands-fresh, stands-runs}
use Rattle.fasttrack_program.proofs.OnKeeping.{late-run}
use Rattle.fasttrack_program.proofs.serve.serve_batch.Goals as goal

pub show_batch-requires-clause-fresh : goal.show_batch-requires-clause-fresh
show_batch-requires-clause-fresh g c κs within =
    let h = c.in-Ok.ensures.found in
    stands-fresh (job_settings (asked c.args.request.now)) h.2.0 (map image_in h.0.images) c.in-Ok.jobs.starts.items c.in-Ok.jobs.boards.items h.2.2

pub show_batch-requires-clause-runs : goal.show_batch-requires-clause-runs
show_batch-requires-clause-runs g c κs within =
    let h = c.in-Ok.ensures.found in
    stands-runs (job_settings (asked c.args.request.now)) h.2.0 (map image_in h.0.images) c.in-Ok.jobs.starts.items c.in-Ok.jobs.boards.items h.2.2

pub returns-in-Ok-clause-served : goal.returns-in-Ok-clause-served
returns-in-Ok-clause-served g c = λ (s : Sinks).
    let r : Request = asked c.args.request.now in
    let known : Known = known_of g.F.Files g.I.Source (Some r) c.args.files.now c.args.input.now in
    served-jobs r known c.in-Ok.jobs r.workers (with_out g.O.Sink c.args.out.now s) (with_out g.O.Sink c.show_batch.new.out s) c.show_batch.result refl c.in-Ok.ensures.found
    (λ b is stands. c.show_batch.ensures b s is stands)

-- Whatever notes hold, the answer is the same.
pub returns-in-Ok-clause-reads : goal.returns-in-Ok-clause-reads
returns-in-Ok-clause-reads g c =
    let r : Request = asked c.args.request.now in
    let h = c.in-Ok.ensures.found in
    let b : Batch = batch_of r h.0.images h.2.0 in
    let s : Sinks = record { out = None; out_faults = 0; notes = None; notes_faults = 0 } in
    c.in-Ok.ensures.reads c.show_batch.result.answer (late-run b (with_out g.O.Sink c.args.out.now s) (with_out g.O.Sink c.show_batch.new.out s) c.show_batch.result (c.show_batch.ensures b s refl h.2.2))

pub returns-in-Err-clause-served : goal.returns-in-Err-clause-served
returns-in-Err-clause-served g c = λ (s : Sinks).
    let r : Request = asked c.args.request.now in
    let known : Known = known_of g.F.Files g.I.Source (Some r) c.args.files.now c.args.input.now in
    rw c.plain.ensures (served-no_jobs r known c.in-Err.answer (with_out g.O.Sink c.args.out.now s) c.in-Err.ensures.found)
