use Rattle.std.proofs.Common.{List, ℕ, Option, Ok, ◌∙◌}
use Rattle.std.specs.Prelude.{string_bytes}
use Rattle.fasttrack_program.specs.Finding.{AddsJob}
use Rattle.fasttrack_program.proofs.OnJobs.{stands-more}
use Rattle.fasttrack_program.proofs.jobs.read_jobs.Goals as goal

pub loop-name-preserved : goal.loop-name-preserved
loop-name-preserved g c =
    let so = c.loop-name.invariant in
    let named : List ℕ → Option (List ℕ) = g.F.Files.contents c.args.files.now in
    let adds : AddsJob c.args.settings c.args.input (named (string_bytes c.name-item.result)) c.loop-name.jobs c.read_job.new.jobs (Ok c.in-Ok-read_job.field-0) =
    rw (so.held, so.input, c.as_str.ensures.value) at c.in-Ok-read_job.ensures.job in
    record {
      stands = stands-more c.args.settings c.args.input named c.args.names.now c.loop-name.name-index c.name-item.result _ c.loop-name.jobs c.read_job.new.jobs c.in-Ok-read_job.field-0 c.loop-name-test.true c.name-item.is so.stands adds;
      calm = c.in-Ok-read_job.ensures.counted.calm (λ e. cc) ∙ so.calm;
      held = c.read_job.ensures.held ∙ so.held;
      input = so.input;
    }
