use Rattle.std.proofs.Common.{◌∙◌}
use Rattle.std.proofs.lemmas.List.Elements.{All-set}
use Rattle.job_batch.specs.Parts.{IsLed, start_of}
use Rattle.job_batch.proofs.Lists.{map-set_same}
use Rattle.job_batch.proofs.leading.go_round.Goals as goal

pub loop-job-preserved : goal.loop-job-preserved
loop-job-preserved g c = record {
  led = All-set (IsLed c.args.locks.now) c.loop-job.job-items c.loop-job.job-index c.go_to-here.new.job c.go_to-here.ensures.led c.loop-job.invariant.led;
  starts = map-set_same start_of c.loop-job.job-items c.loop-job.job-index c.job-item.result c.go_to-here.new.job c.go_to-here.ensures.start ∙ c.loop-job.invariant.starts;
}
