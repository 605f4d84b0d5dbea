use Rattle.job_batch.specs.Parts.{board_of}
use Rattle.job_batch.specs.declared.ends.JobOutcome.TheVariants.{NoMemory}
use Rattle.job_batch.proofs.Streams.{got-failed, ended-as}
use Rattle.job_batch.proofs.leading.end_job.Goals as goal
use Rattle.job_batch.proofs.leading.end_job.Goals.{in-Failed, in_default}

pub returns : goal.returns
returns g c workers seats =
    elim c.match-job.branch [
      | in-Failed w ↦ ended-as workers (board_of c.args.job) c.args.job c.match-job.job _ _ _ NoMemory c.into_bytes.ensures c.into_bytes-2.ensures w.job-is w.outcome-is
          (got-failed c.args.job w.in-Failed.is c.requires.got)
      | in_default w ↦ ended-as workers (board_of c.args.job) w.last_turn-outcome.new.job c.match-job.job _ _ _ w.last_turn-outcome.result c.into_bytes.ensures c.into_bytes-2.ensures w.job-is w.outcome-is
          (w.last_turn-outcome.ensures workers seats)
    ]
