use Rattle.job_batch.proofs.Streams.{ends-done, ends-part}
use Rattle.job_batch.proofs.leading.last_turn.Goals as goal

pub returns-in-Done : goal.returns-in-Done
returns-in-Done g c workers seats =
    ends-done workers c.args.job.now (record c.args.job.now { pass = c.conclude.new.pass; out = c.conclude.new.out; notes = c.conclude.new.notes })
    c.conclude.ensures.pass seats c.conclude.ensures.known c.requires.got c.in-Done.outcome c.in-Done.ensures.concludes

pub returns-in-WriteFault : goal.returns-in-WriteFault
returns-in-WriteFault g c workers seats =
    ends-part workers c.args.job.now (record c.args.job.now { pass = c.conclude.new.pass; out = c.conclude.new.out; notes = c.conclude.new.notes })
    c.conclude.ensures.pass seats c.conclude.ensures.known c.requires.got c.conclude.result c.conclude.ensures.concludes
