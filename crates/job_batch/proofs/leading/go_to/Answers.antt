use Rattle.std.proofs.Common.{refl}
use Rattle.job_batch.specs.Parts.{empty_sinks}
use Rattle.job_batch.specs.declared.leading.Stage.TheVariants.{Failed}
use Rattle.job_batch.proofs.Places.{led-later}
use Rattle.job_batch.proofs.Streams.{got-runs, runs-got, broke-off}
use Rattle.job_batch.proofs.leading.go_to.Goals as goal

pub returns-in-Ok-Worked-clause-led : goal.returns-in-Ok-Worked-clause-led
returns-in-Ok-Worked-clause-led g c =
    led-later c.args.locks.now c.args.job.now _ c.requires refl c.lead_round.ensures.pass c.lead_round.ensures.none
    (runs-got _ c.in-Runs.is (c.in-Ok-Worked.ensures.led empty_sinks (got-runs c.args.job.now c.in-Runs.is c.requires.got)))

pub returns-in-Ok-Idle-clause-led : goal.returns-in-Ok-Idle-clause-led
returns-in-Ok-Idle-clause-led g c =
    led-later c.args.locks.now c.args.job.now _ c.requires refl c.lead_round.ensures.pass c.lead_round.ensures.none
    (runs-got _ c.in-Runs.is (c.in-Ok-Idle.ensures.led empty_sinks (got-runs c.args.job.now c.in-Runs.is c.requires.got)))

pub returns-in-Ok-Over-clause-led : goal.returns-in-Ok-Over-clause-led
returns-in-Ok-Over-clause-led g c =
    led-later c.args.locks.now c.args.job.now _ c.requires refl c.lead_round.ensures.pass c.lead_round.ensures.none
    (c.in-Ok-Over.ensures.led empty_sinks (got-runs c.args.job.now c.in-Runs.is c.requires.got))

pub returns-in-Err-clause-led : goal.returns-in-Err-clause-led
returns-in-Err-clause-led g c =
    led-later c.args.locks.now c.args.job.now _ c.requires refl c.lead_round.ensures.pass c.lead_round.ensures.none
    (broke-off (record c.args.job.now { pass = c.lead_round.new.pass; out = c.lead_round.new.out; notes = c.lead_round.new.notes; stage = Failed }) c.in-Err.field-0 c.lead_round.ensures.known (c.in-Err.ensures.led empty_sinks (got-runs c.args.job.now c.in-Runs.is c.requires.got)))
