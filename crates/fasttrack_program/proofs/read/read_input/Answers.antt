use Rattle.fasttrack_program.proofs.OnReading.{long_input, no_input}
use Rattle.fasttrack_program.proofs.read.read_input.Goals as goal

pub returns-then-not-wanted-clause-reads : goal.returns-then-not-wanted-clause-reads
returns-then-not-wanted-clause-reads g c = rw (c.if-not-wanted.true, c.new.ensures) (no_input (g.I.Source.remaining c.args.input.now))

pub returns-in-TooLong-clause-reads : goal.returns-in-TooLong-clause-reads
returns-in-TooLong-clause-reads g c = rw c.if-not-wanted.false (long_input (g.I.Source.remaining c.args.input.now) c.in-TooLong.ensures.takes)
