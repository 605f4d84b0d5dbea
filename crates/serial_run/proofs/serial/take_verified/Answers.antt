use Rattle.serial_run.proofs.OnRounds.{taken-is}
use Rattle.serial_run.proofs.serial.take_verified.Goals as goal

pub returns-clause-taken : goal.returns-clause-taken
returns-clause-taken c = taken-is c.args.board.now c.settle.new.self c.release.new.self c.in_ok-settle.field-0 c.release.result c.in_ok-settle.ensures.ok.0 c.in_ok-settle.ensures.ok.1 c.release.ensures.bytes
