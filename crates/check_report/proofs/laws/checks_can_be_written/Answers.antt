use Rattle.check_report.proofs.OnChecks.{checked-inside, checked-saves}
use Rattle.check_report.proofs.laws.checks_can_be_written.Goals as goal

pub returns-clause-inside : goal.returns-clause-inside
returns-clause-inside c = checked-inside

pub returns-clause-saves : goal.returns-clause-saves
returns-clause-saves c = checked-saves
