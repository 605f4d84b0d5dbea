use Rattle.std.proofs.Common.{subst}
use Rattle.std.specs.Str.{IsUtf8}
use Rattle.journal_check.proofs.OnLines.{text-utf8}
use Rattle.journal_check.proofs.text.entry_of.Goals as goal

pub returns-in-Err-clause-none : goal.returns-in-Err-clause-none
returns-in-Err-clause-none c entry fits is = c.in-Err.ensures.cases.0 (subst IsUtf8 is (text-utf8 entry fits))
