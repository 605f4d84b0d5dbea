use Rattle.std.proofs.Common.{rules}
use Rattle.program_words.proofs.InRange.{in_range}
use Rattle.program_words.proofs.request.read_words.Goals as goal

pub returns-clause-ok : goal.returns-clause-ok
returns-clause-ok c = search rules

pub returns-clause-bounds : goal.returns-clause-bounds
returns-clause-bounds c = in_range _ _ (returns-clause-ok c)
