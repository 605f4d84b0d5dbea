use Rattle.program_words.proofs.InRange.{in_range}
use Rattle.program_words.proofs.laws.requests_are_in_range.Goals as goal

pub returns : goal.returns
returns c = in_range
