use Rattle.state_listing.proofs.OneAnswer.{one_answer}
use Rattle.state_listing.proofs.laws.files_have_one_answer.Goals as goal

pub returns : goal.returns
returns c = one_answer
