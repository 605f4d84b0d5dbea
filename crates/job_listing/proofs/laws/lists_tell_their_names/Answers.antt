use Rattle.job_listing.proofs.OnLists.{list-told, list-only}
use Rattle.job_listing.proofs.laws.lists_tell_their_names.Goals as goal

pub returns-clause-told : goal.returns-clause-told
returns-clause-told c = list-told

pub returns-clause-only : goal.returns-clause-only
returns-clause-only c = list-only
