use Rattle.state_listing.proofs.OnRequests.{request_told}
use Rattle.state_listing.proofs.laws.lines_tell_requests.Goals as goal

pub returns : goal.returns
returns c = request_told
