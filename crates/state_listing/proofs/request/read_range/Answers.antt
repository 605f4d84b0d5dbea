use Rattle.state_listing.proofs.OnRequests.{range_cut, range_uncut}
use Rattle.state_listing.proofs.request.read_range.Goals as goal

pub returns-in_err-address : goal.returns-in_err-address
returns-in_err-address c = rw c.from_residual.ensures (λ range fits is. range_uncut range c.args.words.now c.in_err-address.ensures.none is)

pub returns-in_err-read_address : goal.returns-in_err-read_address
returns-in_err-read_address c =
    rw c.from_residual-in_err-read_address.ensures (λ range fits is.
    let cut = range_cut range c.args.words.now c.in_ok-address.address.now c.in_ok-address.length.now is c.in_ok-address.ensures.parts c.in_ok-address.ensures.first in
    c.in_err-read_address.ensures range.0 fits.address cut.0)
