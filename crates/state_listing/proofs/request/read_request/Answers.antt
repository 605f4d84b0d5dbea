use Rattle.state_listing.proofs.OnRequests.{request_uncut, request_cut}
use Rattle.state_listing.proofs.request.read_request.Goals as goal

pub returns-in_err-read_count-in-None : goal.returns-in_err-read_count-in-None
returns-in_err-read_count-in-None c =
    rw c.from_residual.ensures (λ q fits is. c.in_err-read_count-in-None.ensures q.count fits.count (request_uncut q c.args.line.now c.in-None.ensures.none is))

pub returns-in_err-read_count-in-Some : goal.returns-in_err-read_count-in-Some
returns-in_err-read_count-in-Some c =
    rw c.from_residual-in_err-read_count-in-Some.ensures (λ q fits is.
    let cut = request_cut q c.args.line.now c.in-Some.count.now c.in-Some.range.now fits c.in-Some.ensures.parts c.in-Some.ensures.first is in
    c.in_err-read_count-in-Some.ensures q.count fits.count cut.count_is)

pub returns-in_err-read_range-in-Some : goal.returns-in_err-read_range-in-Some
returns-in_err-read_range-in-Some c =
    rw c.from_residual-in_err-read_range-in-Some.ensures (λ q fits is.
    let cut = request_cut q c.args.line.now c.in-Some.count.now c.in-Some.range.now fits c.in-Some.ensures.parts c.in-Some.ensures.first is in
    c.in_err-read_range-in-Some.ensures cut.range cut.fits cut.rest_is)
