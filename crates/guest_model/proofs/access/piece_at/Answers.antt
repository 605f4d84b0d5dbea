use Rattle.guest_model.proofs.OnPlaces.{place-slice}
use Rattle.guest_model.proofs.access.piece_at.Goals as goal

pub returns : goal.returns
returns c = place-slice c.args.areas.now c.args.a c.args.n c.in_ok-place.place c.index-areas-place.result c.as_slice-bytes.result.now c.requires c.in_ok-place.ensures.found c.as_slice-bytes.ensures
