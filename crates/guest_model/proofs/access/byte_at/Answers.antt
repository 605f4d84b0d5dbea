use Rattle.std.proofs.Common.{sym, ◌∙◌}
use Rattle.guest_model.proofs.OnPlaces.{no_place-none, place-byte_is}
use Rattle.guest_model.proofs.access.byte_at.Goals as goal

pub returns-in_err-place : goal.returns-in_err-place
returns-in_err-place c = c.from_residual.ensures ∙ sym (no_place-none c.args.areas.now c.args.a c.in_err-place.ensures.none)

pub returns : goal.returns
returns c = place-byte_is c.args.areas.now c.args.a c.in_ok-place.place c.index-areas-place.result c.as_slice-bytes.result.now c.requires c.in_ok-place.ensures.found c.as_slice-bytes.ensures
