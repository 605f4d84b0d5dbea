use Rattle.guest_model.proofs.OnPlaces.{place-mapped, overwritten, patched-write, patched-layout}
use Rattle.guest_model.proofs.access.paste.Goals as goal

pub returns-in-Some-clause-pastes : goal.returns-in-Some-clause-pastes
returns-in-Some-clause-pastes c =
    let x = c.index-areas-place.result in (
      place-mapped c.args.areas.now c.args.a _ c.in-Some.place x c.requires c.in-Some.ensures.found,
      patched-write c.args.areas.now c.args.a c.args.from.now c.in-Some.place _ c.requires c.in-Some.ensures.found (λ d. overwritten c.args.areas.now c.in-Some.place x d c.args.from.now c.overwrite.new.self c.in-Some.ensures.found.index c.overwrite.ensures),
    )

pub returns-in-Some-clause-layout : goal.returns-in-Some-clause-layout
returns-in-Some-clause-layout c =
    let x = c.index-areas-place.result in
    patched-layout c.args.areas.now c.args.a c.args.from.now c.in-Some.place _ c.requires c.in-Some.ensures.found (λ d. overwritten c.args.areas.now c.in-Some.place x d c.args.from.now c.overwrite.new.self c.in-Some.ensures.found.index c.overwrite.ensures)
