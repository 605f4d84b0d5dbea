use Rattle.std.proofs.Common.{◌≡◌, length, Some, is_some, refl, sym, ap, ◌∙◌, arith}
use Rattle.std.specs.Prelude.{option_map, option_and_then}
use Rattle.guest_model.specs.ImageFault as image
use Rattle.guest_model.specs.ImageFault.{first_overlap}
use Rattle.elf32_loader.proofs.OnPlacesInTable.{least-none, least-found}
use Rattle.elf32_loader.proofs.segment_checks.check_overlaps.Goals as goal

pub returns-in-Some : goal.returns-in-Some
returns-in-Some c =
    let hs = c.args.segments.now in
    let i = c.loop-i.i in
    let found : first_overlap hs i ≡ Some c.in-Some.j = sym c.in-Some.ensures in (
      refl,
      ap (option_and_then (λ k. option_map (image.Overlap k) (first_overlap hs k))) (least-found (λ k. is_some (first_overlap hs k)) (length hs) i c.loop-i-test.true (ap is_some found) (λ k l. ap is_some (c.loop-i.invariant k l)))
          ∙ ap (option_map (image.Overlap i)) found,
    )

pub returns : goal.returns
returns c =
    let hs = c.args.segments.now in
    ap (option_and_then (λ k. option_map (image.Overlap k) (first_overlap hs k))) (least-none (λ k. is_some (first_overlap hs k)) (length hs) (λ k l. ap is_some (c.loop-i.invariant k (omega arith))))
