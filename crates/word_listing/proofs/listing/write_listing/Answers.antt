use Rattle.std.proofs.Common.{◌≡◌, ◌+◌, ◌++◌, drop, refl, subst}
use Rattle.std.proofs.lemmas.Result.{err_from_is_err_and}
use Rattle.elf32_loader.specs.LoadedImage.{image_of_loaded}
use Rattle.sink_text.proofs.OnTexts.{TextSoFar, TextSoFar-first, TextSoFar-next, TextSoFar-stops}
use Rattle.word_listing.specs.Listing.{listing_text}
use Rattle.word_listing.specs.Pieces.{area_lines}
use Rattle.word_listing.proofs.Areas.{areas_lines, areas-next, listing-areas}
use Rattle.word_listing.proofs.listing.write_listing.Goals as goal

pub loop-area-init : goal.loop-area-init
loop-area-init g c =
    let text = listing_text (image_of_loaded c.args.loaded.now) in
    subst (TextSoFar (g.O.Sink.contents c.args.out.now) (g.O.Sink.contents c.args.out.now) (g.O.Sink.faults c.args.out.now) (g.O.Sink.faults c.args.out.now) text)
    (listing-areas (image_of_loaded c.args.loaded.now) c.args.loaded.now.areas c.args.loaded.now.layout refl) (TextSoFar-first (g.O.Sink.contents c.args.out.now) (g.O.Sink.faults c.args.out.now) text)

pub returns-in_err-write_area : goal.returns-in_err-write_area
returns-in_err-write_area g c =
    let areas = c.args.loaded.now.areas in
    let i = c.loop-area.area-index in
    let area = c.area-item.result in
    let p = err_from_is_err_and c.from_residual.result c.from_residual.ensures.1 in
    let next : areas_lines (drop i areas) ≡ area_lines area ++ areas_lines (drop (i + 1) areas) =
    areas-next c.as_slice-area-items.result.now areas i area c.as_slice-area-items.ensures c.loop-area-test.true c.area-item.is in
    let so = subst (TextSoFar _ _ _ _ (listing_text (image_of_loaded c.args.loaded.now))) next c.loop-area.invariant in
    rw (p.1, p.2) (TextSoFar-stops (Unit {0}) (Unit {0}) _ _ _ _ _ _ _ _ (areas_lines (drop (i + 1) areas)) c.in_err-write_area.field-0.0 so c.in_err-write_area.ensures)

pub loop-area-preserved : goal.loop-area-preserved
loop-area-preserved g c =
    let areas = c.args.loaded.now.areas in
    let i = c.loop-area.area-index in
    let area = c.area-item.result in
    let next : areas_lines (drop i areas) ≡ area_lines area ++ areas_lines (drop (i + 1) areas) =
    areas-next c.as_slice-area-items.result.now areas i area c.as_slice-area-items.ensures c.loop-area-test.true c.area-item.is in
    let so = subst (TextSoFar _ _ _ _ (listing_text (image_of_loaded c.args.loaded.now))) next c.loop-area.invariant in
    TextSoFar-next _ _ _ _ _ _ _ _ (areas_lines (drop (i + 1) areas)) c.in_ok-write_area.field-0 so c.in_ok-write_area.ensures
