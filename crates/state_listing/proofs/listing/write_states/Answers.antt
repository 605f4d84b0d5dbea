use Rattle.std.proofs.Common.{◌+◌, ◌≤◌, All, drop, string_bytes, sym, subst}
use Rattle.std.proofs.lemmas.Result.{err_from_is_err_and}
use Rattle.elf32_loader.specs.LoadedImage.{image_of_loaded}
use Rattle.sink_text.proofs.OnTexts.{TextSoFar, TextSoFar-next, TextSoFar-stops}
use Rattle.time_points.specs.Points.{PointsView}
use Rattle.state_listing.specs.Listing.{states_text, ArePointsOf}
use Rattle.state_listing.proofs.OnStates.{states_next, lines_at}
use Rattle.state_listing.proofs.listing.write_states.Goals as goal

pub returns-in_err-write_made : goal.returns-in_err-write_made
returns-in_err-write_made g c =
    let i = image_of_loaded c.args.loaded.now in
    let p = err_from_is_err_and c.from_residual.result c.from_residual.ensures.1 in
    let so = subst (TextSoFar _ _ _ _ (states_text i c.args.input.now c.args.requests.now)) (states_next i c.args.input.now c.args.requests.now c.loop-request.request-index _ c.loop-request-test.true) c.loop-request.invariant.text in
    let lines = lines_at string_bytes c.lines_of.result _ _ _ _ c.loop-request.invariant.points.start c.lines_of.ensures.lines in
    rw (p.1, p.2) (TextSoFar-stops (Unit {0}) (Unit {0}) _ _ _ _ _ _ _ _ (states_text i c.args.input.now (drop (c.loop-request.request-index + 1) c.args.requests.now)) c.in_err-write_made.field-0.0 so (c.in_err-write_made.ensures _ lines))

pub loop-request-preserved : goal.loop-request-preserved
loop-request-preserved g c =
    let i = image_of_loaded c.args.loaded.now in
    let so = subst (TextSoFar _ _ _ _ (states_text i c.args.input.now c.args.requests.now)) (states_next i c.args.input.now c.args.requests.now c.loop-request.request-index _ c.loop-request-test.true) c.loop-request.invariant.text in
    let lines = lines_at string_bytes c.lines_of.result _ _ _ _ c.loop-request.invariant.points.start c.lines_of.ensures.lines in
    record {
      points = subst (ArePointsOf i c.args.input.now) (sym c.lines_of.ensures.same) c.loop-request.invariant.points;
      counts = subst (λ (v : PointsView). All (λ q. q.count ≤ v.greatest) c.args.requests.now) (sym c.lines_of.ensures.same) c.loop-request.invariant.counts;
      text = TextSoFar-next _ _ _ _ _ _ _ _ (states_text i c.args.input.now (drop (c.loop-request.request-index + 1) c.args.requests.now)) c.in_ok-write_made.field-0 so (c.in_ok-write_made.ensures _ lines);
    }
