use Rattle.std.proofs.Common.{◌≤◌, All, drop}
use Rattle.elf32_loader.specs.LoadedImage.{image_of_loaded}
use Rattle.sink_text.proofs.OnTexts.{TextSoFar}
use Rattle.time_points.specs.Points.{view_of}
use Rattle.state_listing.specs.Listing.{states_text, ArePointsOf}
use Rattle.state_listing.proofs.listing.write_states.Given as goal

abbrev pub invariant-loop-request : goal.invariant-loop-request
invariant-loop-request g l = record {
  points : ArePointsOf (image_of_loaded l.loaded) l.input (view_of l.points);
  counts : All (λ q. q.count ≤ (view_of l.points).greatest) l.requests;
  text : TextSoFar (g.O.Sink.contents l.fn.out) (g.O.Sink.contents l.out) (g.O.Sink.faults l.fn.out) (g.O.Sink.faults l.out)
      (states_text (image_of_loaded l.loaded) l.input l.requests) (states_text (image_of_loaded l.loaded) l.input (drop l.request-index l.requests));
}
