use Rattle.std.proofs.Common.{◌-◌, ◌*◌, length}
use Rattle.guest_model.specs.Image.{start_of}
use Rattle.elf32_loader.specs.LoadedImage.{image_of_loaded}
use Rattle.track_state.specs.Views.{view_of}
use Rattle.region_trial.proofs.OnTrials.{SoFar}
use Rattle.sink_text.proofs.OnTexts.{TextSoFar}
use Rattle.region_account.specs.Accounts.{patience}
use Rattle.region_account.specs.Explanation.{explanation}
use Rattle.region_account.proofs.OnExplanation.{left_lines}
use Rattle.region_account.proofs.explanation.write_explanation.Given as goal

abbrev pub invariant-loop-step : goal.invariant-loop-step
invariant-loop-step g l = record {
  so : SoFar l.input (start_of (image_of_loaded l.loaded)) l.budget (patience * l.budget) l.at l.rows.items (view_of l.track);
  text : TextSoFar (g.O.Sink.contents l.fn.out) (g.O.Sink.contents l.out) (g.O.Sink.faults l.fn.out) (g.O.Sink.faults l.out)
      (explanation (image_of_loaded l.loaded) l.input l.budget) (left_lines (image_of_loaded l.loaded) l.input l.budget l.at (length l.rows.items) (view_of l.track).start);
}

abbrev pub decreases-loop-step : goal.decreases-loop-step
decreases-loop-step g l = l.budget - l.at
