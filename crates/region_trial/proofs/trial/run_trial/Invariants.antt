use Rattle.std.proofs.Common.{◌-◌}
use Rattle.guest_model.specs.Image.{start_of}
use Rattle.elf32_loader.specs.LoadedImage.{image_of_loaded}
use Rattle.track_state.specs.Views.{view_of}
use Rattle.region_trial.proofs.OnTrials.{SoFar}
use Rattle.region_trial.proofs.trial.run_trial.Given as goal

abbrev pub invariant-loop-rows : goal.invariant-loop-rows
invariant-loop-rows l = SoFar l.input (start_of (image_of_loaded l.loaded)) l.budget l.budget l.at l.rows.items (view_of l.track)

abbrev pub decreases-loop-rows : goal.decreases-loop-rows
decreases-loop-rows l = l.budget - l.at
