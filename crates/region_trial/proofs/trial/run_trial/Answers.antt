use Rattle.std.proofs.Common.{◌+◌, ◌-◌, List, arith, refl, ap, ◌∙◌, sym, subst}
use Rattle.guest_model.specs.Image.{start_of}
use Rattle.rv32_law.proofs.Starts.{start-is-guest}
use Rattle.elf32_loader.specs.LoadedImage.{image_of_loaded}
use Rattle.track_state.specs.Views.{view_of}
use Rattle.region_ledger.specs.declared.row.Row.{Row}
use Rattle.region_trial.specs.Regions.{Passes, Finishes, Steps}
use Rattle.region_trial.proofs.OnTrials.{SoFar, so_far-first, so_far-next, trial-is}
use Rattle.region_trial.proofs.trial.run_trial.Goals as goal

pub loop-rows-init : goal.loop-rows-init
loop-rows-init c =
    subst (λ rows. SoFar c.args.input.now (start_of (image_of_loaded c.args.loaded.now)) c.args.budget c.args.budget 0 rows (view_of c.in_ok-track.track)) (sym c.new-rows.ensures.items)
    (so_far-first c.args.input.now _ c.args.budget c.args.budget _
    (start-is-guest c.args.input.now c.args.loaded.now.entry c.args.loaded.now.areas c.args.loaded.now.heap c.args.loaded.now.layout)
    (omega arith) c.in_ok-track.ensures)

pub loop-rows-preserved : goal.loop-rows-preserved
loop-rows-preserved c =
    let first = start_of (image_of_loaded c.args.loaded.now) in
    let old = view_of c.loop-rows.track in
    let region = c.in-Region.region in
    let new = view_of c.in_ok-track-in-Region.track in
    let step = subst (λ step. Steps c.args.input.now old.start c.loop-rows.at (c.args.budget - c.loop-rows.at) c.len.result step old.budget) c.in-Region.is c.in_ok-region.ensures in
    let passes = subst (λ n. Passes c.args.input.now old.start c.loop-rows.at (c.args.budget - c.loop-rows.at) n region.row (view_of region.original) (view_of region.fast) old.budget) (c.len.ensures ∙ c.loop-rows.rows.ok.0) step in
    subst (λ rows. SoFar c.args.input.now first c.args.budget c.args.budget (region.row.at + region.row.original) rows new) (sym c.in_ok-push-in-Region.ensures.items)
    (so_far-next c.args.input.now first c.args.budget c.args.budget c.loop-rows.at c.loop-rows.rows.items old c.loop-rows.invariant region.row _ _ passes new c.in_ok-track-in-Region.ensures)

pub returns-in-Finished : goal.returns-in-Finished
returns-in-Finished c =
    let old = view_of c.loop-rows.track in
    let step = subst (λ step. Steps c.args.input.now old.start c.loop-rows.at (c.args.budget - c.loop-rows.at) c.len.result step old.budget) c.in-Finished.is c.in_ok-region.ensures in
    let finishes = subst (λ n. Finishes c.args.input.now old.start c.loop-rows.at (c.args.budget - c.loop-rows.at) n c.in-Finished.finished) (c.len.ensures ∙ c.loop-rows.rows.ok.0) step in
    trial-is c.args.input.now (start_of (image_of_loaded c.args.loaded.now)) c.args.budget c.args.budget c.loop-rows.at c.loop-rows.rows.items old c.loop-rows.invariant c.args.loaded.now c.in-Finished.finished _ refl finishes
    (ap (λ (rows : List Row). record { finished = c.in-Finished.finished; rows = rows }) c.from_vec.ensures)
