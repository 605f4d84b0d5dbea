use Rattle.std.proofs.Common.{◌≡◌, ℕ, suc, ◌+◌, ◌-◌, ◌*◌, ◌≤◌, [], ◌∷◌, ◌++◌, length, refl, sym, ap, ap₂, ◌∙◌, subst, length-append, arith}
use Rattle.std.specs.Prelude.{All}
use Rattle.std.proofs.lemmas.Result.{err_from_is_err_and}
use Rattle.speculation.specs.Ledger.{originals}
use Rattle.region_ledger.specs.Ledger.{ledger_rows, totals_of, SavesAtMostAll}
use Rattle.guest_model.specs.Image.{start_of}
use Rattle.guest_model.specs.MachineState.{MachineState}
use Rattle.rv32_law.proofs.Starts.{start-is-guest}
use Rattle.elf32_loader.specs.LoadedImage.{image_of_loaded}
use Rattle.track_state.specs.Views.{TrackView, view_of}
use Rattle.track_state.specs.declared.track.Track.{Track}
use Rattle.region_trial.proofs.OnTrials.{SoFar, so_far-first, so_far-next, at-next, trial-is}
use Rattle.report_text.specs.Reports.{row_line, totals_line, end_line}
use Rattle.sink_text.proofs.OnTexts.{TextSoFar, TextSoFar-first, TextSoFar-next, TextSoFar-stops, TextSoFar-last, WritesText-as}
use Rattle.region_account.specs.Accounts.{patience, account_lines}
use Rattle.region_account.specs.Explanation.{explanation}
use Rattle.region_account.proofs.OnExplanation.{left_lines, lines-first, lines-next, lines-last, summary, has-patience, summary-is, passes-is, finishes-is, track-begun, room-left, part-written}
use Rattle.region_account.proofs.explanation.write_explanation.Goals as goal

pub loop-step-init : goal.loop-step-init
loop-step-init g c =
    let i = image_of_loaded c.args.loaded.now in
    let input = c.args.input.now in
    let v = view_of c.in-Ok.track in
    let text = explanation i input c.args.budget in
    record {
      so = subst (λ rows. SoFar input (start_of i) c.args.budget (patience * c.args.budget) 0 rows v) (sym c.new-rows.ensures.items)
          (so_far-first input (start_of i) c.args.budget (patience * c.args.budget) v
          (start-is-guest input c.args.loaded.now.entry c.args.loaded.now.areas c.args.loaded.now.heap c.args.loaded.now.layout) (omega arith) c.in-Ok.ensures);
      text = subst (TextSoFar _ _ _ _ text)
          (sym (lines-first i input c.args.budget)
          ∙ ap₂ (λ (n : ℕ) (s : MachineState). left_lines i input c.args.budget 0 n s) (sym (ap length c.new-rows.ensures.items)) (sym (ap (λ (t : TrackView). t.start) c.in-Ok.ensures)))
          (TextSoFar-first _ _ text);
    }

pub overflow_sub-budget : goal.overflow_sub-budget
overflow_sub-budget g c = c.loop-step.invariant.so.within

pub next_region-requires-clause-track : goal.next_region-requires-clause-track
next_region-requires-clause-track g c = track-begun _ _ _ _ _ _ _ c.loop-step.invariant.so

pub next_region-requires-clause-guest : goal.next_region-requires-clause-guest
next_region-requires-clause-guest g c = c.loop-step.invariant.so.guest

pub next_region-requires-clause-budget : goal.next_region-requires-clause-budget
next_region-requires-clause-budget g c = room-left _ _ _ _ _ _ _ c.loop-step.invariant.so

pub returns-in_default-next_region : goal.returns-in_default-next_region
returns-in_default-next_region g c = part-written _ _ _ _ _ _ c.loop-step.invariant.text

pub returns-in_default-push : goal.returns-in_default-push
returns-in_default-push g c = part-written _ _ _ _ _ _ c.loop-step.invariant.text

pub write_region-requires-clause-budget : goal.write_region-requires-clause-budget
write_region-requires-clause-budget g c =
    let v = view_of c.loop-step.track in
    let r = c.in-Region.region in
    let p = passes-is c.args.input.now v.start c.loop-step.at (c.args.budget - c.loop-step.at) _ c.len.result c.in-Ok-next_region.step r v.budget (c.len.ensures ∙ c.loop-step.rows.ok.0) c.in-Region.is c.in-Ok-next_region.ensures in
    has-patience (image_of_loaded c.args.loaded.now) c.args.input.now c.args.budget (patience * c.args.budget) c.loop-step.at c.loop-step.rows.items v c.loop-step.invariant.so r.row (view_of r.original) (view_of r.fast) p refl

pub returns-in_err-track-in-Region : goal.returns-in_err-track-in-Region
returns-in_err-track-in-Region g c =
    let p = err_from_is_err_and c.from_residual.result c.from_residual.ensures.1 in
    let i = image_of_loaded c.args.loaded.now in
    let v = view_of c.loop-step.track in
    let r = c.in-Region.region in
    let o = view_of r.original in
    let passes = passes-is c.args.input.now v.start c.loop-step.at (c.args.budget - c.loop-step.at) _ c.len.result c.in-Ok-next_region.step r v.budget (c.len.ensures ∙ c.loop-step.rows.ok.0) c.in-Region.is c.in-Ok-next_region.ensures in
    let text = explanation i c.args.input.now c.args.budget in
    let part = row_line r.row ++ account_lines c.args.input.now o.start o.own r.row.verdict in
    let rest = left_lines i c.args.input.now c.args.budget (r.row.at + r.row.original) (suc (length c.loop-step.rows.items)) o.state in
    let so = subst (TextSoFar _ _ _ _ text) (lines-next i c.args.input.now c.args.budget (patience * c.args.budget) c.loop-step.at c.loop-step.rows.items v c.loop-step.invariant.so r.row o (view_of r.fast) passes) c.loop-step.invariant.text in
    rw (p.1, p.2) (TextSoFar-stops Track (Unit {0}) _ _ _ _ _ _ text part rest c.in_err-track-in-Region.field-0.0 so c.in_err-track-in-Region.ensures.text)

pub loop-step-smaller : goal.loop-step-smaller
loop-step-smaller g c =
    let v = view_of c.loop-step.track in
    let r = c.in-Region.region in
    let passes = passes-is c.args.input.now v.start c.loop-step.at (c.args.budget - c.loop-step.at) _ c.len.result c.in-Ok-next_region.step r v.budget (c.len.ensures ∙ c.loop-step.rows.ok.0) c.in-Region.is c.in-Ok-next_region.ensures in
    let next = at-next c.args.input.now (start_of (image_of_loaded c.args.loaded.now)) c.args.budget (patience * c.args.budget) c.loop-step.at c.loop-step.rows.items v c.loop-step.invariant.so r.row (view_of r.original) (view_of r.fast) passes in
    omega (arith, next.0, next.1)

pub loop-step-preserved : goal.loop-step-preserved
loop-step-preserved g c =
    let i = image_of_loaded c.args.loaded.now in
    let input = c.args.input.now in
    let v = view_of c.loop-step.track in
    let r = c.in-Region.region in
    let o = view_of r.original in
    let w = view_of c.in_ok-track-in-Region.track in
    let rows = c.loop-step.rows.items in
    let passes = passes-is input v.start c.loop-step.at (c.args.budget - c.loop-step.at) _ c.len.result c.in-Ok-next_region.step r v.budget (c.len.ensures ∙ c.loop-step.rows.ok.0) c.in-Region.is c.in-Ok-next_region.ensures in
    let text = explanation i input c.args.budget in
    let part = row_line r.row ++ account_lines input o.start o.own r.row.verdict in
    let at = r.row.at + r.row.original in
    let so = subst (TextSoFar _ _ _ _ text) (lines-next i input c.args.budget (patience * c.args.budget) c.loop-step.at rows v c.loop-step.invariant.so r.row o (view_of r.fast) passes) c.loop-step.invariant.text in
    let size : suc (length rows) ≡ length (rows ++ r.row ∷ []) = omega (arith, length-append rows (r.row ∷ [])) in
    record {
      so = subst (λ xs. SoFar input (start_of i) c.args.budget (patience * c.args.budget) at xs w) (sym c.in-Ok-push.ensures.items)
          (so_far-next input (start_of i) c.args.budget (patience * c.args.budget) c.loop-step.at rows v c.loop-step.invariant.so r.row o (view_of r.fast) passes w c.in_ok-track-in-Region.ensures.track);
      text = subst (TextSoFar _ _ _ _ text)
          (ap₂ (λ (n : ℕ) (s : MachineState). left_lines i input c.args.budget at n s) (size ∙ sym (ap length c.in-Ok-push.ensures.items)) (sym (ap (λ (t : TrackView). t.start) c.in_ok-track-in-Region.ensures.track)))
          (TextSoFar-next _ _ _ _ _ _ text part (left_lines i input c.args.budget at (suc (length rows)) o.state) c.in_ok-track-in-Region.track so c.in_ok-track-in-Region.ensures.text);
    }

pub write_summary-requires-clause-inside : goal.write_summary-requires-clause-inside
write_summary-requires-clause-inside g c =
    let l = c.args.loaded.now in
    let input = c.args.input.now in
    let v = view_of c.loop-step.track in
    let f = c.in-Finished.finished in
    let rows = c.loop-step.rows.items in
    let finishes = finishes-is input v.start c.loop-step.at (c.args.budget - c.loop-step.at) _ c.len.result c.in-Ok-next_region.step f v.budget (c.len.ensures ∙ c.loop-step.rows.ok.0) c.in-Finished.is c.in-Ok-next_region.ensures in
    let trial = trial-is input (start_of (image_of_loaded l)) c.args.budget (patience * c.args.budget) c.loop-step.at rows v c.loop-step.invariant.so l f (record { finished = f; rows = rows }) refl finishes refl in
    subst (λ rs. originals (ledger_rows rs) ≤ f.count) (sym c.as_slice.ensures.value) trial.inside

pub write_summary-requires-clause-saves : goal.write_summary-requires-clause-saves
write_summary-requires-clause-saves g c =
    let l = c.args.loaded.now in
    let input = c.args.input.now in
    let v = view_of c.loop-step.track in
    let f = c.in-Finished.finished in
    let rows = c.loop-step.rows.items in
    let finishes = finishes-is input v.start c.loop-step.at (c.args.budget - c.loop-step.at) _ c.len.result c.in-Ok-next_region.step f v.budget (c.len.ensures ∙ c.loop-step.rows.ok.0) c.in-Finished.is c.in-Ok-next_region.ensures in
    let trial = trial-is input (start_of (image_of_loaded l)) c.args.budget (patience * c.args.budget) c.loop-step.at rows v c.loop-step.invariant.so l f (record { finished = f; rows = rows }) refl finishes refl in
    subst (λ rs. All SavesAtMostAll rs) (sym c.as_slice.ensures.value) trial.saves

pub returns-in-Finished : goal.returns-in-Finished
returns-in-Finished g c =
    let l = c.args.loaded.now in
    let input = c.args.input.now in
    let v = view_of c.loop-step.track in
    let f = c.in-Finished.finished in
    let rows = c.loop-step.rows.items in
    let finishes = finishes-is input v.start c.loop-step.at (c.args.budget - c.loop-step.at) _ c.len.result c.in-Ok-next_region.step f v.budget (c.len.ensures ∙ c.loop-step.rows.ok.0) c.in-Finished.is c.in-Ok-next_region.ensures in
    let trial = trial-is input (start_of (image_of_loaded l)) c.args.budget (patience * c.args.budget) c.loop-step.at rows v c.loop-step.invariant.so l f (record { finished = f; rows = rows }) refl finishes refl in
    let i = image_of_loaded l in
    let text = explanation i input c.args.budget in
    let so = subst (TextSoFar _ _ _ _ text) (lines-last i input c.args.budget (patience * c.args.budget) c.loop-step.at rows v c.loop-step.invariant.so f finishes) c.loop-step.invariant.text in
    let same = ap (λ rs. totals_line (totals_of rs f.count) ++ end_line f.end) c.as_slice.ensures.value ∙ summary-is l input c.args.budget (record { finished = f; rows = rows }) trial in
    let written = WritesText-as {T = Unit {0}} (g.O.Sink.contents c.loop-step.out) (g.O.Sink.contents c.write_summary.new.out) (g.O.Sink.faults c.loop-step.out) (g.O.Sink.faults c.write_summary.new.out) _ (summary i input c.args.budget) c.write_summary.result same c.write_summary.ensures in
    TextSoFar-last (Unit {0}) _ _ _ _ _ _ text (summary i input c.args.budget) c.write_summary.result so written
