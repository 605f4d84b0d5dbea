-- An explanation that is written region by region
use Rattle.std.proofs.Common.{◌≡◌, ℕ, suc, ◌+◌, ◌-◌, ◌*◌, ◌≤◌, List, ◌++◌, length, map, Option, sym, ap, ap₂, ◌∙◌, subst, append_assoc, arith}
use Rattle.speculation.specs.declared.tracks.Kind.TheVariants.{Segment}
use Rattle.speculation.specs.Run.{Point}
use Rattle.speculation.specs.Ledger.{ledger, ledger_from}
use Rattle.guest_model.specs.Image.{Image, program_alone, start_of}
use Rattle.guest_model.specs.MachineState.{MachineState}
use Rattle.guest_model.specs.Rv32.{rv32}
use Rattle.guest_model.specs.declared.end.End.{End}
use Rattle.guest_streams.specs.GuestStreams.{end_of}
use Rattle.elf32_loader.specs.LoadedImage.{image_of_loaded}
use Rattle.elf32_loader.specs.declared.loaded.Loaded.{Loaded}
use Rattle.track_state.specs.Views.{TrackView, view_of, begun}
use Rattle.region_ledger.specs.Ledger.{ledger_row, totals_of}
use Rattle.region_ledger.specs.declared.row.Row.{Row}
use Rattle.region_ledger.specs.declared.finished.Finished.{Finished}
use Rattle.region_trial.specs.declared.region.Region.{Region}
use Rattle.region_trial.specs.declared.region.Step.{Step}
use Rattle.region_trial.specs.declared.region.Step.TheVariants as S
use Rattle.region_trial.specs.Regions.{Finishes, Passes, Steps}
use Rattle.region_trial.specs.Trials.{IsTrialOf}
use Rattle.region_trial.specs.declared.trial.Trial.{Trial}
use Rattle.region_trial.proofs.OnTrials.{SoFar, opened-at}
use Rattle.report_text.specs.Reports.{row_line, totals_line, end_line}
use Rattle.sink_text.specs.TextOnSink.{GotBeginning}
use Rattle.sink_text.proofs.OnTexts.{TextSoFar}
use Rattle.region_account.specs.Accounts.{patience, account_lines}
use Rattle.region_account.specs.Reported.{reported_row, reported_ledger}
use Rattle.region_account.specs.Explanation.{row_lines, rows_lines, explanation}
use Rattle.region_account.proofs.OnReported.{reported_row-back, reported_rows-back, end_of-back}

-- ---- steps of the walk

pub passes-is : (input : List ℕ) (s : MachineState) (at left number n : ℕ) (step : Step) (r : Region) (budget : ℕ) → n ≡ number → step ≡ S.Region r → Steps input s at left n step budget
    → Passes input s at left number r.row (view_of r.original) (view_of r.fast) budget
passes-is input s at left number n step r budget same is h =
    subst (λ k. Passes input s at left k r.row (view_of r.original) (view_of r.fast) budget) same (subst (λ x. Steps input s at left n x budget) is h)

pub finishes-is : (input : List ℕ) (s : MachineState) (at left number n : ℕ) (step : Step) (f : Finished) (budget : ℕ) → n ≡ number → step ≡ S.Finished f → Steps input s at left n step budget
    → Finishes input s at left number f
finishes-is input s at left number n step f budget same is h =
    subst (λ k. Finishes input s at left k f) same (subst (λ x. Steps input s at left n x budget) is h)

module _ (input : List ℕ) (first : MachineState) (budget room at : ℕ) (rows : List Row) (v : TrackView) (h : SoFar input first budget room at rows v) where
  budget-is : room ≡ v.budget
  budget-is = sym (ap (λ (t : TrackView). t.budget) h.track)

  pub track-begun : v ≡ begun Segment v.start v.budget
  track-begun = h.track ∙ ap (begun Segment v.start) budget-is

  pub room-left : budget - at ≤ v.budget
  room-left = omega (arith, h.roomy, budget-is)

-- ---- texts

-- what was written so far is a beginning
pub part-written : (old now : Option (List ℕ)) (faults faults' : ℕ) (text rest : List ℕ) → TextSoFar old now faults faults' text rest → GotBeginning old now text × (faults' ≡ faults)
part-written old now faults faults' text rest so = (record { got = so.got; rest = rest; parts = so.parts; appends = so.appends }, so.calm)

-- the lines behind all rows
abbrev pub summary : Image → List ℕ → ℕ → List ℕ
summary i input budget = totals_line (totals_of (reported_ledger i input budget) (program_alone i input budget).count) ++ end_line (end_of (program_alone i input budget).end)

-- what is left to write once the program is in state s after `at` instructions, and `number` rows were written
abbrev pub left_lines : Image → List ℕ → (budget at number : ℕ) → MachineState → List ℕ
left_lines i input budget at number s = rows_lines input (start_of i) (map reported_row (ledger_from (rv32 input) (budget - at) s number at)) ++ summary i input budget

pub lines-first : (i : Image) (input : List ℕ) (budget : ℕ) → left_lines i input budget 0 0 (start_of i) ≡ explanation i input budget
unfolding explanation ledger
lines-first i input budget =
    let all : budget - 0 ≡ budget = omega arith in
    ap (λ left. rows_lines input (start_of i) (map reported_row (ledger_from (rv32 input) left (start_of i) 0 0)) ++ summary i input budget) all

module _ (i : Image) (input : List ℕ) (budget room at : ℕ) (rows : List Row) (v : TrackView) (h : SoFar input (start_of i) budget room at rows v) where
  module _ (row : Row) (o f : TrackView) (p : Passes input v.start at (budget - at) (length rows) row o f v.budget) where
    -- the lines of the next region, and those behind it
    pub lines-next : left_lines i input budget at (length rows) v.start
        ≡ (row_line row ++ account_lines input o.start o.own row.verdict) ++ left_lines i input budget (row.at + row.original) (suc (length rows)) o.state
    unfolding rows_lines
    lines-next =
        let first = start_of i in
        let left : budget - at - (p.before + row.original) ≡ budget - (row.at + row.original) = omega (arith, p.opens) in
        let rest = λ (l : ℕ). rows_lines input first (map reported_row (ledger_from (rv32 input) l o.state (suc (length rows)) (row.at + row.original))) in
        ap (λ rs. rows_lines input first (map reported_row rs) ++ summary i input budget) p.rows
        ∙ ap (λ (l : ℕ). (row_lines input first (reported_row (ledger_row row)) ++ rest l) ++ summary i input budget) left
        ∙ append_assoc (row_lines input first (reported_row (ledger_row row))) (rest (budget - (row.at + row.original))) (summary i input budget)
        ∙ ap (λ xs. xs ++ (rest (budget - (row.at + row.original)) ++ summary i input budget)) (ap (row_lines input first) (reported_row-back row) ∙ lines-row)
      where
        lines-row : row_lines input (start_of i) row ≡ row_line row ++ account_lines input o.start o.own row.verdict
        lines-row =
            ap (λ (q : Point MachineState End). row_line row ++ account_lines input q.state row.original row.verdict) (opened-at input (start_of i) budget room at rows v h row o f p)
            ∙ ap (λ n. row_line row ++ account_lines input o.start n row.verdict) (sym p.count)

    -- the fast version may be run on
    pub has-patience : room ≡ patience * budget → patience * o.own ≤ o.budget
    has-patience is = omega (arith, p.opens, p.count, p.within, p.budget_is, ap (λ (t : TrackView). t.budget) h.track, is)

  -- no row is left
  pub lines-last : (f : Finished) → Finishes input v.start at (budget - at) (length rows) f → left_lines i input budget at (length rows) v.start ≡ summary i input budget
  unfolding rows_lines
  lines-last f p = ap (λ rs. rows_lines input (start_of i) (map reported_row rs) ++ summary i input budget) p.rows

-- the totals and the end of a trial are the program's
pub summary-is : (l : Loaded) (input : List ℕ) (budget : ℕ) (t : Trial) → IsTrialOf l input budget t
    → totals_line (totals_of t.rows t.finished.count) ++ end_line t.finished.end ≡ summary (image_of_loaded l) input budget
summary-is l input budget t h =
    ap (λ rs. totals_line (totals_of rs t.finished.count) ++ end_line t.finished.end) (sym (reported_rows-back t.rows) ∙ ap (map reported_row) h.rows)
    ∙ ap₂ (λ n e. totals_line (totals_of (reported_ledger (image_of_loaded l) input budget) n) ++ end_line e)
    (ap (λ f. f.count) h.finished) (sym (end_of-back t.finished.end) ∙ ap (λ f. end_of f.end) h.finished)
