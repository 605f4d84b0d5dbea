-- A trial that has come to some state
use Rattle.std.proofs.Common.{◌≡◌, ℕ, suc, ◌+◌, ◌-◌, ◌<◌, ◌≤◌, List, [], ◌∷◌, ◌++◌, length, refl, sym, ap, ap₂, ◌∙◌, subst, append_assoc, append-nil, length-append, arith}
use Rattle.std.specs.Prelude.{All}
use Rattle.std.proofs.lemmas.List.Elements.{All-nil, All-cons}
use Rattle.speculation.specs.declared.tracks.Kind.TheVariants.{Segment}
use Rattle.speculation.specs.Run.{Point, fresh, go, taken}
use Rattle.speculation.specs.Record.{alone}
use Rattle.speculation.specs.Ledger.{ledger, ledger_from}
use Rattle.speculation.proofs.Records.{end-alone, count-alone}
use Rattle.speculation_law.specs.Totals.{RowsWithin, FastWithin, Totalled}
use Rattle.speculation_law.proofs.Totals.{totalled}
use Rattle.guest_model.specs.MachineState.{MachineState}
use Rattle.guest_model.specs.Image.{start_of}
use Rattle.guest_model.specs.Rv32.{rv32}
use Rattle.guest_model.specs.declared.end.End.{End}
use Rattle.rv32_law.specs.GuestStates.{IsGuestState}
use Rattle.elf32_loader.specs.LoadedImage.{image_of_loaded}
use Rattle.elf32_loader.specs.declared.loaded.Loaded.{Loaded}
use Rattle.track_state.specs.Views.{TrackView, begun}
use Rattle.region_ledger.specs.Ledger.{core_finished, core_verdict, ledger_row, ledger_rows, SavesAtMostAll}
use Rattle.region_ledger.specs.declared.row.Row.{Row}
use Rattle.region_ledger.specs.declared.finished.Finished.{Finished}
use Rattle.region_trial.specs.declared.trial.Trial.{Trial}
use Rattle.region_trial.specs.Trials.{IsTrialOf}
use Rattle.region_trial.specs.Regions.{Finishes, Passes}
use Rattle.region_trial.proofs.OnLedgers.{then-go, then-taken}
use Rattle.region_trial.proofs.OnRegions.{closed-own, closed-here, closed-guest}

ledger_rows-push : (rows : List Row) (r : Row) → ledger_rows (rows ++ r ∷ []) ≡ ledger_rows rows ++ ledger_row r ∷ []
ledger_rows-push [] r = refl
ledger_rows-push (x ∷ rows) r = ap (λ rs. ledger_row x ∷ rs) (ledger_rows-push rows r)

saves-row : (r : Row) → FastWithin r.original r.fast (core_verdict r.verdict) → SavesAtMostAll r
saves-row r h = λ kept. subst (λ v. FastWithin r.original r.fast (core_verdict v)) kept h

pub saves-rows : (rows : List Row) → RowsWithin (ledger_rows rows) → All SavesAtMostAll rows
saves-rows [] h = All-nil SavesAtMostAll
saves-rows (r ∷ rows) h = All-cons SavesAtMostAll r rows (saves-row r h.0) (saves-rows rows h.1)

-- The program that starts in `first` has come to the start of the segment v after `at` instructions, and these are the
-- rows so far. Each track may take `room` instructions.
pub record SoFar (input : List ℕ) (first : MachineState) (budget room at : ℕ) (rows : List Row) (v : TrackView) : Type 0 where
  pub track : v ≡ begun Segment v.start room
  pub roomy : budget ≤ room
  pub guest : IsGuestState input v.start
  pub here : go (rv32 input) (fresh first) at ≡ fresh v.start
  pub within : at ≤ budget
  pub rows_are : ledger (rv32 input) first budget ≡ ledger_rows rows ++ ledger_from (rv32 input) (budget - at) v.start (length rows) at

pub so_far-first : (input : List ℕ) (first : MachineState) (budget room : ℕ) (v : TrackView) → IsGuestState input first → budget ≤ room → v ≡ begun Segment first room → SoFar input first budget room 0 [] v
unfolding ledger go
so_far-first input first budget room v guest roomy is =
    subst (λ w. SoFar input first budget room 0 [] w) (sym is)
    (record {
      track = refl;
      roomy = roomy;
      guest = guest;
      here = refl;
      within = omega arith;
      rows_are = let all : budget - 0 ≡ budget = omega arith in sym (ap (λ left. ledger_from (rv32 input) left first 0 0) all);
    })

module _ (input : List ℕ) (first : MachineState) (budget room at : ℕ) (rows : List Row) (v : TrackView) (h : SoFar input first budget room at rows v) where
  module _ (row : Row) (o f : TrackView) (p : Passes input v.start at (budget - at) (length rows) row o f v.budget) where
    pub at-next : (at < row.at + row.original) × (row.at + row.original ≤ budget)
    at-next = (omega (arith, p.opens, p.count, closed-own input o p.original), omega (arith, p.opens, p.within, h.within))

    -- the program at the region's opening call
    pub opened-at : go (rv32 input) (fresh first) row.at ≡ fresh o.start
    opened-at = ap (go (rv32 input) (fresh first)) p.opens ∙ then-go (rv32 input) first v.start at h.here p.before ∙ p.there

    -- and at its closing call
    pub closed-at : go (rv32 input) (fresh first) (row.at + row.original) ≡ fresh o.state
    closed-at = ap (λ n. go (rv32 input) (fresh first) (row.at + n)) (sym p.count) ∙ then-go (rv32 input) first o.start row.at opened-at o.own ∙ closed-here input o p.original

    pub so_far-next : (w : TrackView) → w ≡ begun Segment o.state o.budget → SoFar input first budget room (row.at + row.original) (rows ++ row ∷ []) w
    so_far-next w is =
        let room_is : o.budget ≡ room = p.budget_is ∙ ap (λ t. t.budget) h.track in
        let size : suc (length rows) ≡ length (rows ++ row ∷ []) = omega (arith, length-append rows (row ∷ [])) in
        let left : budget - at - (p.before + row.original) ≡ budget - (row.at + row.original) = omega (arith, p.opens) in
        subst (λ w. SoFar input first budget room (row.at + row.original) (rows ++ row ∷ []) w) (sym (is ∙ ap (λ b. begun Segment o.state b) room_is))
        (record {
          track = refl;
          roomy = h.roomy;
          guest = closed-guest input o p.original;
          here = closed-at;
          within = at-next.1;
          rows_are =
              h.rows_are
              ∙ ap (λ rs. ledger_rows rows ++ rs) (p.rows ∙ ap₂ (λ l n. ledger_row row ∷ ledger_from (rv32 input) l o.state n (row.at + row.original)) left size)
              ∙ sym (append_assoc (ledger_rows rows) (ledger_row row ∷ []) _)
              ∙ ap (λ rs. rs ++ ledger_from (rv32 input) (budget - (row.at + row.original)) o.state (length (rows ++ row ∷ [])) (row.at + row.original)) (sym (ledger_rows-push rows row));
        })

  pub trial-is : (l : Loaded) (f : Finished) (t : Trial) → first ≡ start_of (image_of_loaded l) → Finishes input v.start at (budget - at) (length rows) f → t ≡ record { finished = f; rows = rows } → IsTrialOf l input budget t
  trial-is l f t is p same =
      let whole : at + (budget - at) ≡ budget = omega (arith, h.within) in
      let end : (go (rv32 input) (fresh v.start) (budget - at)).end ≡ (alone (rv32 input) first budget).end
      = ap (λ (p : Point MachineState End). p.end) (sym (then-go (rv32 input) first v.start at h.here (budget - at))) ∙ ap (λ n. (go (rv32 input) (fresh first) n).end) whole ∙ sym (end-alone (rv32 input) first budget) in
      let count : at + taken (rv32 input) (fresh v.start) (budget - at) ≡ (alone (rv32 input) first budget).count
      = sym (then-taken (rv32 input) first v.start at h.here (budget - at)) ∙ ap (taken (rv32 input) (fresh first)) whole ∙ sym (count-alone (rv32 input) first budget) in
      let rows_is : ledger_rows rows ≡ ledger (rv32 input) first budget = sym (append-nil (ledger_rows rows)) ∙ ap (λ rs. ledger_rows rows ++ rs) (sym p.rows) ∙ sym h.rows_are in
      let total : Totalled (alone (rv32 input) first budget).count (ledger_rows rows) = totalled (rv32 input) first budget (ledger_rows rows) ([], append-nil (ledger_rows rows) ∙ rows_is) in
      let finished : core_finished f ≡ record { end = (alone (rv32 input) first budget).end; count = (alone (rv32 input) first budget).count } = p.finished ∙ ap₂ (λ o n. record { end = o; count = n }) end count in
      subst (IsTrialOf l input budget) (sym same)
      (record {
        finished = finished ∙ ap (λ s. record { end = (alone (rv32 input) s budget).end; count = (alone (rv32 input) s budget).count }) is;
        rows = rows_is ∙ ap (λ s. ledger (rv32 input) s budget) is;
        inside = omega (arith, total.regions, ap (λ x. x.count) finished);
        saves = saves-rows rows total.within;
      })
