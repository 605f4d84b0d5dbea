-- What a judgement that is due says of the fields: the oldest region's original is at home at its boundary.
use Rattle.std.proofs.Common.{◌≡◌, ℕ, ◌+◌, ◌≤◌, Bool, true, false, List, [], ◌∷◌, ◌++◌, Some, None, option_map, slice_get, length, nat_eq, vec_len, refl, sym, ap, ap₂, ◌∙◌, subst, arith}
use Rattle.std.proofs.lemmas.List.{map-append}
use Rattle.std.proofs.lemmas.Option.{none-some, same_Some}
use Rattle.speculation.specs.declared.history.Entry.TheVariants as E
use Rattle.speculation.specs.declared.tracks.Kind.TheVariants.{Normal}
use Rattle.speculation.specs.Verdicts.{Judged, Verdict as CoreVerdict, is_kept}
use Rattle.speculation.specs.Ledger.{Row as CoreRow}
use Rattle.speculation.specs.Core.{Track as CoreTrack, Region as CoreRegion, at_home, normal_name}
use Rattle.speculation.specs.Due.{Judgement as CoreJudgement, Judging, due}
use Rattle.speculation.specs.Effects.{row_of, kept_core, dropped_core, judged_core}
use Rattle.speculation.specs.Events.{event}
use Rattle.speculation.specs.Serial.{row_entry}
use Rattle.guest_model.specs.MachineState.{MachineState}
use Rattle.guest_model.specs.Rv32.{rv32}
use Rattle.guest_model.specs.declared.difference.Difference.{Difference}
use Rattle.region_ledger.specs.Ledger.{core_verdict, is_kept as is_kept_verdict, judged, ledger_row, ledger_rows}
use Rattle.region_ledger.specs.declared.row.Row.{Row}
use Rattle.region_ledger.specs.declared.verdict.Verdict.{Verdict}
use Rattle.region_ledger.specs.declared.verdict.Verdict.TheVariants.{Kept, Differs, Stopped, Late}
use Rattle.seniority_queue.specs.Listing.{LiveNode, first_key}
use Rattle.speculation_law.proofs.Dues.{IsJudged, due-judging, verdict_due-some}
use Rattle.speculation_law.proofs.Events.{Judges, judges-due}
use Rattle.speculation_law.proofs.Naming.{front-home_at}
use Rattle.speculation_law.proofs.SerialSteps.{event-entry_of}
use Rattle.track_state.specs.Views.{view_of, stop_by}
use Rattle.track_state.specs.Transitions.{IsAtBoundary}
use Rattle.track_state.specs.declared.track.Track.{Track}
use Rattle.track_board.specs.declared.board.Board.TheInside.{Inside}
use Rattle.track_board.specs.declared.due.Due.TheVariants.{Judge}
use Rattle.track_board.specs.declared.due.Judgement.{Judgement}
use Rattle.track_board.specs.declared.region.Region.{Region}
use Rattle.track_board.specs.declared.slot.Slot.{Slot}
use Rattle.track_board.specs.declared.slot.Slot.TheVariants.{Home, Away}
use Rattle.track_board.specs.Discarding.{OriginalCloses}
use Rattle.track_board.specs.Value.{Posted, GuestCore, start_state}
use Rattle.track_board.specs.Parts.{TrackStands, SlotStands, RegionStands, RegionsStand}
use Rattle.track_board.specs.Settles.{IsDue, due_of}
use Rattle.track_board.specs.Invariant.{view_of_board, home_at, StandsFor}
use Rattle.track_board.proofs.Foundation.{stands-sound, kind-home, start-home, own-home, boundary-home}
use Rattle.track_board.proofs.DueEvents.{IsJudging, is-judge, kept-verdict}
use Rattle.track_board.proofs.Finishes.{due-stood}
use Rattle.track_board.proofs.Spared.{rows-count}

-- the oldest node and its region
pub record IsOldest (input : List ℕ) (limit : ℕ) (home : ℕ → Bool) (nodes : List (LiveNode Region)) (r : CoreRegion MachineState) (rs : List (CoreRegion MachineState)) : Type 0 where
  pub node : LiveNode Region
  pub younger : List (LiveNode Region)
  pub nodes_are : nodes ≡ node ∷ younger
  pub stands : RegionStands input limit (home r.number) node.value r
  pub rest : RegionsStand input limit home younger rs

oldest-by : (input : List ℕ) (limit : ℕ) (home : ℕ → Bool) (nodes : List (LiveNode Region)) (r : CoreRegion MachineState) (rs : List (CoreRegion MachineState)) → RegionsStand input limit home nodes (r ∷ rs) → IsOldest input limit home nodes r rs
oldest-by input limit home [] r rs h = absurd h
oldest-by input limit home (n ∷ ns) r rs h = record { node = n; younger = ns; nodes_are = refl; stands = h.0; rest = h.1 }

-- the track of a slot that is at home
pub record IsHome (input : List ℕ) (limit : ℕ) (s : Slot) (t : CoreTrack MachineState) : Type 0 where
  pub track : Track
  pub slot : s ≡ Home track
  pub stands : TrackStands input limit track true t

pub slot-home : (input : List ℕ) (limit : ℕ) (s : Slot) (home : Bool) (t : CoreTrack MachineState) → SlotStands input limit s home t → home ≡ true → IsHome input limit s t
slot-home input limit (Home x) home t h here = record { track = x; slot = refl; stands = subst (λ (b : Bool). TrackStands input limit x b t) here h }
slot-home input limit (Away n) home t h here = absurd (let away : home ≡ false = h.away in cc)

kept-core : (input : List ℕ) (i : Inside) (k : GuestCore) (w : CoreJudgement MachineState Difference) (v : Verdict) → is_kept_verdict v ≡ true → judged_core (rv32 input) i.settings k w (core_verdict v) ≡ kept_core (rv32 input) i.settings k w
kept-core input i k w Kept h = refl
kept-core input i k w (Differs x) h = absurd (cc)
kept-core input i k w Stopped h = absurd (cc)
kept-core input i k w Late h = absurd (cc)

dropped-core : (input : List ℕ) (i : Inside) (k : GuestCore) (w : CoreJudgement MachineState Difference) (v : Verdict) → is_kept_verdict v ≡ false → judged_core (rv32 input) i.settings k w (core_verdict v) ≡ dropped_core (rv32 input) k w
dropped-core input i k w Kept h = absurd (cc)
dropped-core input i k w (Differs x) h = refl
dropped-core input i k w Stopped h = refl
dropped-core input i k w Late h = refl

module _ (i : Inside) (k : GuestCore) (h : StandsFor i k) (v : Posted) (seen : view_of_board i ≡ v) (j : Judgement) (d : IsDue (Some (Judge j)) (due_of v)) where
  abbrev judging : IsJudging j (due_of v)
  judging = is-judge j (due_of v) d

  -- the core's judgement
  abbrev pub core_judgement : CoreJudgement MachineState Difference
  core_judgement = judging.judgement

  judged-due : due (rv32 i.input.value) i.settings k ≡ Some (Judging core_judgement)
  judged-due = due-stood i k (Some (Judging core_judgement)) h (ap due_of seen ∙ judging.is)

  is-judged : IsJudged (rv32 i.input.value) k k.regions core_judgement
  is-judged = verdict_due-some (rv32 i.input.value) k k.regions core_judgement (due-judging (rv32 i.input.value) i.settings k core_judgement judged-due).judged

  pub judges : Judges (rv32 i.input.value) i.settings (start_state (view_of_board i)) k core_judgement
  judges = judges-due (rv32 i.input.value) i.settings (start_state (view_of_board i)) k core_judgement (stands-sound i k h).good judged-due

  pub regions-are : k.regions ≡ core_judgement.region ∷ core_judgement.younger
  regions-are = is-judged.open_regions

  pub original-home : at_home k (normal_name k core_judgement.region) ≡ true
  original-home = front-home_at (rv32 i.input.value) i.settings k core_judgement.region core_judgement.younger is-judged.open_regions is-judged.home

  pub oldest : IsOldest i.input.value i.settings.budget (home_at k) i.regions.nodes core_judgement.region core_judgement.younger
  oldest = oldest-by i.input.value i.settings.budget (home_at k) i.regions.nodes core_judgement.region core_judgement.younger
      (subst (λ (rs : List (CoreRegion MachineState)). RegionsStand i.input.value i.settings.budget (home_at k) i.regions.nodes rs) is-judged.open_regions h.fields.regions)

  pub original : IsHome i.input.value i.settings.budget oldest.node.value.normal core_judgement.region.normal
  original = slot-home i.input.value i.settings.budget oldest.node.value.normal (home_at k core_judgement.region.number) core_judgement.region.normal oldest.stands.normal original-home

  -- it stands at its boundary
  pub original-closes : OriginalCloses oldest.node.value.normal
  original-closes =
      let x = original.track in
      let at : IsAtBoundary Normal (view_of x) = record {
        kind = sym (kind-home i.input.value i.settings.budget x true core_judgement.region.normal original.stands) ∙ judges.good.chain.normal.kind;
        stop = ap (λ (b : Bool). stop_by b (view_of x).end (nat_eq (view_of x).own (view_of x).budget)) (sym (boundary-home i.input.value i.settings.budget x true core_judgement.region.normal original.stands) ∙ judges.boundary);
      } in
      subst OriginalCloses (sym original.slot) at

  pub own-is : (view_of original.track).own ≡ core_judgement.region.normal.own
  own-is = sym (own-home i.input.value i.settings.budget original.track true core_judgement.region.normal original.stands)

  -- the row that was made is the core's
  pub row-is : (row : Row) → ledger_row row ≡ record { number = vec_len i.rows; at = i.base; pc = (view_of original.track).start.regs.pc; original = (view_of original.track).own; judged = judged (j.verdict, j.fast) }
      → ledger_row row ≡ row_of (rv32 i.input.value) k core_judgement.region core_judgement.judged
  row-is row made =
      let start : (view_of original.track).start ≡ core_judgement.region.start
      = sym (start-home i.input.value i.settings.budget original.track true core_judgement.region.normal original.stands) ∙ judges.good.chain.normal.start ∙ sym judges.good.chain.start in
      let number : vec_len i.rows ≡ length k.rows = rows-count i k h in
      let code : CoreRow Difference = record { number = vec_len i.rows; at = i.base; pc = (view_of original.track).start.regs.pc; original = (view_of original.track).own; judged = judged (j.verdict, j.fast) } in
      let same : code ≡ row_of (rv32 i.input.value) k core_judgement.region core_judgement.judged
      = λ x. record { number = number x; at = h.fields.base x; pc = (start x).regs.pc; original = own-is x; judged = judging.same x } in
      made ∙ same

  pub rows-are : (row : Row) → ledger_row row ≡ record { number = vec_len i.rows; at = i.base; pc = (view_of original.track).start.regs.pc; original = (view_of original.track).own; judged = judged (j.verdict, j.fast) }
      → ledger_rows (i.rows.items ++ (row ∷ [])) ≡ k.rows ++ (row_of (rv32 i.input.value) k core_judgement.region core_judgement.judged ∷ [])
  rows-are row made =
      map-append ledger_row i.rows.items (row ∷ []) ∙ ap₂ (λ (xs : List (CoreRow Difference)) (r : CoreRow Difference). xs ++ (r ∷ [])) h.fields.rows (row-is row made)

  verdict-is : core_verdict j.verdict ≡ core_judgement.judged.verdict
  verdict-is = ap (λ (x : Judged Difference). x.verdict) judging.same

  kept-is : is_kept core_judgement.judged.verdict ≡ is_kept_verdict j.verdict
  kept-is = ap is_kept (sym verdict-is) ∙ kept-verdict j.verdict

  judged-event : (b : Bool) → is_kept_verdict j.verdict ≡ b
      → event (rv32 i.input.value) i.settings k (row_entry b (length k.rows)) ≡ Some (judged_core (rv32 i.input.value) i.settings k core_judgement (core_verdict j.verdict))
  judged-event b is =
      ap (λ (t : Bool). event (rv32 i.input.value) i.settings k (row_entry t (length k.rows))) (sym (kept-is ∙ is))
      ∙ event-entry_of (rv32 i.input.value) i.settings k (Judging core_judgement) judged-due
      ∙ ap (λ (w : CoreVerdict Difference). Some (judged_core (rv32 i.input.value) i.settings k core_judgement w)) (sym verdict-is)

  pub keep-event : is_kept_verdict j.verdict ≡ true → event (rv32 i.input.value) i.settings k (E.Keep (length k.rows)) ≡ Some (kept_core (rv32 i.input.value) i.settings k core_judgement)
  keep-event is = judged-event true is ∙ ap Some (kept-core i.input.value i k core_judgement j.verdict is)

  pub discard-event : is_kept_verdict j.verdict ≡ false → event (rv32 i.input.value) i.settings k (E.Discard (length k.rows)) ≡ Some (dropped_core (rv32 i.input.value) k core_judgement)
  discard-event is = judged-event false is ∙ ap Some (dropped-core i.input.value i k core_judgement j.verdict is)

  -- the region that is taken out is the oldest
  pub oldest-is : (r : Region) → Some r ≡ option_map (λ (n : LiveNode Region). n.value) (slice_get i.regions.nodes 0) → r ≡ oldest.node.value
  oldest-is r is = same_Some r oldest.node.value (is ∙ ap (λ (ns : List (LiveNode Region)). option_map (λ (n : LiveNode Region). n.value) (slice_get ns 0)) oldest.nodes_are)

  -- there is one
  pub oldest-some : None ≡ option_map (λ (n : LiveNode Region). n.value) (slice_get i.regions.nodes 0) → ⊥
  oldest-some is = none-some oldest.node.value (is ∙ ap (λ (ns : List (LiveNode Region)). option_map (λ (n : LiveNode Region). n.value) (slice_get ns 0)) oldest.nodes_are)

  -- and its original is at home
  pub original-is : (s : Slot) (x : Track) → s ≡ oldest.node.value.normal → s ≡ Home x → x ≡ original.track
  original-is s x is home = (let same : Home x ≡ Home original.track = sym home ∙ is ∙ original.slot in cc)

  pub original-away : (s : Slot) (n : ℕ) → s ≡ oldest.node.value.normal → s ≡ Away n → ⊥
  original-away s n is away = (let same : Away n ≡ Home original.track = sym away ∙ is ∙ original.slot in cc)

  -- its count is within what is left of the budget
  pub original-within : i.base + (view_of original.track).own ≤ i.settings.budget
  original-within = omega (arith, h.fields.base, own-is, judges.within, judges.unspent)

  -- the row was made of the original
  pub row-made : (row : Row) (n : ℕ) (x : Track) → n ≡ vec_len i.rows → x ≡ original.track
      → ledger_row row ≡ record { number = n; at = i.base; pc = (view_of x).start.regs.pc; original = (view_of x).own; judged = judged (j.verdict, j.fast) }
      → ledger_row row ≡ record { number = vec_len i.rows; at = i.base; pc = (view_of original.track).start.regs.pc; original = (view_of original.track).own; judged = judged (j.verdict, j.fast) }
  row-made row n x number same made =
      let code : CoreRow Difference = record { number = n; at = i.base; pc = (view_of x).start.regs.pc; original = (view_of x).own; judged = judged (j.verdict, j.fast) } in
      let rest : code ≡ record { number = vec_len i.rows; at = i.base; pc = (view_of original.track).start.regs.pc; original = (view_of original.track).own; judged = judged (j.verdict, j.fast) }
      = λ y. record { number = number y; at = i.base; pc = (view_of (same y)).start.regs.pc; original = (view_of (same y)).own; judged = judged (j.verdict, j.fast) } in
      made ∙ rest

  -- a queue with an oldest region has its key
  pub oldest-key : None ≡ first_key i.regions.nodes → ⊥
  oldest-key is = none-some oldest.node.key (is ∙ ap first_key oldest.nodes_are)
