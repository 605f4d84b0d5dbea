-- The core that a board's fields stand for, and the one that follows an entry.
use Rattle.std.proofs.Common.{◌≡◌, ℕ, ◌+◌, ◌<◌, ◌≤◌, Bool, false, not, ◌||◌, List, [], ◌∷◌, Option, Some, None, is_some, option_map, vec_len, vec_capacity, refl, sym, ap, ap₂, ◌∙◌, subst, arith}
use Rattle.std.specs.Prelude.{unwrap_or}
use Rattle.speculation.specs.declared.tracks.Kind.{Kind}
use Rattle.speculation.specs.declared.tracks.Kind.TheVariants.{Normal, Fast, Segment}
use Rattle.speculation.specs.declared.history.Entry.{Entry}
use Rattle.speculation.specs.Run.{Point}
use Rattle.speculation.specs.Tracks.{meets}
use Rattle.speculation.specs.Core.{Track as CoreTrack, Finished, over, opening, track_point, at_boundary}
use Rattle.speculation.specs.Events.{event, core_run}
use Rattle.guest_model.specs.MachineState.{MachineState}
use Rattle.guest_model.specs.Rv32.{rv32}
use Rattle.guest_model.specs.declared.end.End.{End}
use Rattle.region_ledger.specs.Ledger.{core_finished}
use Rattle.track_state.specs.Views.{view_of, is_at_boundary}
use Rattle.track_state.specs.declared.track.Track.{Track}
use Rattle.rv32_law.proofs.Differences.{exact-rv32}
use Rattle.speculation_law.specs.Sound.{one_if}
use Rattle.speculation_law.specs.Naming.{Sound}
use Rattle.speculation_law.proofs.Soundness.{sound-history, core_run-append}
use Rattle.track_board.specs.Value.{Posted, GuestCore, IsSettings, IsKnown, machine_of, start_state, run_of, core_of, posted}
use Rattle.track_board.specs.Parts.{TrackStands}
use Rattle.track_board.specs.Invariant.{view_of_board, StandsFor}
use Rattle.track_board.specs.declared.board.Board.TheInside.{Inside}

-- the core of entries that lead to one
pub core-legal : (v : Posted) (k : GuestCore) → run_of v ≡ Some k → core_of v ≡ k
unfolding core_of
core-legal v k h = ap (λ (o : Option GuestCore). unwrap_or o (opening (start_state v))) h

pub core-stood : (i : Inside) (k : GuestCore) → StandsFor i k → core_of (view_of_board i) ≡ k
core-stood i k h = core-legal (view_of_board i) k h.legal

-- an entry more that is allowed
pub legal-more : (v : Posted) (e : Entry) (k k2 : GuestCore) → run_of v ≡ Some k → event (machine_of v) v.settings k e ≡ Some k2 → run_of (posted v e) ≡ Some k2
unfolding core_run
legal-more v e k k2 h step =
    core_run-append (machine_of v) v.settings (start_state v) v.entries (e ∷ []) (Some (opening (start_state v)))
    ∙ ap (λ (o : Option GuestCore). core_run (machine_of v) v.settings o (e ∷ [])) h ∙ step

pub posted-core : (v : Posted) (e : Entry) (k k2 : GuestCore) → run_of v ≡ Some k → event (machine_of v) v.settings k e ≡ Some k2 → core_of (posted v e) ≡ k2
posted-core v e k k2 h step = core-legal (posted v e) k2 (legal-more v e k k2 h step)

-- what is known of every board
pub legal-known : (v : Posted) (k : GuestCore) → IsSettings v.settings → run_of v ≡ Some k → IsKnown v
legal-known v k limits legal = record { limits = limits; legal = legal ∙ ap Some (sym (core-legal v k legal)) }

pub known : (i : Inside) (k : GuestCore) → StandsFor i k → IsKnown (view_of_board i)
known i k h = legal-known (view_of_board i) k h.limits h.legal

pub posted-known : (v : Posted) (e : Entry) (k k2 : GuestCore) → IsKnown v → run_of v ≡ Some k → event (machine_of v) v.settings k e ≡ Some k2 → IsKnown (posted v e)
posted-known v e k k2 h legal step = legal-known (posted v e) k2 h.limits (legal-more v e k k2 legal step)

-- all that holds of the core of every legal history
pub stands-sound : (i : Inside) (k : GuestCore) → StandsFor i k → Sound (machine_of (view_of_board i)) i.settings (start_state (view_of_board i)) k
stands-sound i k h =
    sound-history (machine_of (view_of_board i)) i.settings (start_state (view_of_board i)) i.entries.items k
    (exact-rv32 i.input.value (start_state (view_of_board i)) h.guest) h.legal

-- ---- tests

pub is_some-map : {A B : Type 0} (f : A → B) (o : Option A) → is_some (option_map f o) ≡ is_some o
is_some-map f (Some x) = refl
is_some-map f None = refl

pub over-stood : (i : Inside) (k : GuestCore) → StandsFor i k → over k ≡ (is_some i.finish || i.halted)
over-stood i k h =
    ap₂ (λ (o : Option (Finished End)) (t : Bool). is_some o || t) (sym h.fields.finish) (sym h.fields.halted)
    ∙ ap (λ (t : Bool). t || i.halted) (is_some-map core_finished i.finish)

-- there is room for the entry that ends the run
pub room-to_end : (i : Inside) (k : GuestCore) → StandsFor i k → over k ≡ false → vec_len i.entries + 1 ≤ vec_capacity i.entries
room-to_end i k h live =
    let room = h.room.entries in
    let one : one_if (not (over k)) ≡ 1 = ap (λ (t : Bool). one_if (not t)) live in
    omega arith

-- where a loan is out, there is room for its end
pub room-for_loan : (i : Inside) (k : GuestCore) → StandsFor i k → 0 < vec_len i.loans → vec_len i.entries + 1 ≤ vec_capacity i.entries
room-for_loan i k h some = (let room = h.room.entries in omega arith)

-- ---- tracks at home

meets-input : (input : List ℕ) (kind : Kind) (own : ℕ) (s : MachineState) (o : Option End) → meets (rv32 input) kind own s o ≡ meets (rv32 []) kind own s o
meets-input input kind own s (Some e) = refl
meets-input input Normal own s None = refl
meets-input input Fast own s None = refl
meets-input input Segment own s None = refl

module _ (input : List ℕ) (limit : ℕ) (x : Track) (home : Bool) (t : CoreTrack MachineState) (h : TrackStands input limit x home t) where
  pub kind-home : t.kind ≡ (view_of x).kind
  kind-home = ap (λ (u : CoreTrack MachineState). u.kind) (sym h.is)

  pub start-home : t.start ≡ (view_of x).start
  start-home = ap (λ (u : CoreTrack MachineState). u.start) (sym h.is)

  pub own-home : t.own ≡ (view_of x).own
  own-home = ap (λ (u : CoreTrack MachineState). u.own) (sym h.is)

  pub held-home : t.held ≡ (view_of x).held
  held-home = ap (λ (u : CoreTrack MachineState). u.held) (sym h.is)

  -- where it stands
  pub point-home : track_point (rv32 input) t ≡ record { state = (view_of x).state; end = (view_of x).end }
  point-home = ap (track_point (rv32 input)) (sym h.is) ∙ h.runs.at

  pub state-home : (track_point (rv32 input) t).state ≡ (view_of x).state
  state-home = ap (λ (p : Point MachineState End). p.state) point-home

  pub end-home : (track_point (rv32 input) t).end ≡ (view_of x).end
  end-home = ap (λ (p : Point MachineState End). p.end) point-home

  -- whether it stands at its boundary
  pub boundary-home : at_boundary (rv32 input) t ≡ is_at_boundary (view_of x)
  boundary-home =
      ap (at_boundary (rv32 input)) (sym h.is)
      ∙ ap (λ (p : Point MachineState End). meets (rv32 input) (view_of x).kind (view_of x).own p.state p.end) h.runs.at
      ∙ meets-input input (view_of x).kind (view_of x).own (view_of x).state (view_of x).end

-- ---- what contracts see

-- where `v` is what contracts see of these fields
module _ (i : Inside) (k : GuestCore) (v : Posted) (h : StandsFor i k) (seen : view_of_board i ≡ v) where
  pub core-seen : core_of v ≡ k
  core-seen = ap core_of (sym seen) ∙ core-stood i k h

  pub known-seen : IsKnown v
  known-seen = subst IsKnown seen (known i k h)

  pub legal-seen : run_of v ≡ Some k
  legal-seen = ap run_of (sym seen) ∙ h.legal

  pub over-seen : over (core_of v) ≡ (is_some i.finish || i.halted)
  over-seen = ap over core-seen ∙ over-stood i k h
