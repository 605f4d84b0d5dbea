-- A lead that comes home.
use Rattle.std.proofs.Common.{◌≡◌, ℕ, ◌+◌, Bool, true, false, not, ◌&&◌, List, [], ◌∷◌, ◌++◌, Option, Some, None, is_none, nat_eq, refl, sym, ap, ap₂, ◌∙◌, subst, eq-eqb, arith}
use Rattle.std.proofs.Math.Path.{fun_ext}
use Rattle.std.proofs.lemmas.Bool.{and_from, and_right}
use Rattle.std.proofs.lemmas.Option.{same_Some}
use Rattle.speculation.specs.declared.tracks.Name.{Name}
use Rattle.speculation.specs.declared.tracks.OpenLoan.{OpenLoan}
use Rattle.speculation.specs.declared.history.Entry.{Entry}
use Rattle.speculation.specs.declared.history.Entry.TheVariants as E
use Rattle.speculation.specs.Core.{Track as CoreTrack, over, name_eq, is_lent, is_named, at_home, lead_name, lead_home, find_loan, find_track}
use Rattle.speculation.specs.Events.{event, run_on, slice, end_loan, back_of, back_regions, back_lead, some_if}
use Rattle.speculation.specs.Serial.{slice_of}
use Rattle.guest_model.specs.MachineState.{MachineState}
use Rattle.speculation_law.proofs.Names.{FoundTrack, Original, Lead, find_track-found, is_lent-back, is_lent-found}
use Rattle.speculation_law.proofs.FindLoan.{find_loan-name}
use Rattle.speculation_law.proofs.Happens.{back_core}
use Rattle.track_state.specs.Views.{view_of}
use Rattle.track_state.specs.declared.track.Track.{Track}
use Rattle.track_board.specs.Value.{Posted, GuestCore, machine_of, run_of, core_of, posted}
use Rattle.track_board.specs.Parts.{TrackStands, SlotStands, RegionsStand, core_loan, core_loans, away_own}
use Rattle.track_board.specs.Loans.{HasRunOn, IsTaken}
use Rattle.track_board.specs.Invariant.{view_of_board, StandsFor}
use Rattle.track_board.specs.declared.board.Board.TheInside.{Inside}
use Rattle.track_board.specs.declared.loan.Lent.{Lent}
use Rattle.track_board.specs.declared.slot.Slot.{Slot}
use Rattle.track_board.specs.declared.slot.Slot.TheVariants.{Home, Away}
use Rattle.track_board.proofs.Foundation.{legal-more, core-seen, core-stood, stands-sound, own-home}
use Rattle.track_board.proofs.Lents.{is_lent-ended}
use Rattle.track_board.proofs.Gone.{EndsLoan, loans-core, keys-after}

-- a live loan of a core that isn't over, and its track
pub record LiveLoan (k : GuestCore) (n : Name) (l : OpenLoan) : Type 0 where
  pub found : find_loan n k.loans ≡ Some l
  pub undropped : l.dropped ≡ None
  pub live : over k ≡ false

-- the loan that was taken out is the live one of its name
pub live-taken : (i : Inside) (k : GuestCore) (v : Posted) (n : Name) (l : Lent) (was : OpenLoan) → StandsFor i k → view_of_board i ≡ v → find_loan n (core_loans i.loans.items) ≡ Some (core_loan l)
    → find_loan n (core_of v).loans ≡ Some was → was.dropped ≡ None → over (core_of v) ≡ false → LiveLoan k n (core_loan l)
live-taken i k v n l was h seen taken given undropped live =
    let core : core_of v ≡ k = core-seen i k v h seen in
    let found : find_loan n k.loans ≡ Some (core_loan l) = ap (find_loan n) (sym h.fields.loans) ∙ taken in
    let asked : find_loan n k.loans ≡ Some was = ap (λ (d : GuestCore). find_loan n d.loans) (sym core) ∙ given in
    let same : core_loan l ≡ was = same_Some (core_loan l) was (sym found ∙ asked) in
    record { found = found; undropped = ap (λ (o : OpenLoan). o.dropped) same ∙ undropped; live = ap over (sym core) ∙ live }

-- the track of a live loan comes back after one slice
pub event-back : (v : Posted) (k : GuestCore) (n : Name) (l : OpenLoan) (t : CoreTrack MachineState) → LiveLoan k n l → find_track k n ≡ Some t
    → event (machine_of v) v.settings k (E.Back n (slice (machine_of v) v.settings t)) ≡ Some (back_core (machine_of v) v.settings k n)
unfolding event
event-back v k n l t h track =
    let m = machine_of v in
    let count = slice m v.settings t in
    ap₂ (λ (x : Option OpenLoan) (o : Option (CoreTrack MachineState)). back_of m v.settings k n count x o) h.found track
    ∙ ap (λ (u : Bool). some_if u (back_core m v.settings k n))
    (and_from (is_none l.dropped) (not (over k) && nat_eq count count) (ap (λ (o : Option ℕ). is_none o) h.undropped)
    (and_from (not (over k)) (nat_eq count count) (ap not h.live) (eq-eqb count count refl)))

-- a slot whose track is out knows the track's count
pub away-count : (input : List ℕ) (limit : ℕ) (s : Slot) (home : Bool) (t : CoreTrack MachineState) → SlotStands input limit s home t → home ≡ false → away_own s ≡ t.own
away-count input limit (Home x) home t h away = absurd (let here = h.here in cc)
away-count input limit (Away own) home t h away = h.count

-- a lent track is not at home
pub lent-away : (k : GuestCore) (n : Name) (l : OpenLoan) → find_loan n k.loans ≡ Some l → l.dropped ≡ None → at_home k n ≡ false
lent-away k n l found undropped = ap (λ (t : Bool). not t && not (is_named n k.lost)) (is_lent-found n l k.loans found undropped)

-- and is at home once its loan ended
pub back-home : (i : Inside) (k : GuestCore) (n : Name) (l : OpenLoan) → StandsFor i k → LiveLoan k n l → (not (is_lent n (end_loan n k.loans)) && not (is_named n k.lost)) ≡ true
back-home i k n l h loan =
    let good = (stands-sound i k h).good in
    and_from (not (is_lent n (end_loan n k.loans))) (not (is_named n k.lost))
    (ap not (is_lent-back n l k.loans loan.found loan.undropped (good.once n)))
    (ap (λ (ls : List Name). not (is_named n ls)) (good.lost loan.live))

-- another name's track is where it was
pub other-home : (k : GuestCore) (n x : Name) (l : OpenLoan) → find_loan n k.loans ≡ Some l → name_eq x n ≡ false
    → (not (is_lent x (end_loan n k.loans)) && not (is_named x k.lost)) ≡ at_home k x
other-home k n x l found apart =
    let name : n ≡ l.name = find_loan-name n l k.loans found in
    let other : name_eq x l.name ≡ false = subst (λ (y : Name). name_eq x y ≡ false) name apart in
    ap (λ (t : Bool). not t && not (is_named x k.lost)) (is_lent-ended x n l k.loans found (ap (λ (t : Bool). t && is_none l.dropped) other))

-- ---- the lead

-- the name of a lead has no original
normal-apart : (g r : ℕ) (n : Name) → n.normal ≡ false → name_eq (record { generation = g; region = r; normal = true }) n ≡ false
normal-apart g r n lead = and_right (nat_eq g n.generation) (nat_eq r n.region && n.normal) (and_right (nat_eq r n.region) n.normal lead)

-- what was run out of the board, at the core that the fields stand for
pub ran-here : (i : Inside) (k : GuestCore) (v : Posted) (n : Name) (l : OpenLoan) (x : Track) → StandsFor i k → view_of_board i ≡ v → HasRunOn v n x → LiveLoan k n l
    → (t : CoreTrack MachineState) → find_track k n ≡ Some t
    → TrackStands i.input.value i.settings.budget x true (run_on (machine_of (view_of_board i)) t (slice (machine_of (view_of_board i)) i.settings t))
ran-here i k v n l x h seen ran loan t found =
    subst (λ (u : Posted). HasRunOn u n x) (sym seen) ran l (ap (λ (d : GuestCore). find_loan n d.loans) (core-stood i k h) ∙ loan.found) loan.undropped t
    (ap (λ (d : GuestCore). find_track d n) (core-stood i k h) ∙ found)

-- the entry of a track that came home
pub back-entry : (i : Inside) (k : GuestCore) (v : Posted) (n : Name) (t : CoreTrack MachineState) (xs : List Entry) → StandsFor i k → view_of_board i ≡ v → find_track k n ≡ Some t
    → xs ≡ i.entries.items ++ (E.Back n (slice (machine_of (view_of_board i)) i.settings t) ∷ []) → IsTaken v (record (view_of_board i) { entries = xs }) n
back-entry i k v n t xs h seen found items =
    let m = machine_of (view_of_board i) in
    let count : slice_of m i.settings (find_track (core_of (view_of_board i)) n) ≡ slice m i.settings t
    = ap (slice_of m i.settings) (ap (λ (d : GuestCore). find_track d n) (core-stood i k h) ∙ found) in
    subst (λ (u : Posted). IsTaken u (record (view_of_board i) { entries = xs }) n) seen
    (ap (λ (ys : List Entry). record (view_of_board i) { entries = ys }) items ∙ ap (λ a. posted (view_of_board i) (E.Back n a)) (sym count))

module _ (i : Inside) (k : GuestCore) (n : Name) (l : OpenLoan) (x : Track) (h : StandsFor i k) (loan : LiveLoan k n l) (lead : n.normal ≡ false)
    (ran : (t : CoreTrack MachineState) → find_track k n ≡ Some t → TrackStands i.input.value i.settings.budget x true (run_on (machine_of (view_of_board i)) t (slice (machine_of (view_of_board i)) i.settings t))) where
  -- the lead is the track of this name
  lead-by : (t : CoreTrack MachineState) → find_track k n ≡ Some t → FoundTrack k n t → (n ≡ lead_name k) × (find_track k n ≡ Some k.lead)
  lead-by t is (Original present normal found) = absurd (cc)
  lead-by t is (Lead normal named same) = (named, is ∙ ap (λ (u : CoreTrack MachineState). Some u) (sym same))

  pub lead-found : (n ≡ lead_name k) × (find_track k n ≡ Some k.lead)
  lead-found =
      let live = (stands-sound i k h).named.live n l loan.found loan.undropped in
      lead-by live.0 live.1 (find_track-found k n live.0 live.1)

  abbrev pub taken : ℕ
  taken = slice (machine_of (view_of_board i)) i.settings k.lead

  -- how many instructions it took
  pub lead-count : (view_of x).own ≡ away_own i.lead + taken
  lead-count =
      let away : lead_home k ≡ false = subst (λ (y : Name). at_home k y ≡ false) lead-found.0 (lent-away k n l loan.found loan.undropped) in
      let before : away_own i.lead ≡ k.lead.own = away-count i.input.value i.settings.budget i.lead (lead_home k) k.lead h.fields.lead away in
      let now : k.lead.own + taken ≡ (view_of x).own
      = own-home i.input.value i.settings.budget x true (run_on (machine_of (view_of_board i)) k.lead taken) (ran k.lead lead-found.1) in
      sym now ∙ ap (λ a. a + taken) (sym before)

  abbrev pub lead_back : GuestCore
  lead_back = record k { lead = run_on (machine_of (view_of_board i)) k.lead taken; loans = end_loan n k.loans }

  pub event-lead : event (machine_of (view_of_board i)) i.settings k (E.Back n taken) ≡ Some lead_back
  event-lead =
      event-back (view_of_board i) k n l k.lead loan lead-found.1
      ∙ ap (λ (t : Bool). Some (record k { regions = back_regions (machine_of (view_of_board i)) i.settings t n.region k.regions; lead = back_lead (machine_of (view_of_board i)) i.settings t k.lead; loans = end_loan n k.loans })) lead

  -- the fields after the lead came home
  pub lead-stands : (j : Inside) (y : Lent) → EndsLoan i j n y → j.entries.items ≡ i.entries.items ++ (E.Back n taken ∷ []) → StandsFor (record i { lead = Home x; loans = j.loans; entries = j.entries }) lead_back
  lead-stands j y e items = record {
    limits = h.limits;
    guest = h.guest;
    legal = ap (λ (xs : List Entry). run_of (record (view_of_board i) { entries = xs })) items ∙ legal-more (view_of_board i) (E.Back n taken) k lead_back h.legal event-lead;
    fields = record {
      base = h.fields.base;
      ready = h.fields.ready;
      rows = h.fields.rows;
      generation = h.fields.generation;
      last = h.fields.last;
      regions = subst (λ (f : ℕ → Bool). RegionsStand i.input.value i.settings.budget f i.regions.nodes k.regions)
          (fun_ext (λ number. sym (other-home k n (record { generation = k.generation; region = number; normal = true }) l loan.found (normal-apart k.generation number n lead)))) h.fields.regions;
      lead = subst (λ (t : Bool). TrackStands i.input.value i.settings.budget x t (run_on (machine_of (view_of_board i)) k.lead taken))
          (sym (subst (λ (y : Name). (not (is_lent y (end_loan n k.loans)) && not (is_named y k.lost)) ≡ true) lead-found.0 (back-home i k n l h loan))) (ran k.lead lead-found.1);
      loans = loans-core i j k n y h e;
      keys = keys-after i j k n y h e;
      finish = h.fields.finish;
      halted = h.fields.halted;
    };
    room = record {
      entries = (let before = h.room.entries in let fewer = e.fewer in let more = e.more in let same = e.capacity in omega arith);
      names = h.room.names;
    };
  }
