-- The fields of a board whose verified bytes were handed out.
use Rattle.std.proofs.Common.{◌≡◌, ℕ, ◌+◌, ◌-◌, ◌^◌, ◌<◌, ◌≤◌, min, Bool, true, false, not, ◌==◌, if◌then◌else◌, List, [], ◌∷◌, ◌++◌, Some, None, length, nat_eq, nat_lt, set, slice_get, vec_len, vec_capacity, refl, sym, ap, ap₂, ◌∙◌, subst, length-append, eq-eqb, eqb-true, arith}
use Rattle.std.proofs.lemmas.Bool.{and_from, lt-ltb}
use Rattle.std.proofs.lemmas.Option.{same_Some}
use Rattle.speculation.specs.declared.history.Entry.TheVariants as E
use Rattle.speculation.specs.declared.history.Settings.{Settings}
use Rattle.speculation.specs.Run.{Mark, marks_upto}
use Rattle.speculation.specs.Core.{Track as CoreTrack, Region as CoreRegion, over, at_home, lead_home, front, front_name, front_home, verified}
use Rattle.speculation.specs.Events.{left_over, released_regions, released_lead, released_by, released_core, some_if, event}
use Rattle.guest_model.specs.MachineState.{MachineState}
use Rattle.guest_model.specs.Rv32.{rv32}
use Rattle.rv32_law.proofs.OutputBounds.{history-bound}
use Rattle.seniority_queue.specs.Listing.{LiveNode, Listing, first_key, get, with_value, IsSound}
use Rattle.seniority_queue.specs.declared.key.Key.{Key}
use Rattle.seniority_queue.proofs.KeyLemmas.{get-of_place, with_value-of_place}
use Rattle.track_state.specs.Views.{TrackView, view_of, core_track}
use Rattle.track_state.specs.Runs.{RunsOver}
use Rattle.track_state.proofs.OnTracks.{runs_left}
use Rattle.track_board.specs.declared.board.Board.TheInside.{Inside}
use Rattle.track_board.specs.declared.ready.Ready.{Ready}
use Rattle.track_board.specs.declared.region.Region.{Region}
use Rattle.track_board.specs.declared.slot.Slot.{Slot}
use Rattle.track_board.specs.declared.slot.Slot.TheVariants.{Home, Away}
use Rattle.track_board.specs.DueTests.{front_slot}
use Rattle.track_board.specs.Releasing.{slot_marks, IsLeftOver, FrontIsLeftOver}
use Rattle.track_board.specs.Value.{Posted, GuestCore, start_state, run_of, posted}
use Rattle.track_board.specs.Parts.{SlotStands, RegionStands, RegionsStand, ready_marks}
use Rattle.track_board.specs.Settles.{verified_of, released_with}
use Rattle.track_board.specs.Invariant.{view_of_board, home_at, StandsFor}
use Rattle.track_board.proofs.DueTests.{front-slot}
use Rattle.track_board.proofs.Finishes.{IsPushed, pushed-view, pushed-legal}
use Rattle.track_board.proofs.Foundation.{core-seen, held-home}
use Rattle.track_board.proofs.Queues.{KeepsNumbers, keeps-changed, keeps-same, loans-kept}
use Rattle.track_board.proofs.Rising.{held-rises}
use Rattle.track_board.proofs.Spared.{one_if-bound}

-- ---- verified bytes

module _ (input : List ℕ) (limit : ℕ) where
  -- what the front holds of them
  marks-held : (left : ℕ) (s : Slot) (home : Bool) (t : CoreTrack MachineState) → SlotStands input limit s home t → slot_marks left s ≡ (if home then marks_upto left t.held else [])
  marks-held left (Home x) home t h =
      ap (marks_upto left) (sym (held-home input limit x home t h)) ∙ sym (ap (λ (b : Bool). if b then marks_upto left t.held else []) h.here)
  marks-held left (Away n) home t h = sym (ap (λ (b : Bool). if b then marks_upto left t.held else []) h.away)

module _ (i : Inside) (k : GuestCore) (h : StandsFor i k) where
  pub verified-is : ready_marks i.ready.items ++ slot_marks (i.settings.budget - i.base) (front_slot i.regions.nodes i.lead) ≡ verified i.settings k
  unfolding verified
  verified-is =
      ap₂ (λ (xs ys : List Mark). xs ++ ys) h.fields.ready
      (ap (λ (n : ℕ). slot_marks (i.settings.budget - n) (front_slot i.regions.nodes i.lead)) h.fields.base
      ∙ marks-held i.input.value i.settings.budget (i.settings.budget - k.base) (front_slot i.regions.nodes i.lead) (front_home k) (front k)
      (front-slot i.input.value i.settings.budget k i.regions.nodes k.regions i.lead h.fields.regions h.fields.lead))

  -- there are not too many to be counted
  pub verified-bound : length (verified i.settings k) < 2 ^ 60 + 1
  verified-bound =
      let all = history-bound i.input.value i.settings (start_state (view_of_board i)) i.entries.items k h.guest h.legal in
      let parts = length-append k.released (verified i.settings k) in
      let budget = h.limits.budget in
      omega arith

  -- seen in what contracts see
  pub verified-seen : (v : Posted) → view_of_board i ≡ v → ready_marks i.ready.items ++ slot_marks (i.settings.budget - i.base) (front_slot i.regions.nodes i.lead) ≡ verified_of v
  verified-seen v seen =
      verified-is
      ∙ ap (λ (b : Settings). verified b k) (ap (λ (u : Posted). u.settings) seen)
      ∙ sym (ap (verified v.settings) (core-seen i k v h seen))

  -- a count of two parts that stays below a bound
  pub verified-count : (v : Posted) → view_of_board i ≡ v → min (min (length (ready_marks i.ready.items)) (2 ^ 64 - 1) + length (slot_marks (i.settings.budget - i.base) (front_slot i.regions.nodes i.lead))) (2 ^ 64 - 1) ≡ length (verified_of v)
  verified-count v seen =
      let whole = ap length (verified-seen v seen) in
      let parts = length-append (ready_marks i.ready.items) (slot_marks (i.settings.budget - i.base) (front_slot i.regions.nodes i.lead)) in
      let bound = verified-bound in
      let same = ap length verified-is in
      omega arith

  -- what was copied
  pub copied : (v : Posted) → view_of_board i ≡ v → (bytes : List Mark) (xs : List Ready) (n : ℕ) (s : Slot) → bytes ≡ ready_marks xs ++ slot_marks n s
      → xs ≡ i.ready.items → n ≡ i.settings.budget - i.base → s ≡ front_slot i.regions.nodes i.lead → bytes ≡ verified_of v
  copied v seen bytes xs n s is p q r =
      is ∙ ap₂ (λ (x y : List Mark). x ++ y) (ap ready_marks p) (ap₂ slot_marks q r) ∙ verified-seen v seen

  -- and its count
  pub counted : (v : Posted) → view_of_board i ≡ v → (bytes : List Mark) (n : ℕ) → bytes ≡ verified_of v → n ≡ min (length bytes) (2 ^ 64 - 1) → (n ≡ length bytes) × (n ≡ length (verified i.settings k))
  counted v seen bytes n is count =
      let same = ap length (is ∙ sym (verified-seen v seen) ∙ verified-is) in
      let bound = verified-bound in
      (omega arith, omega arith)

-- ---- what is left

module _ (input : List ℕ) (limit left : ℕ) where
  left-home : (x y : Slot) (home : Bool) (t : CoreTrack MachineState) → home ≡ true → SlotStands input limit x home t → IsLeftOver left x y → SlotStands input limit y home (record t { held = left_over left t.held })
  left-home (Home x) (Home y) home t here h is = record {
    here = h.here;
    is = ap core_track is ∙ ap (λ (u : CoreTrack MachineState). let w : CoreTrack MachineState = record u { held = left_over left u.held } in w) h.is;
    runs = subst (RunsOver input) (sym is) (runs_left input left (view_of x) (held-rises input (view_of x) h.runs) h.runs);
    budget = ap (λ (u : TrackView). u.budget) is ∙ h.budget;
  }
  left-home (Home x) (Away n) home t here h is = absurd is
  left-home (Away m) (Home y) home t here h is = absurd is
  left-home (Away m) (Away n) home t here h is = absurd (let away : home ≡ false = h.away in cc)

  left-away : (x y : Slot) (home : Bool) (t : CoreTrack MachineState) → home ≡ false → SlotStands input limit x home t → IsLeftOver left x y → SlotStands input limit y home t
  left-away (Home x) (Home y) home t away h is = absurd (let here : home ≡ true = h.here in cc)
  left-away (Home x) (Away n) home t away h is = absurd is
  left-away (Away m) (Home y) home t away h is = absurd is
  left-away (Away m) (Away n) home t away h is = record { away = h.away; count = sym is ∙ h.count }

  module _ (k : GuestCore) where
    front-left-home : (ns ns2 : List (LiveNode Region)) (rs : List (CoreRegion MachineState)) (lead lead2 : Slot) → RegionsStand input limit (home_at k) ns rs → SlotStands input limit lead (lead_home k) k.lead
        → at_home k (front_name k rs) ≡ true → FrontIsLeftOver left ns lead ns2 lead2
        → RegionsStand input limit (home_at k) ns2 (released_regions left rs) × SlotStands input limit lead2 (lead_home k) (released_lead left rs k.lead)
    front-left-home [] ns2 [] lead lead2 h l here is =
        (subst (λ (ns : List (LiveNode Region)). RegionsStand input limit (home_at k) ns []) (sym is.0) tt, left-home lead lead2 (lead_home k) k.lead here l is.1)
    front-left-home [] ns2 (r ∷ rs) lead lead2 h l here is = absurd h
    front-left-home (n ∷ ns) ns2 [] lead lead2 h l here is = absurd h
    front-left-home (n ∷ ns) ns2 (r ∷ rs) lead lead2 h l here is =
        let s = is.1.0 in
        let region : RegionStands input limit (home_at k r.number) (record n.value { normal = s }) (record r { normal = record r.normal { held = left_over left r.normal.held } }) = record {
          number = h.0.number;
          normal = left-home n.value.normal s (home_at k r.number) r.normal here h.0.normal is.1.2;
          fast = h.0.fast;
          keeps = h.0.keeps;
          segment = h.0.segment;
        } in
        let all : RegionsStand input limit (home_at k) ((record n { value = record n.value { normal = s } }) ∷ ns) (released_regions left (r ∷ rs)) = (region, h.1) in (
          subst (λ (xs : List (LiveNode Region)). RegionsStand input limit (home_at k) xs (released_regions left (r ∷ rs))) (sym is.1.1) all,
          subst (λ (x : Slot). SlotStands input limit x (lead_home k) k.lead) (sym is.0) l,
        )

    front-left-away : (ns ns2 : List (LiveNode Region)) (rs : List (CoreRegion MachineState)) (lead lead2 : Slot) → RegionsStand input limit (home_at k) ns rs → SlotStands input limit lead (lead_home k) k.lead
        → at_home k (front_name k rs) ≡ false → FrontIsLeftOver left ns lead ns2 lead2
        → RegionsStand input limit (home_at k) ns2 rs × SlotStands input limit lead2 (lead_home k) k.lead
    front-left-away [] ns2 [] lead lead2 h l away is =
        (subst (λ (ns : List (LiveNode Region)). RegionsStand input limit (home_at k) ns []) (sym is.0) tt, left-away lead lead2 (lead_home k) k.lead away l is.1)
    front-left-away [] ns2 (r ∷ rs) lead lead2 h l away is = absurd h
    front-left-away (n ∷ ns) ns2 [] lead lead2 h l away is = absurd h
    front-left-away (n ∷ ns) ns2 (r ∷ rs) lead lead2 h l away is =
        let s = is.1.0 in
        let region : RegionStands input limit (home_at k r.number) (record n.value { normal = s }) r = record {
          number = h.0.number;
          normal = left-away n.value.normal s (home_at k r.number) r.normal away h.0.normal is.1.2;
          fast = h.0.fast;
          keeps = h.0.keeps;
          segment = h.0.segment;
        } in
        let all : RegionsStand input limit (home_at k) ((record n { value = record n.value { normal = s } }) ∷ ns) (r ∷ rs) = (region, h.1) in (
          subst (λ (xs : List (LiveNode Region)). RegionsStand input limit (home_at k) xs (r ∷ rs)) (sym is.1.1) all,
          subst (λ (x : Slot). SlotStands input limit x (lead_home k) k.lead) (sym is.0) l,
        )

-- the keys find what they found, and there are as many regions
left-numbers : (left : ℕ) (a b : Listing Region) (ns : List (LiveNode Region)) (lead lead2 : Slot) → a.nodes ≡ ns → FrontIsLeftOver left ns lead b.nodes lead2 → KeepsNumbers a b
left-numbers left a b [] lead lead2 at is = keeps-same a b (is.0 ∙ sym at)
left-numbers left a b (n ∷ ns) lead lead2 at is =
    let r : Region = record n.value { normal = is.1.0 } in
    keeps-changed a b 0 n r (ap (λ (xs : List (LiveNode Region)). slice_get xs 0) at) refl (is.1.1 ∙ sym (ap (λ (xs : List (LiveNode Region)). set xs 0 (record n { value = r })) at))

left-count : (left : ℕ) (ns ns2 : List (LiveNode Region)) (lead lead2 : Slot) → FrontIsLeftOver left ns lead ns2 lead2 → length ns2 ≡ length ns
left-count left [] ns2 lead lead2 is = ap length is.0
left-count left (n ∷ ns) ns2 lead lead2 is = ap length is.1.1

-- where the oldest region's original is written through its key
pub oldest-left : (left : ℕ) (q : Listing Region) (key : Key) (v : Region) (s lead : Slot) → IsSound q → Some key ≡ first_key q.nodes → Some v ≡ get q key → IsLeftOver left v.normal s
    → FrontIsLeftOver left q.nodes lead (with_value q key (record v { normal = s })).nodes lead
oldest-left left q key v s lead sound front found is = by-nodes q.nodes refl
  where
    by-nodes : (ns : List (LiveNode Region)) → q.nodes ≡ ns → FrontIsLeftOver left ns lead (with_value q key (record v { normal = s })).nodes lead
    by-nodes [] at = absurd (let none : Some key ≡ None = front ∙ ap first_key at in cc)
    by-nodes (n ∷ ns) at =
        let key_is : key ≡ n.key = same_Some key n.key (front ∙ ap first_key at) in
        let place : slice_get q.nodes 0 ≡ Some n = ap (λ (xs : List (LiveNode Region)). slice_get xs 0) at in
        let value : v ≡ n.value = same_Some v n.value (found ∙ ap (get q) key_is ∙ get-of_place q sound 0 n place) in
        let r : Region = record v { normal = s } in
        let nodes : (with_value q key r).nodes ≡ (record n { value = record n.value { normal = s } }) ∷ ns
        = ap (λ (x : Key). (with_value q x r).nodes) key_is ∙ with_value-of_place q sound 0 n place r
        ∙ ap (λ (xs : List (LiveNode Region)). set xs 0 (record n { value = r })) at
        ∙ ap (λ (x : Region). (record n { value = record x { normal = s } }) ∷ ns) value in
        (refl, (s, nodes, subst (λ (x : Region). IsLeftOver left x.normal s) value is))

-- ---- the board

no-bytes : (bytes : List Mark) → (length bytes == 0) ≡ true → bytes ≡ []
no-bytes [] h = refl
no-bytes (m ∷ ms) h = absurd (let none = eqb-true (length (m ∷ ms)) 0 h in omega arith)

left-nil : (xs ys : List Mark) → length (xs ++ ys) ≡ 0 → xs ≡ []
left-nil [] ys h = refl
left-nil (x ∷ xs) ys h = absurd (omega (arith, length-append (x ∷ xs) ys))

-- where nothing was copied, no part has a verified byte
pub ready-none : (bytes : List Mark) (xs ys : List Ready) (n : ℕ) (s : Slot) → bytes ≡ ready_marks xs ++ slot_marks n s → xs ≡ ys → (length bytes == 0) ≡ true → ready_marks ys ≡ []
ready-none bytes xs ys n s is same h =
    ap ready_marks (sym same) ∙ left-nil (ready_marks xs) (slot_marks n s) (ap length (sym is) ∙ ap length (no-bytes bytes h))

-- nothing is verified
pub released-none : (v : Posted) (bytes : List Mark) → (length bytes == 0) ≡ true → v ≡ released_with v bytes
released-none v bytes h = sym (ap (released_with v) (no-bytes bytes h))

pub released-some : (v : Posted) (bytes : List Mark) → (length bytes == 0) ≡ false → released_with v bytes ≡ posted v (E.Release (length bytes))
released-some v [] h = absurd (let none : (length {A = Mark} [] == 0) ≡ true = refl in cc)
released-some v (m ∷ ms) h = refl

pub some-bytes : (bytes : List Mark) → (length bytes == 0) ≡ false → 0 < length bytes
some-bytes [] h = absurd (let none : (length {A = Mark} [] == 0) ≡ true = refl in cc)
some-bytes (m ∷ ms) h = omega arith

module _ (i : Inside) (k : GuestCore) (h : StandsFor i k) where
  release-event : (n : ℕ) → n ≡ length (verified i.settings k) → 0 < n → event (rv32 i.input.value) i.settings k (E.Release n) ≡ Some (released_core i.settings k)
  unfolding event
  release-event n is some =
      ap (λ (t : Bool). some_if t (released_core i.settings k))
      (and_from (nat_lt 0 n) (nat_eq n (length (verified i.settings k))) (lt-ltb 0 n some) (eq-eqb n (length (verified i.settings k)) is))

  -- what has been done to the fields
  pub record ReleasedFields (j : Inside) (n : ℕ) : Type 0 where
    pub entries : j.entries.items ≡ i.entries.items ++ (E.Release n ∷ [])
    pub len : vec_len j.entries ≡ vec_len i.entries + 1
    pub room : vec_len i.entries + (vec_len i.loans + 2) ≤ vec_capacity j.entries
    pub capacity : vec_capacity i.entries ≤ vec_capacity j.entries
    pub ready : j.ready.items ≡ []
    pub front : FrontIsLeftOver (i.settings.budget - i.base) i.regions.nodes i.lead j.regions.nodes j.lead
    pub made : j.regions.made ≡ i.regions.made
    pub count : n ≡ length (verified i.settings k)
    pub some : 0 < n

  module _ (j : Inside) (n : ℕ) (f : ReleasedFields j n) where
    release-pushed : IsPushed i j (E.Release n)
    release-pushed = record { items = f.entries; len = f.len; capacity = f.capacity }

    pub release-view : (v : Posted) → view_of_board i ≡ v → view_of_board (record i { entries = j.entries }) ≡ posted v (E.Release n)
    release-view v seen = pushed-view i j (E.Release n) release-pushed ∙ ap (λ (u : Posted). posted u (E.Release n)) seen

    front-left : FrontIsLeftOver (i.settings.budget - k.base) i.regions.nodes i.lead j.regions.nodes j.lead
    front-left = subst (λ (m : ℕ). FrontIsLeftOver (i.settings.budget - m) i.regions.nodes i.lead j.regions.nodes j.lead) h.fields.base f.front

    stands-by : (b : Bool) → front_home k ≡ b → run_of (view_of_board (record i { entries = j.entries })) ≡ Some (released_by b (i.settings.budget - k.base) k (verified i.settings k))
        → StandsFor (record i { ready = j.ready; regions = j.regions; lead = j.lead; entries = j.entries }) (released_by b (i.settings.budget - k.base) k (verified i.settings k))
    stands-by true here legal =
        let left = front-left-home i.input.value i.settings.budget (i.settings.budget - k.base) k i.regions.nodes j.regions.nodes k.regions i.lead j.lead h.fields.regions h.fields.lead here front-left in
        record {
          limits = h.limits;
          guest = h.guest;
          legal = legal;
          fields = record {
            base = h.fields.base;
            ready = ap ready_marks f.ready;
            rows = h.fields.rows;
            generation = h.fields.generation;
            last = h.fields.last;
            regions = left.0;
            lead = left.1;
            loans = h.fields.loans;
            keys = loans-kept i.regions j.regions (left-numbers (i.settings.budget - i.base) i.regions j.regions i.regions.nodes i.lead j.lead refl f.front) i.loans.items h.fields.keys;
            finish = h.fields.finish;
            halted = h.fields.halted;
          };
          room = record {
            entries = (let one = one_if-bound (not (over k)) in omega (arith, f.len, f.room));
            names = omega (arith, f.made, left-count (i.settings.budget - i.base) i.regions.nodes j.regions.nodes i.lead j.lead f.front, h.room.names);
          };
        }
    stands-by false away legal =
        let left = front-left-away i.input.value i.settings.budget (i.settings.budget - k.base) k i.regions.nodes j.regions.nodes k.regions i.lead j.lead h.fields.regions h.fields.lead away front-left in
        record {
          limits = h.limits;
          guest = h.guest;
          legal = legal;
          fields = record {
            base = h.fields.base;
            ready = ap ready_marks f.ready;
            rows = h.fields.rows;
            generation = h.fields.generation;
            last = h.fields.last;
            regions = left.0;
            lead = left.1;
            loans = h.fields.loans;
            keys = loans-kept i.regions j.regions (left-numbers (i.settings.budget - i.base) i.regions j.regions i.regions.nodes i.lead j.lead refl f.front) i.loans.items h.fields.keys;
            finish = h.fields.finish;
            halted = h.fields.halted;
          };
          room = record {
            entries = (let one = one_if-bound (not (over k)) in omega (arith, f.len, f.room));
            names = omega (arith, f.made, left-count (i.settings.budget - i.base) i.regions.nodes j.regions.nodes i.lead j.lead f.front, h.room.names);
          };
        }

    pub release-stands : StandsFor (record i { ready = j.ready; regions = j.regions; lead = j.lead; entries = j.entries }) (released_core i.settings k)
    release-stands = stands-by (front_home k) refl (pushed-legal i j (E.Release n) k (released_core i.settings k) release-pushed h.legal (release-event n f.count f.some))
