-- The fields of a board whose lead has closed the youngest region.
use Rattle.std.proofs.Common.{◌≡◌, ℕ, suc, ◌+◌, ◌≤◌, Bool, true, false, not, if◌then◌else◌, List, [], ◌∷◌, ◌++◌, Option, Some, None, option_map, find, set, slice_get, length, All, vec_len, vec_capacity, nat_eq, refl, sym, ap, ap₂, ◌∙◌, subst, arith}
use Rattle.std.proofs.lemmas.List.Elements.{All-weaker}
use Rattle.speculation.specs.declared.history.Entry.{Entry}
use Rattle.speculation.specs.declared.history.Entry.TheVariants as E
use Rattle.speculation.specs.declared.tracks.Name.{Name}
use Rattle.speculation.specs.declared.tracks.Kind.TheVariants.{Fast, Segment}
use Rattle.speculation.specs.Run.{fresh, go, pieces}
use Rattle.speculation.specs.Core.{Track as CoreTrack, Region as CoreRegion, Part, Open as CoreOpen, Closed as CoreClosed, over, lead_home, lead_name, track_point, at_boundary}
use Rattle.speculation.specs.Due.{Crossing, due}
use Rattle.speculation.specs.Effects.{segment_of, crossed, crossed_core}
use Rattle.speculation.specs.Events.{event}
use Rattle.speculation_law.proofs.SerialSteps.{event-entry_of}
use Rattle.guest_model.specs.MachineState.{MachineState}
use Rattle.guest_model.specs.Rv32.{rv32}
use Rattle.seniority_queue.specs.Listing.{LiveNode, Listing, has_key, get, last_key, with_value, IsSound}
use Rattle.seniority_queue.proofs.KeyLemmas.{get-of_place, with_value-of_place}
use Rattle.seniority_queue.specs.declared.key.Key.{Key}
use Rattle.speculation_law.specs.Facts.{Chain, Tail, LeadAfter}
use Rattle.speculation_law.specs.Sound.{one_if}
use Rattle.speculation_law.proofs.Dues.{CrossingLead, cross_test-true, due-crossing}
use Rattle.track_state.specs.Kept.{flat_state, KeepsStart}
use Rattle.track_state.specs.Views.{TrackView, view_of, begun, core_track, stop_by}
use Rattle.track_state.specs.Runs.{RunsOver}
use Rattle.track_state.specs.declared.track.transitions.Crossed.{Crossed}
use Rattle.track_board.specs.declared.board.Board.TheInside.{Inside}
use Rattle.track_board.specs.declared.due.Due.TheVariants.{Cross}
use Rattle.track_board.specs.declared.loan.Lent.{Lent}
use Rattle.track_board.specs.declared.region.Region.{Region}
use Rattle.track_board.specs.declared.slot.Slot.{Slot}
use Rattle.track_board.specs.declared.slot.Slot.TheVariants.{Home, Away}
use Rattle.track_board.specs.Value.{Posted, GuestCore, start_state, core_of, posted}
use Rattle.track_board.specs.Parts.{SlotStands, RegionsStand, KeyFinds, LoanFinds}
use Rattle.track_board.specs.Settles.{IsDue, due_of}
use Rattle.track_board.specs.Invariant.{view_of_board, home_at, StandsFor}
use Rattle.track_board.specs.Crossing.{LeadCloses, LeadCrossed, closed_region, closed_last}
use Rattle.track_board.proofs.Foundation.{core-seen, stands-sound, kind-home, start-home, own-home, state-home, boundary-home}
use Rattle.track_board.proofs.DueEvents.{is-cross}
use Rattle.track_board.proofs.Finishes.{IsPushed, pushed-view, pushed-legal, due-stood}

-- ---- the youngest region is closed

closed-length : (ns : List (LiveNode Region)) (c : Crossed) → length (closed_last ns c) ≡ length ns
closed-length [] c = refl
closed-length (n ∷ []) c = refl
closed-length (n ∷ (m ∷ ns)) c = ap suc (closed-length (m ∷ ns) c)

-- without a youngest region nothing changes
pub no-youngest : (q : Listing Region) (c : Crossed) → None ≡ last_key q.nodes → q ≡ record q { nodes = closed_last q.nodes c }
no-youngest q c h = ap (λ (ns : List (LiveNode Region)). record q { nodes = ns }) (sym (by-nodes q.nodes h))
  where
    by-nodes : (ns : List (LiveNode Region)) → None ≡ last_key ns → closed_last ns c ≡ ns
    by-nodes [] p = refl
    by-nodes (n ∷ []) p = absurd (cc)
    by-nodes (n ∷ (m ∷ ns)) p = ap (λ (rest : List (LiveNode Region)). n ∷ rest) (by-nodes (m ∷ ns) p)

-- the place of the node with the last key
record IsLastAt (key : Key) (ns : List (LiveNode Region)) : Type 0 where
  pub place : ℕ
  pub node : LiveNode Region
  pub at : slice_get ns place ≡ Some node
  pub is : node.key ≡ key
  pub closed : (c : Crossed) → closed_last ns c ≡ set ns place (record node { value = closed_region node.value c })

last-at : (key : Key) (ns : List (LiveNode Region)) → Some key ≡ last_key ns → IsLastAt key ns
last-at key [] h = absurd (cc)
last-at key (n ∷ []) h = record { place = 0; node = n; at = refl; is = cc; closed = λ c. refl }
last-at key (n ∷ (m ∷ ns)) h =
    let rest = last-at key (m ∷ ns) h in
    record { place = suc rest.place; node = rest.node; at = rest.at; is = rest.is; closed = λ c. ap (λ (xs : List (LiveNode Region)). n ∷ xs) (rest.closed c) }

pub youngest-closed : (q : Listing Region) (key : Key) (v : Region) (c : Crossed) → IsSound q → Some key ≡ last_key q.nodes → Some v ≡ get q key → with_value q key (closed_region v c) ≡ record q { nodes = closed_last q.nodes c }
youngest-closed q key v c sound last found =
    let l = last-at key q.nodes last in
    let here : get q key ≡ Some l.node.value = ap (get q) (sym l.is) ∙ get-of_place q sound l.place l.node l.at in
    let same : v ≡ l.node.value = (let e : Some v ≡ Some l.node.value = found ∙ here in cc) in
    ap (λ (r : Region). with_value q key (closed_region r c)) same
    ∙ ap (λ (k : Key). with_value q k (closed_region l.node.value c)) (sym l.is)
    ∙ ap (λ (ns : List (LiveNode Region)). record q { nodes = ns }) (with_value-of_place q sound l.place l.node l.at (closed_region l.node.value c) ∙ sym (l.closed c))

pub youngest-found : (q : Listing Region) (key : Key) → IsSound q → Some key ≡ last_key q.nodes → None ≡ get q key → ⊥
youngest-found q key sound last none =
    let l = last-at key q.nodes last in
    let here : get q key ≡ Some l.node.value = ap (get q) (sym l.is) ∙ get-of_place q sound l.place l.node l.at in
    cc

-- the keys find what they found
record FindsClosed (key : Key) (ns : List (LiveNode Region)) (number : ℕ) : Type 0 where
  pub node : LiveNode Region
  pub found : find (has_key key) ns ≡ Some node
  pub is : node.value.number ≡ number

closed-finds : (key : Key) (ns : List (LiveNode Region)) (c : Crossed) (n : LiveNode Region) → find (has_key key) ns ≡ Some n → FindsClosed key (closed_last ns c) n.value.number
closed-finds key [] c n h = absurd (cc)
closed-finds key (m ∷ []) c n h = by-test (has_key key m) refl h
  where
    by-test : (b : Bool) → has_key key m ≡ b → (if b then Some m else None) ≡ Some n → FindsClosed key (closed_last (m ∷ []) c) n.value.number
    by-test true p q = record {
      node = record m { value = closed_region m.value c };
      found = ap (λ (t : Bool). if t then Some (record m { value = closed_region m.value c }) else None) p;
      is = ap (λ (x : LiveNode Region). x.value.number) (let same : m ≡ n = cc in same);
    }
    by-test false p q = absurd (cc)
closed-finds key (m ∷ (m2 ∷ ms)) c n h = by-test (closed-finds key (m2 ∷ ms) c n) (has_key key m) refl h
  where
    by-test : (find (has_key key) (m2 ∷ ms) ≡ Some n → FindsClosed key (closed_last (m2 ∷ ms) c) n.value.number) → (b : Bool) → has_key key m ≡ b → (if b then Some m else find (has_key key) (m2 ∷ ms)) ≡ Some n
        → FindsClosed key (closed_last (m ∷ (m2 ∷ ms)) c) n.value.number
    by-test more true p q = record {
      node = m;
      found = ap (λ (t : Bool). if t then Some m else find (has_key key) (closed_last (m2 ∷ ms) c)) p;
      is = ap (λ (x : LiveNode Region). x.value.number) (let same : m ≡ n = cc in same);
    }
    by-test more false p q =
        let rest = more q in
        record {
          node = rest.node;
          found = ap (λ (t : Bool). if t then Some m else find (has_key key) (closed_last (m2 ∷ ms) c)) p ∙ rest.found;
          is = rest.is;
        }

loan-finds : (q : Listing Region) (c : Crossed) (l : Lent) → LoanFinds q l → LoanFinds (record q { nodes = closed_last q.nodes c }) l
loan-finds q c l h live normal =
    let f = h live normal in
    by-node f (find (has_key f.key) q.nodes) refl
  where
    by-node : (f : KeyFinds q l.key l.name.region) (o : Option (LiveNode Region)) → find (has_key f.key) q.nodes ≡ o → KeyFinds (record q { nodes = closed_last q.nodes c }) l.key l.name.region
    by-node f None is = absurd (let no_value : None ≡ Some f.region = sym (ap (λ (o : Option (LiveNode Region)). option_map (λ (n : LiveNode Region). n.value) o) is) ∙ f.found in cc)
    by-node f (Some n) is =
        let value : n.value ≡ f.region = (let e : Some n.value ≡ Some f.region = sym (ap (λ (o : Option (LiveNode Region)). option_map (λ (x : LiveNode Region). x.value) o) is) ∙ f.found in cc) in
        let closed = closed-finds f.key q.nodes c n is in
        record {
          key = f.key;
          given = f.given;
          region = closed.node.value;
          found = ap (λ (o : Option (LiveNode Region)). option_map (λ (x : LiveNode Region). x.value) o) closed.found;
          is = closed.is ∙ ap (λ (r : Region). r.number) value ∙ f.is;
        }

-- what the youngest of these regions needs in order to be closed
abbrev YoungestKeeps : List (CoreRegion MachineState) → Crossed → Type 0
YoungestKeeps [] c = Unit {0}
YoungestKeeps (r ∷ []) c = KeepsStart r.start c.end.value
YoungestKeeps (r ∷ (r2 ∷ rs)) c = YoungestKeeps (r2 ∷ rs) c

module _ (input : List ℕ) (limit : ℕ) (c : Crossed) where
  regions-crossed : (home : ℕ → Bool) (ns : List (LiveNode Region)) (rs : List (CoreRegion MachineState)) (steps : ℕ) (s : MachineState) → c.steps ≡ steps → flat_state c.end.value ≡ s
      → YoungestKeeps rs c → RegionsStand input limit home ns rs → RegionsStand input limit home (closed_last ns c) (crossed rs steps s)
  regions-crossed home [] [] steps s p q keeps h = tt
  regions-crossed home [] (r ∷ rs) steps s p q keeps h = absurd h
  regions-crossed home (n ∷ []) [] steps s p q keeps h = absurd h
  regions-crossed home (n ∷ (m ∷ ns)) [] steps s p q keeps h = absurd h
  regions-crossed home (n ∷ []) (r ∷ (r2 ∷ rs)) steps s p q keeps h = absurd h.1
  regions-crossed home (n ∷ (m ∷ ns)) (r ∷ []) steps s p q keeps h = absurd h.1
  regions-crossed home (n ∷ []) (r ∷ []) steps s p q keeps h = (
    record {
      number = h.0.number;
      normal = h.0.normal;
      fast = ap (λ (u : ℕ). CoreClosed u (flat_state c.end.value)) p ∙ ap (λ (u : MachineState). CoreClosed steps u) q;
      keeps = keeps;
      segment = h.0.segment;
    },
    tt,
  )
  regions-crossed home (n ∷ (m ∷ ns)) (r ∷ (r2 ∷ rs)) steps s p q keeps h = (h.0, regions-crossed home (m ∷ ns) (r2 ∷ rs) steps s p q keeps h.1)

  -- a fast lead starts where the youngest region does
  lead-start : (s : MachineState) (part : Part MachineState) (lead : CoreTrack MachineState) → LeadAfter (rv32 input) s part lead → lead.kind ≡ Fast → lead.start ≡ s
  lead-start s CoreOpen lead h fast = h.start
  lead-start s (CoreClosed k t) lead h fast = absurd (let other : lead.kind ≡ Segment = h.track.kind in cc)

  tail-keeps : (r : CoreRegion MachineState) (rs : List (CoreRegion MachineState)) (lead : CoreTrack MachineState) → Tail (rv32 input) r.start r.part r.segment rs lead → lead.kind ≡ Fast → KeepsStart lead.start c.end.value
      → YoungestKeeps (r ∷ rs) c
  tail-keeps r [] lead h fast keeps = subst (λ (u : MachineState). KeepsStart u c.end.value) (lead-start r.start r.part lead h.lead fast) keeps
  tail-keeps r (r2 ∷ rs) lead h fast keeps = tail-keeps r2 rs lead h.tail fast keeps

  chain-keeps : (s : MachineState) (rs : List (CoreRegion MachineState)) (lead : CoreTrack MachineState) → Chain (rv32 input) s rs lead → lead.kind ≡ Fast → KeepsStart lead.start c.end.value → YoungestKeeps rs c
  chain-keeps s [] lead h fast keeps = tt
  chain-keeps s (r ∷ rs) lead h fast keeps = tail-keeps r rs lead (subst (λ (u : MachineState). Tail (rv32 input) u r.part r.segment rs lead) (sym h.start) h.tail) fast keeps

  -- a segment that has taken no instruction
  begun-runs : (s : MachineState) → s.place ≤ length input → RunsOver input (begun Segment s limit)
  unfolding go pieces
  begun-runs s place = record {
    began = place;
    at = refl;
    place = place;
    last = λ e is. absurd (let none : None ≡ Some e = is in cc);
    held = ([], refl);
  }

  -- what the track says that has crossed
  record HasCrossed (t : CoreTrack MachineState) : Type 0 where
    pub steps : c.steps ≡ t.own
    pub state : flat_state c.end.value ≡ (track_point (rv32 input) t).state
    pub kept : KeepsStart t.start c.end.value

  has-crossed : (x y : Slot) (home : Bool) (t : CoreTrack MachineState) → SlotStands input limit x home t → LeadCrossed x y c → HasCrossed t
  has-crossed (Home x) (Home y) home t h is = record {
    steps = is.steps ∙ sym (own-home input limit x home t h);
    state = is.state ∙ sym (state-home input limit x home t h);
    kept = subst (λ (u : MachineState). KeepsStart u c.end.value) (sym (start-home input limit x home t h)) is.kept;
  }
  has-crossed (Home x) (Away n) home t h is = absurd is
  has-crossed (Away n) (Home y) home t h is = absurd is
  has-crossed (Away n) (Away m) home t h is = absurd is

  lead-crossed : (x y : Slot) (home : Bool) (t : CoreTrack MachineState) → SlotStands input limit x home t → LeadCrossed x y c → SlotStands input limit y home (segment_of (track_point (rv32 input) t).state)
  lead-crossed (Home x) (Home y) home t h is =
      let v = view_of x in
      let same : view_of y ≡ begun Segment v.state limit = is.segment ∙ ap (begun Segment v.state) h.budget in
      record {
        here = h.here;
        is = ap core_track same ∙ ap segment_of (sym (state-home input limit x home t h));
        runs = subst (RunsOver input) (sym same) (begun-runs v.state h.runs.place);
        budget = ap (λ (u : TrackView). u.budget) same;
      }
  lead-crossed (Home x) (Away n) home t h is = absurd is
  lead-crossed (Away n) (Home y) home t h is = absurd is
  lead-crossed (Away n) (Away m) home t h is = absurd is

module _ (input : List ℕ) (limit : ℕ) where
  lead-closes : (x : Slot) (home : Bool) (t : CoreTrack MachineState) → SlotStands input limit x home t → home ≡ true → t.kind ≡ Fast → at_boundary (rv32 input) t ≡ true → LeadCloses x
  lead-closes (Away n) home t h here kind boundary = absurd (let away : home ≡ false = h.away in cc)
  lead-closes (Home x) home t h here kind boundary =
      let v = view_of x in
      record {
        kind = sym (kind-home input limit x home t h) ∙ kind;
        stop = ap (λ (b : Bool). stop_by b v.end (nat_eq v.own v.budget)) (sym (boundary-home input limit x home t h) ∙ boundary);
      }

module _ (i : Inside) (k : GuestCore) (h : StandsFor i k) (d : IsDue (Some Cross) (due_of (view_of_board i))) where
  cross-due : due (rv32 i.input.value) i.settings k ≡ Some Crossing
  cross-due = due-stood i k (Some Crossing) h (is-cross (due_of (view_of_board i)) d)

  crossing : CrossingLead (rv32 i.input.value) k
  crossing = cross_test-true (rv32 i.input.value) k (due-crossing (rv32 i.input.value) i.settings k cross-due).crosses

  -- the lead stands at its boundary
  pub cross-closes : LeadCloses i.lead
  cross-closes = lead-closes i.input.value i.settings.budget i.lead (lead_home k) k.lead h.fields.lead crossing.home crossing.kind crossing.boundary

  cross-event : event (rv32 i.input.value) i.settings k (E.Cross (lead_name k)) ≡ Some (crossed_core (rv32 i.input.value) k)
  cross-event = event-entry_of (rv32 i.input.value) i.settings k Crossing cross-due

  pub cross-name : record { generation = i.generation; region = i.last; normal = false } ≡ lead_name k
  cross-name = ap₂ (λ (g n : ℕ). let name : Name = record { generation = g; region = n; normal = false } in name) h.fields.generation h.fields.last

  -- the entry is in
  pub cross-pushed : (j : Inside) (es : List Entry) (name : Name) → j.entries.items ≡ es ++ (E.Cross name ∷ []) → es ≡ i.entries.items → name ≡ lead_name k
      → vec_len j.entries ≡ vec_len i.entries + 1 → vec_capacity i.entries ≤ vec_capacity j.entries → IsPushed i j (E.Cross (lead_name k))
  cross-pushed j es name items before is len capacity = record {
    items = items ∙ ap₂ (λ (xs : List Entry) (n : Name). xs ++ (E.Cross n ∷ [])) before is;
    len = len;
    capacity = capacity;
  }

  pub cross-view : (j : Inside) (v : Posted) → IsPushed i j (E.Cross (lead_name k)) → view_of_board i ≡ v → view_of_board (record i { entries = j.entries }) ≡ posted v (E.Cross (lead_name (core_of v)))
  cross-view j v pushed seen =
      pushed-view i j (E.Cross (lead_name k)) pushed
      ∙ ap₂ (λ (u : Posted) (n : Name). posted u (E.Cross n)) seen (ap lead_name (sym (core-seen i k v h seen)))

  pub cross-stands : (j : Inside) (c : Crossed) → IsPushed i j (E.Cross (lead_name k)) → LeadCrossed i.lead j.lead c → j.regions ≡ record i.regions { nodes = closed_last i.regions.nodes c }
      → vec_len i.entries + (vec_len i.loans + 2) ≤ vec_capacity j.entries
      → StandsFor (record i { entries = j.entries; lead = j.lead; regions = j.regions }) (crossed_core (rv32 i.input.value) k)
  cross-stands j c pushed lead regions room =
      let input : List ℕ = i.input.value in
      let limit : ℕ = i.settings.budget in
      let found = has-crossed input limit c i.lead j.lead (lead_home k) k.lead h.fields.lead lead in
      let keeps : YoungestKeeps k.regions c = chain-keeps input limit c (go (rv32 input) (fresh (start_state (view_of_board i))) k.base).state k.regions k.lead (stands-sound i k h).good.chain crossing.kind found.kept in
      let closed : RegionsStand input limit (home_at k) (closed_last i.regions.nodes c) (crossed k.regions k.lead.own (track_point (rv32 input) k.lead).state) =
      regions-crossed input limit c (home_at k) i.regions.nodes k.regions k.lead.own (track_point (rv32 input) k.lead).state found.steps found.state keeps h.fields.regions in
      let keys : All (LoanFinds (record i.regions { nodes = closed_last i.regions.nodes c })) i.loans.items =
      All-weaker (LoanFinds i.regions) (LoanFinds (record i.regions { nodes = closed_last i.regions.nodes c })) (loan-finds i.regions c) i.loans.items h.fields.keys in
      record {
        limits = h.limits;
        guest = h.guest;
        legal = pushed-legal i j (E.Cross (lead_name k)) k (crossed_core (rv32 input) k) pushed h.legal cross-event;
        fields = record {
          base = h.fields.base;
          ready = h.fields.ready;
          rows = h.fields.rows;
          generation = h.fields.generation;
          last = h.fields.last;
          regions = subst (λ (q : Listing Region). RegionsStand input limit (home_at k) q.nodes (crossed k.regions k.lead.own (track_point (rv32 input) k.lead).state)) (sym regions) closed;
          lead = lead-crossed input limit c i.lead j.lead (lead_home k) k.lead h.fields.lead lead;
          loans = h.fields.loans;
          keys = subst (λ (q : Listing Region). All (LoanFinds q) i.loans.items) (sym regions) keys;
          finish = h.fields.finish;
          halted = h.fields.halted;
        };
        room = record {
          entries =
              (let live = live-room (over k) in
              let len = pushed.len in
              omega arith);
          names =
              (let names = h.room.names in
              let made : j.regions.made ≡ i.regions.made = ap (λ (q : Listing Region). q.made) regions in
              let count : length j.regions.nodes ≡ length i.regions.nodes = ap (λ (q : Listing Region). length q.nodes) regions ∙ closed-length i.regions.nodes c in
              omega arith);
        };
      }
    where
      live-room : (o : Bool) → one_if (not o) ≤ 1
      live-room true = omega arith
      live-room false = omega arith
