-- The fields of a board whose oldest region's fast version was given up.
use Rattle.std.proofs.Common.{◌≡◌, ℕ, suc, ◌+◌, ◌≤◌, Bool, true, false, not, ◌&&◌, if◌then◌else◌, List, [], ◌∷◌, ◌++◌, Option, Some, None, is_some, option_map, unwrap_or, find, drop, length, map, set, slice_get, vec_len, vec_capacity, refl, sym, ap, ap₂, ◌∙◌, subst, arith}
use Rattle.std.specs.Prelude.{All}
use Rattle.std.proofs.lemmas.List.{length-map}
use Rattle.std.proofs.lemmas.List.Elements.{All-map}
use Rattle.std.proofs.lemmas.Option.{same_Some}
use Rattle.speculation.specs.declared.history.Entry.TheVariants as E
use Rattle.speculation.specs.declared.tracks.Name.{Name}
use Rattle.speculation.specs.declared.tracks.OpenLoan.{OpenLoan}
use Rattle.speculation.specs.declared.tracks.Kind.TheVariants.{Segment}
use Rattle.speculation.specs.Run.{Mark, Piece, marks, marks_upto}
use Rattle.speculation.specs.Core.{Track as CoreTrack, Region as CoreRegion, over, is_lent, is_named, lead_home, track_point}
use Rattle.speculation.specs.Due.{Judgement as CoreJudgement}
use Rattle.speculation.specs.Effects.{segment_of, dropped_by, drop_loan, drop_loans, dropped_core}
use Rattle.guest_model.specs.MachineState.{MachineState}
use Rattle.guest_model.specs.Rv32.{rv32}
use Rattle.guest_model.specs.declared.difference.Difference.{Difference}
use Rattle.region_ledger.specs.Ledger.{is_kept, judged, ledger_row, ledger_rows}
use Rattle.region_ledger.specs.declared.row.Row.{Row}
use Rattle.seniority_queue.specs.Listing.{LiveNode, Listing, has_key, get, keeping, first_key, through, with_value, IsLive, IsSound}
use Rattle.seniority_queue.specs.declared.key.Key.{Key}
use Rattle.seniority_queue.proofs.KeyLemmas.{has_key-own, get-of_place, with_value-of_place}
use Rattle.speculation_law.proofs.Names.{is_lent-none, count_lent-drop_loans}
use Rattle.speculation_law.proofs.Pieces.{marks_upto-all}
use Rattle.track_state.specs.Views.{TrackView, view_of, core_track}
use Rattle.track_state.specs.Runs.{RunsOver}
use Rattle.track_state.proofs.OnTracks.{runs_from}
use Rattle.track_board.specs.declared.board.Board.TheInside.{Inside}
use Rattle.track_board.specs.declared.due.Due.TheVariants.{Judge}
use Rattle.track_board.specs.declared.due.Judgement.{Judgement}
use Rattle.track_board.specs.declared.loan.Lent.{Lent}
use Rattle.track_board.specs.declared.region.Region.{Region}
use Rattle.track_board.specs.declared.slot.Slot.{Slot}
use Rattle.track_board.specs.declared.slot.Slot.TheVariants.{Home, Away}
use Rattle.track_board.specs.Crossing.{SameHome}
use Rattle.track_board.specs.Discarding.{SlotGoesOn, lent_dropped}
use Rattle.track_board.specs.Value.{Posted, GuestCore, core_of, posted}
use Rattle.track_board.specs.Parts.{SlotStands, RegionStands, RegionsStand, core_loan, core_loans, ready_marks, LoanFinds}
use Rattle.track_board.specs.Settles.{IsDue, due_of}
use Rattle.track_board.specs.Invariant.{view_of_board, home_at, StandsFor}
use Rattle.track_board.proofs.Foundation.{core-seen, stands-sound, own-home, held-home, state-home}
use Rattle.track_board.proofs.Finishes.{IsPushed, pushed-view, pushed-legal}
use Rattle.track_board.proofs.Judged.{IsOldest, core_judgement, judges, regions-are, oldest, original, rows-are, discard-event}
use Rattle.track_board.proofs.Queues.{keeps-changed, loans-kept}
use Rattle.track_board.proofs.ReadyMarks.{ready_marks-push}
use Rattle.track_board.proofs.Spared.{one_if-bound, rows-count, slot-again, bounds}

-- ---- loans

dropped-loan : (row : ℕ) (l : Lent) → core_loan (lent_dropped row l) ≡ drop_loan row (core_loan l)
dropped-loan row l = ap (λ (o : Option ℕ). let x : OpenLoan = record { seat = l.seat; name = l.name; dropped = o } in x) (by-row l.dropped)
  where
    by-row : (o : Option ℕ) → Some (unwrap_or o row) ≡ dropped_by row o
    by-row None = refl
    by-row (Some n) = refl

dropped-loans : (row : ℕ) (ls : List Lent) → core_loans (map (lent_dropped row) ls) ≡ drop_loans row (core_loans ls)
dropped-loans row [] = refl
dropped-loans row (l ∷ ls) = ap₂ (λ (x : OpenLoan) (xs : List OpenLoan). x ∷ xs) (dropped-loan row l) (dropped-loans row ls)

-- no key of a loan that was dropped has to find a region
dropped-keys : (q : Listing Region) (row : ℕ) (ls : List Lent) → All (LoanFinds q) (map (lent_dropped row) ls)
dropped-keys q row ls = All-map (LoanFinds q) (lent_dropped row) ls (λ n x within live normal. absurd (cc))

-- ---- tracks

module _ (input : List ℕ) (limit : ℕ) where
  -- what the original gives away, and how it goes on
  pub record HasGoneOn (t : CoreTrack MachineState) (s : Slot) (given : ℕ × List Piece) : Type 0 where
    pub steps : given.0 ≡ t.own
    pub held : given.1 ≡ t.held
    pub lead : (home : Bool) → home ≡ true → SlotStands input limit s home (segment_of (track_point (rv32 input) t).state)

  has-gone_on : (x y : Slot) (home : Bool) (t : CoreTrack MachineState) (given : ℕ × List Piece) → SlotStands input limit x home t → SlotGoesOn x y given → HasGoneOn t y given
  has-gone_on (Home x) (Home y) home t given h is =
      let v = view_of x in
      record {
        steps = is.steps ∙ sym (own-home input limit x home t h);
        held = is.held ∙ sym (held-home input limit x home t h);
        lead = λ new here. record {
          here = here;
          is = ap core_track is.segment ∙ ap (λ (s : MachineState). segment_of s) (sym (state-home input limit x home t h));
          runs = subst (RunsOver input) (sym is.segment) (runs_from input Segment v h.runs);
          budget = ap (λ (u : TrackView). u.budget) is.segment ∙ h.budget;
        };
      }
  has-gone_on (Home x) (Away n) home t given h is = absurd is
  has-gone_on (Away m) (Home y) home t given h is = absurd is
  has-gone_on (Away m) (Away n) home t given h is = absurd is

-- ---- the board

module _ (i : Inside) (k : GuestCore) (h : StandsFor i k) (v : Posted) (seen : view_of_board i ≡ v) (w : Judgement) (d : IsDue (Some (Judge w)) (due_of v)) where
  abbrev judgement : CoreJudgement MachineState Difference
  judgement = core_judgement i k h v seen w d

  abbrev first : IsOldest i.input.value i.settings.budget (home_at k) i.regions.nodes judgement.region judgement.younger
  first = oldest i k h v seen w d

  first-at : slice_get i.regions.nodes 0 ≡ Some first.node
  first-at = ap (λ (ns : List (LiveNode Region)). slice_get ns 0) first.nodes_are

  module _ (sound : IsSound i.regions) (key : Key) (front : Some key ≡ first_key i.regions.nodes) where
    key-is : key ≡ first.node.key
    key-is = same_Some key first.node.key (front ∙ ap first_key first.nodes_are)

    -- the key finds the oldest region
    pub oldest-found : get i.regions key ≡ Some first.node.value
    oldest-found = ap (get i.regions) key-is ∙ get-of_place i.regions sound 0 first.node first-at

    module _ (q : Listing Region) (r : Region) (is : q ≡ with_value i.regions key r) where
      pub changed-nodes : q.nodes ≡ (record first.node { value = r }) ∷ first.younger
      changed-nodes =
          ap (λ (x : Listing Region). x.nodes) is ∙ ap (λ (x : Key). (with_value i.regions x r).nodes) key-is
          ∙ with_value-of_place i.regions sound 0 first.node first-at r
          ∙ ap (λ (ns : List (LiveNode Region)). set ns 0 (record first.node { value = r })) first.nodes_are

      changed-set : q.nodes ≡ set i.regions.nodes 0 (record first.node { value = r })
      changed-set = changed-nodes ∙ sym (ap (λ (ns : List (LiveNode Region)). set ns 0 (record first.node { value = r })) first.nodes_are)

      key-here : has_key key (record first.node { value = r }) ≡ true
      key-here = ap (λ (x : Key). has_key x (record first.node { value = r })) key-is ∙ has_key-own (record first.node { value = r })

      pub changed-live : IsLive q key
      changed-live =
          ap (λ (ns : List (LiveNode Region)). is_some (option_map (λ (n : LiveNode Region). n.value) (find (has_key key) ns))) changed-nodes
          ∙ ap (λ (t : Bool). is_some (option_map (λ (n : LiveNode Region). n.value) (if t then Some (record first.node { value = r }) else find (has_key key) first.younger))) key-here

      -- without the younger ones
      pub changed-through : through key q.nodes ≡ (record first.node { value = r }) ∷ []
      changed-through =
          ap (through key) changed-nodes
          ∙ ap (λ (t : Bool). (record first.node { value = r }) ∷ (if t then [] else through key first.younger)) key-here

      -- and without the oldest one
      pub cut-made : (q2 q3 : Listing Region) → q2 ≡ keeping q (through key q.nodes) → q3 ≡ keeping q2 (drop 1 q2.nodes) → q3.made ≡ i.regions.made
      cut-made q2 q3 cut popped = ap (λ (x : Listing Region). x.made) popped ∙ ap (λ (x : Listing Region). x.made) cut ∙ ap (λ (x : Listing Region). x.made) is

      cut-nodes : (q2 : Listing Region) → q2 ≡ keeping q (through key q.nodes) → q2.nodes ≡ (record first.node { value = r }) ∷ []
      cut-nodes q2 cut = ap (λ (x : Listing Region). x.nodes) cut ∙ changed-through

      pub popped-none : (q2 q3 : Listing Region) → q2 ≡ keeping q (through key q.nodes) → q3 ≡ keeping q2 (drop 1 q2.nodes) → q3.nodes ≡ []
      popped-none q2 q3 cut popped = ap (λ (x : Listing Region). x.nodes) popped ∙ ap (λ (ns : List (LiveNode Region)). drop 1 ns) (cut-nodes q2 cut)

      pub popped-value : (q2 : Listing Region) (x : Region) → q2 ≡ keeping q (through key q.nodes) → Some x ≡ option_map (λ (n : LiveNode Region). n.value) (slice_get q2.nodes 0) → x ≡ r
      popped-value q2 x cut some = same_Some x r (some ∙ ap (λ (ns : List (LiveNode Region)). option_map (λ (n : LiveNode Region). n.value) (slice_get ns 0)) (cut-nodes q2 cut))

    -- where the original is as before
    pub again-stands : (q : Listing Region) (s : Slot) → q ≡ with_value i.regions key (record first.node.value { normal = s }) → SameHome first.node.value.normal s → StandsFor (record i { regions = q }) k
    again-stands q s is same =
        let input = i.input.value in
        let r : Region = record first.node.value { normal = s } in
        let o = first in
        let here : RegionStands input i.settings.budget (home_at k judgement.region.number) r judgement.region = record {
          number = o.stands.number;
          normal = slot-again input i.settings.budget o.node.value.normal s (home_at k judgement.region.number) judgement.region.normal same o.stands.normal;
          fast = o.stands.fast;
          keeps = o.stands.keeps;
          segment = o.stands.segment;
        } in
        let listed : RegionsStand input i.settings.budget (home_at k) ((record o.node { value = r }) ∷ o.younger) (judgement.region ∷ judgement.younger) = (here, o.rest) in
        let made : q.made ≡ i.regions.made = ap (λ (x : Listing Region). x.made) is in
        let count : length q.nodes ≡ length i.regions.nodes = ap length (changed-nodes q r is) ∙ sym (ap length o.nodes_are) in
        record {
          limits = h.limits;
          guest = h.guest;
          legal = h.legal;
          fields = record {
            base = h.fields.base;
            ready = h.fields.ready;
            rows = h.fields.rows;
            generation = h.fields.generation;
            last = h.fields.last;
            regions = subst (λ (rs : List (CoreRegion MachineState)). RegionsStand input i.settings.budget (home_at k) q.nodes rs) (sym (regions-are i k h v seen w d))
                (subst (λ (ns : List (LiveNode Region)). RegionsStand input i.settings.budget (home_at k) ns (judgement.region ∷ judgement.younger)) (sym (changed-nodes q r is)) listed);
            lead = h.fields.lead;
            loans = h.fields.loans;
            keys = loans-kept i.regions q (keeps-changed i.regions q 0 o.node r first-at refl (changed-set q r is)) i.loans.items h.fields.keys;
            finish = h.fields.finish;
            halted = h.fields.halted;
          };
          room = record { entries = h.room.entries; names = omega (arith, made, count, h.room.names) };
        }

  -- what has been done to the fields
  pub record DroppedFields (j : Inside) (row : Row) (s : Slot) (given : ℕ × List Piece) : Type 0 where
    pub entries : j.entries.items ≡ i.entries.items ++ (E.Discard (vec_len i.rows) ∷ [])
    pub len : vec_len j.entries ≡ vec_len i.entries + 1
    pub room : vec_len i.entries + (vec_len i.loans + 2) ≤ vec_capacity j.entries
    pub capacity : vec_capacity i.entries ≤ vec_capacity j.entries
    pub row_is : ledger_row row ≡ record { number = vec_len i.rows; at = i.base; pc = (view_of (original i k h v seen w d).track).start.regs.pc; original = (view_of (original i k h v seen w d).track).own; judged = judged (w.verdict, w.fast) }
    pub rows : j.rows.items ≡ i.rows.items ++ (row ∷ [])
    pub row_count : vec_len j.rows ≡ vec_len i.rows + 1
    pub goes_on : SlotGoesOn first.node.value.normal s given
    pub lead : j.lead ≡ s
    pub ready : j.ready.items ≡ i.ready.items ++ (record { limit = given.0; held = given.1 } ∷ [])
    pub base : j.base ≡ i.base + given.0
    pub generation : j.generation ≡ i.generation + 1
    pub last : j.last ≡ 0
    pub loans : j.loans.items ≡ map (lent_dropped (vec_len i.rows)) i.loans.items
    pub nodes : j.regions.nodes ≡ []
    pub made : j.regions.made ≡ i.regions.made

  -- the count that the original gives away
  pub given-own : (s : Slot) (given : ℕ × List Piece) → SlotGoesOn first.node.value.normal s given → given.0 ≡ judgement.region.normal.own
  given-own s given is = (has-gone_on i.input.value i.settings.budget first.node.value.normal s (home_at k judgement.region.number) judgement.region.normal given first.stands.normal is).steps

  module _ (dropped : is_kept w.verdict ≡ false) (j : Inside) (row : Row) (s : Slot) (given : ℕ × List Piece) (f : DroppedFields j row s given) where
    discard-pushed : IsPushed i j (E.Discard (length k.rows))
    discard-pushed = record { items = f.entries ∙ ap (λ (n : ℕ). i.entries.items ++ (E.Discard n ∷ [])) (rows-count i k h); len = f.len; capacity = f.capacity }

    pub discard-view : view_of_board (record i { entries = j.entries }) ≡ posted v (E.Discard (length (core_of v).rows))
    discard-view =
        pushed-view i j (E.Discard (length k.rows)) discard-pushed
        ∙ ap₂ (λ (u : Posted) (n : ℕ). posted u (E.Discard n)) seen (ap (λ (x : GuestCore). length x.rows) (sym (core-seen i k v h seen)))

    new-lead_home : lead_home (dropped_core (rv32 i.input.value) k judgement) ≡ true
    new-lead_home =
        let n : Name = record { generation = suc k.generation; region = 0; normal = false } in
        let lent : is_lent n (drop_loans (length k.rows) k.loans) ≡ false = is_lent-none n (drop_loans (length k.rows) k.loans) (count_lent-drop_loans n (length k.rows) k.loans) in
        let lost : k.lost ≡ [] = (stands-sound i k h).good.lost (judges i k h v seen w d).live in
        ap₂ (λ (t : Bool) (ns : List Name). not t && not (is_named n ns)) lent lost

    pub discard-stands : StandsFor
        (record i { base = j.base; ready = j.ready; rows = j.rows; generation = j.generation; last = j.last; regions = j.regions; lead = j.lead; loans = j.loans; entries = j.entries })
        (dropped_core (rv32 i.input.value) k judgement)
    discard-stands =
        let input = i.input.value in
        let r = judgement.region in
        let gone = has-gone_on input i.settings.budget first.node.value.normal s (home_at k r.number) r.normal given first.stands.normal f.goes_on in
        let pieces : marks_upto given.0 given.1 ≡ marks r.normal.held
        = ap₂ marks_upto gone.steps gone.held ∙ marks_upto-all 0 r.normal.own r.normal.own r.normal.held (judges i k h v seen w d).good.numbered (omega arith) in
        let count : vec_len j.loans ≡ vec_len i.loans = omega (arith, j.loans.ok.0, i.loans.ok.0, ap length f.loans, length-map i.loans.items (lent_dropped (vec_len i.rows))) in
        let open_regions : length i.regions.nodes ≤ 32 = (bounds i k h).regions in
        record {
          limits = h.limits;
          guest = h.guest;
          legal = pushed-legal i j (E.Discard (length k.rows)) k (dropped_core (rv32 input) k judgement) discard-pushed h.legal (discard-event i k h v seen w d dropped);
          fields = record {
            base = omega (arith, f.base, gone.steps, h.fields.base);
            ready = ap ready_marks f.ready ∙ ready_marks-push i.ready.items (record { limit = given.0; held = given.1 }) ∙ ap₂ (λ (xs ys : List Mark). xs ++ ys) h.fields.ready pieces;
            rows = ap ledger_rows f.rows ∙ rows-are i k h v seen w d row f.row_is;
            generation = omega (arith, f.generation, h.fields.generation);
            last = f.last;
            regions = subst (λ (ns : List (LiveNode Region)). RegionsStand input i.settings.budget (home_at (dropped_core (rv32 input) k judgement)) ns []) (sym f.nodes) tt;
            lead = subst (λ (x : Slot). SlotStands input i.settings.budget x (lead_home (dropped_core (rv32 input) k judgement)) (segment_of (track_point (rv32 input) r.normal).state)) (sym f.lead)
                (gone.lead (lead_home (dropped_core (rv32 input) k judgement)) new-lead_home);
            loans = ap core_loans f.loans ∙ dropped-loans (vec_len i.rows) i.loans.items ∙ ap₂ drop_loans (rows-count i k h) h.fields.loans;
            keys = subst (λ (ls : List Lent). All (LoanFinds j.regions) ls) (sym f.loans) (dropped-keys j.regions (vec_len i.rows) i.loans.items);
            finish = h.fields.finish;
            halted = h.fields.halted;
          };
          room = record {
            entries = (let one = one_if-bound (not (over k)) in omega (arith, f.len, f.room, count));
            names = omega (arith, f.made, f.row_count, open_regions, ap length f.nodes, h.room.names);
          };
        }
