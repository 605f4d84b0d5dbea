-- The fields of a board whose oldest region's fast version was kept.
use Rattle.std.proofs.Common.{◌≡◌, ℕ, ◌+◌, ◌-◌, ◌≤◌, Bool, true, false, not, ◌&&◌, if◌then◌else◌, List, [], ◌∷◌, ◌++◌, Option, Some, None, option_map, find, drop, length, append-nil, vec_len, vec_capacity, refl, sym, ap, ap₂, ◌∙◌, subst, append_assoc, inl, inr, arith}
use Rattle.std.specs.Prelude.{All, is_none}
use Rattle.std.specs.List.{AllByRecursion}
use Rattle.std.proofs.lemmas.Bool.{cases_Bool}
use Rattle.std.proofs.lemmas.Option.{same_Some}
use Rattle.std.proofs.lemmas.List.Elements.{All-from_recursion, recursion_from_All}
use Rattle.speculation.specs.declared.history.Entry.TheVariants as E
use Rattle.speculation.specs.declared.tracks.Name.{Name}
use Rattle.speculation.specs.declared.tracks.OpenLoan.{OpenLoan}
use Rattle.speculation.specs.Run.{Mark, Piece, marks, marks_upto}
use Rattle.speculation.specs.Core.{Between as CoreBetween, Region as CoreRegion, over, name_eq, is_lent, normal_name}
use Rattle.speculation.specs.Due.{Judgement as CoreJudgement}
use Rattle.speculation.specs.Effects.{between_steps, between_marks, kept_core}
use Rattle.guest_model.specs.MachineState.{MachineState}
use Rattle.guest_model.specs.Rv32.{rv32}
use Rattle.guest_model.specs.declared.difference.Difference.{Difference}
use Rattle.region_ledger.specs.Ledger.{is_kept, judged, ledger_row, ledger_rows}
use Rattle.region_ledger.specs.declared.row.Row.{Row}
use Rattle.seniority_queue.specs.Listing.{LiveNode, Listing, has_key, keeping}
use Rattle.speculation_law.specs.Naming.{RegionsWithin}
use Rattle.speculation_law.proofs.LiveTracks.{home-apart}
use Rattle.speculation_law.proofs.Names.{name_eq-refl, name_eq-same}
use Rattle.speculation_law.proofs.Naming.{live-generation}
use Rattle.speculation_law.proofs.Pieces.{marks_upto-all}
use Rattle.track_state.specs.Views.{view_of}
use Rattle.track_board.specs.declared.board.Board.TheInside.{Inside}
use Rattle.track_board.specs.declared.due.Due.TheVariants.{Judge}
use Rattle.track_board.specs.declared.due.Judgement.{Judgement}
use Rattle.track_board.specs.declared.loan.Lent.{Lent}
use Rattle.track_board.specs.declared.ready.Ready.{Ready}
use Rattle.track_board.specs.declared.region.Between.{Between}
use Rattle.track_board.specs.declared.region.Region.{Region}
use Rattle.track_board.specs.Value.{Posted, GuestCore, core_of, posted}
use Rattle.track_board.specs.Parts.{RegionsStand, core_between, core_loan, core_loans, ready_marks, LoanFinds}
use Rattle.track_board.specs.Settles.{IsDue, due_of}
use Rattle.track_board.specs.Invariant.{view_of_board, home_at, StandsFor}
use Rattle.track_board.proofs.Foundation.{core-seen, stands-sound, held-home}
use Rattle.track_board.proofs.Finishes.{IsPushed, pushed-view, pushed-legal}
use Rattle.track_board.proofs.Homes.{lent-loan}
use Rattle.track_board.proofs.Judged.{core_judgement, judges, regions-are, original-home, oldest, original, own-is, rows-are, keep-event}
use Rattle.track_board.proofs.ReadyMarks.{ready_marks-push}
use Rattle.track_board.proofs.Spared.{one_if-bound, rows-count}

-- ---- loans of younger regions

-- the name is of a track of this generation, and not the oldest region's original
pub record IsOther (generation number : ℕ) (n : Name) : Type 0 where
  pub generation_is : n.generation ≡ generation
  pub apart : name_eq (record { generation = generation; region = number; normal = true }) n ≡ false

-- what the names that are lent among these are
abbrev LentAre : ℕ → ℕ → List OpenLoan → Type 0
LentAre generation number ls = (n : Name) → is_lent n ls ≡ true → IsOther generation number n

lent-first : (l : Lent) (ls : List OpenLoan) → l.dropped ≡ None → is_lent l.name (core_loan l ∷ ls) ≡ true
lent-first l ls live = ap₂ (λ (t u : Bool). if t && u then true else is_lent l.name ls) (name_eq-refl l.name) (ap (λ (o : Option ℕ). is_none o) live)

lent-later : (n : Name) (l : Lent) (ls : List OpenLoan) → is_lent n ls ≡ true → is_lent n (core_loan l ∷ ls) ≡ true
lent-later n l ls h = later (name_eq n l.name && is_none l.dropped)
  where
    later : (t : Bool) → (if t then true else is_lent n ls) ≡ true
    later true = refl
    later false = h

-- the key of a younger region's loan finds it still
younger-finds : (node : LiveNode Region) (younger : List (LiveNode Region)) (q q2 : Listing Region) (generation number : ℕ) (l : Lent) → q.nodes ≡ node ∷ younger → q2.nodes ≡ younger → node.value.number ≡ number
    → (l.dropped ≡ None → IsOther generation number l.name) → LoanFinds q l → LoanFinds q2 l
younger-finds node younger q q2 generation number l old new named other finds = λ live normal.
    (let f = finds live normal in
    let o = other live in
    let found : option_map (λ (n : LiveNode Region). n.value) (find (has_key f.key) (node ∷ younger)) ≡ Some f.region
    = sym (ap (λ (ns : List (LiveNode Region)). option_map (λ (n : LiveNode Region). n.value) (find (has_key f.key) ns)) old) ∙ f.found in
    elim (cases_Bool (has_key f.key node)) [
      | inl here ↦ absurd (
          let same : node.value ≡ f.region = same_Some node.value f.region (rw here at found) in
          let region : number ≡ l.name.region = sym named ∙ ap (λ (r : Region). r.number) same ∙ f.is in
          let name : record { generation = generation; region = number; normal = true } ≡ l.name = λ x. record { generation = sym o.generation_is x; region = region x; normal = sym normal x } in
          let equal = name_eq-same (record { generation = generation; region = number; normal = true }) l.name name in
          let differ = o.apart in
          cc)
      | inr there ↦ record {
        key = f.key;
        given = f.given;
        region = f.region;
        found = ap (λ (ns : List (LiveNode Region)). option_map (λ (n : LiveNode Region). n.value) (find (has_key f.key) ns)) new ∙ rw there at found;
        is = f.is;
      }
    ])

younger-loans : (node : LiveNode Region) (younger : List (LiveNode Region)) (q q2 : Listing Region) (generation number : ℕ) (ls : List Lent) → q.nodes ≡ node ∷ younger → q2.nodes ≡ younger → node.value.number ≡ number
    → LentAre generation number (core_loans ls) → AllByRecursion (LoanFinds q) ls → AllByRecursion (LoanFinds q2) ls
younger-loans node younger q q2 generation number [] old new named lent h = tt
younger-loans node younger q q2 generation number (l ∷ ls) old new named lent h = (
  younger-finds node younger q q2 generation number l old new named (λ live. lent l.name (lent-first l (core_loans ls) live)) h.0,
  younger-loans node younger q q2 generation number ls old new named (λ n is. lent n (lent-later n l (core_loans ls) is)) h.1,
)

-- ---- the board

module _ (i : Inside) (k : GuestCore) (h : StandsFor i k) (v : Posted) (seen : view_of_board i ≡ v) (w : Judgement) (d : IsDue (Some (Judge w)) (due_of v)) where
  -- the others are left
  pub popped-nodes : (q : Listing Region) → q ≡ keeping i.regions (drop 1 i.regions.nodes) → q.nodes ≡ (oldest i k h v seen w d).younger
  popped-nodes q is = ap (λ (x : Listing Region). x.nodes) is ∙ ap (λ (ns : List (LiveNode Region)). drop 1 ns) (oldest i k h v seen w d).nodes_are

  -- the count of the closed segment is at most the budget
  pub segment-within : (s : Between) → Some s ≡ (oldest i k h v seen w d).node.value.segment → s.steps ≤ i.settings.budget
  segment-within s some =
      let is : Some (core_between s) ≡ (core_judgement i k h v seen w d).region.segment = ap (option_map core_between) some ∙ (oldest i k h v seen w d).stands.segment in
      let all = subst (λ (rs : List (CoreRegion MachineState)). RegionsWithin i.settings.budget rs) (regions-are i k h v seen w d) (stands-sound i k h).bounded.regions in
      subst (λ (x : Option CoreBetween). between_steps x ≤ i.settings.budget) (sym is) all.segment

module _ (i : Inside) (k : GuestCore) (h : StandsFor i k) (v : Posted) (seen : view_of_board i ≡ v) (w : Judgement) (d : IsDue (Some (Judge w)) (due_of v)) (kept : is_kept w.verdict ≡ true) where
  abbrev judgement : CoreJudgement MachineState Difference
  judgement = core_judgement i k h v seen w d

  lent-others : LentAre k.generation judgement.region.number k.loans
  lent-others n is =
      let named = (stands-sound i k h).named in
      let l = lent-loan n k.loans named.distinct is in
      record {
        generation_is = live-generation k n (named.live n l.loan l.found l.live);
        apart = home-apart (rv32 i.input.value) i.settings k n (normal_name k judgement.region) is (original-home i k h v seen w d);
      }

  -- what the original's pieces come to
  own-marks : (own : ℕ) (held : List Piece) → own ≡ (view_of (original i k h v seen w d).track).own → held ≡ (view_of (original i k h v seen w d).track).held → marks_upto own held ≡ marks judgement.region.normal.held
  own-marks own held p q =
      ap₂ marks_upto (p ∙ own-is i k h v seen w d) (q ∙ sym (held-home i.input.value i.settings.budget (original i k h v seen w d).track true judgement.region.normal (original i k h v seen w d).stands))
      ∙ marks_upto-all 0 judgement.region.normal.own judgement.region.normal.own judgement.region.normal.held (judges i k h v seen w d).good.numbered (omega arith)

  -- what has been done to the fields, whatever became of the closed segment
  pub record KeptFields (j : Inside) (row : Row) : Type 0 where
    pub entries : j.entries.items ≡ i.entries.items ++ (E.Keep (vec_len i.rows) ∷ [])
    pub len : vec_len j.entries ≡ vec_len i.entries + 1
    pub room : vec_len i.entries + (vec_len i.loans + 2) ≤ vec_capacity j.entries
    pub capacity : vec_capacity i.entries ≤ vec_capacity j.entries
    pub row_is : ledger_row row ≡ record { number = vec_len i.rows; at = i.base; pc = (view_of (original i k h v seen w d).track).start.regs.pc; original = (view_of (original i k h v seen w d).track).own; judged = judged (w.verdict, w.fast) }
    pub rows : j.rows.items ≡ i.rows.items ++ (row ∷ [])
    pub row_count : vec_len j.rows ≡ vec_len i.rows + 1
    pub nodes : j.regions.nodes ≡ (oldest i k h v seen w d).younger
    pub made : j.regions.made ≡ i.regions.made

  module _ (j : Inside) (row : Row) (f : KeptFields j row) where
    keep-pushed : IsPushed i j (E.Keep (length k.rows))
    keep-pushed = record { items = f.entries ∙ ap (λ (n : ℕ). i.entries.items ++ (E.Keep n ∷ [])) (rows-count i k h); len = f.len; capacity = f.capacity }

    pub keep-view : view_of_board (record i { entries = j.entries }) ≡ posted v (E.Keep (length (core_of v).rows))
    keep-view =
        pushed-view i j (E.Keep (length k.rows)) keep-pushed
        ∙ ap₂ (λ (u : Posted) (n : ℕ). posted u (E.Keep n)) seen (ap (λ (x : GuestCore). length x.rows) (sym (core-seen i k v h seen)))

    pub keep-stands : j.base ≡ i.base + (view_of (original i k h v seen w d).track).own + between_steps judgement.region.segment
        → ready_marks j.ready.items ≡ k.ready ++ (marks judgement.region.normal.held ++ between_marks (i.settings.budget - (k.base + judgement.region.normal.own)) judgement.region.segment)
        → StandsFor (record i { base = j.base; ready = j.ready; rows = j.rows; regions = j.regions; entries = j.entries }) (kept_core (rv32 i.input.value) i.settings k judgement)
    keep-stands base ready =
        let o = oldest i k h v seen w d in
        let keys : All (LoanFinds j.regions) i.loans.items
        = All-from_recursion (LoanFinds j.regions) i.loans.items
        (younger-loans o.node o.younger i.regions j.regions k.generation judgement.region.number i.loans.items o.nodes_are f.nodes o.stands.number
        (subst (λ (ls : List OpenLoan). LentAre k.generation judgement.region.number ls) (sym h.fields.loans) lent-others)
        (recursion_from_All (LoanFinds i.regions) i.loans.items h.fields.keys)) in
        let count : length i.regions.nodes ≡ 1 + length o.younger = omega (arith, ap length o.nodes_are) in
        record {
          limits = h.limits;
          guest = h.guest;
          legal = pushed-legal i j (E.Keep (length k.rows)) k (kept_core (rv32 i.input.value) i.settings k judgement) keep-pushed h.legal (keep-event i k h v seen w d kept);
          fields = record {
            base = omega (arith, base, own-is i k h v seen w d, h.fields.base);
            ready = ready;
            rows = ap ledger_rows f.rows ∙ rows-are i k h v seen w d row f.row_is;
            generation = h.fields.generation;
            last = h.fields.last;
            regions = subst (λ (ns : List (LiveNode Region)). RegionsStand i.input.value i.settings.budget (home_at k) ns judgement.younger) (sym f.nodes) o.rest;
            lead = h.fields.lead;
            loans = h.fields.loans;
            keys = keys;
            finish = h.fields.finish;
            halted = h.fields.halted;
          };
          room = record {
            entries = (let one = one_if-bound (not (over k)) in omega (arith, f.len, f.room));
            names = omega (arith, f.made, f.row_count, count, ap length f.nodes, h.room.names);
          };
        }

    -- no segment stands behind the region
    pub keeps-alone : (own : ℕ) (held : List Piece) → None ≡ (oldest i k h v seen w d).node.value.segment → own ≡ (view_of (original i k h v seen w d).track).own → held ≡ (view_of (original i k h v seen w d).track).held
        → j.base ≡ i.base + own → j.ready.items ≡ i.ready.items ++ (record { limit = own; held = held } ∷ [])
        → StandsFor (record i { base = j.base; ready = j.ready; rows = j.rows; regions = j.regions; entries = j.entries }) (kept_core (rv32 i.input.value) i.settings k judgement)
    keeps-alone own held none p q base ready =
        let limit = i.settings.budget - (k.base + judgement.region.normal.own) in
        let segment : None ≡ judgement.region.segment = ap (option_map core_between) none ∙ (oldest i k h v seen w d).stands.segment in
        keep-stands
        (subst (λ (s : Option CoreBetween). j.base ≡ i.base + (view_of (original i k h v seen w d).track).own + between_steps s) segment (omega (arith, base, p)))
        (subst (λ (s : Option CoreBetween). ready_marks j.ready.items ≡ k.ready ++ (marks judgement.region.normal.held ++ between_marks limit s)) segment
        (ap ready_marks ready ∙ ready_marks-push i.ready.items (record { limit = own; held = held })
        ∙ ap₂ (λ (xs ys : List Mark). xs ++ ys) h.fields.ready (own-marks own held p q ∙ sym (append-nil (marks judgement.region.normal.held)))))

    -- a closed segment does
    pub keeps-both : (own : ℕ) (held : List Piece) (s : Between) (first : List Ready) → Some s ≡ (oldest i k h v seen w d).node.value.segment
        → own ≡ (view_of (original i k h v seen w d).track).own → held ≡ (view_of (original i k h v seen w d).track).held
        → j.base ≡ i.base + own + s.steps → first ≡ i.ready.items ++ (record { limit = own; held = held } ∷ [])
        → j.ready.items ≡ first ++ (record { limit = i.settings.budget - (i.base + own); held = s.held } ∷ [])
        → StandsFor (record i { base = j.base; ready = j.ready; rows = j.rows; regions = j.regions; entries = j.entries }) (kept_core (rv32 i.input.value) i.settings k judgement)
    keeps-both own held s first some p q base before ready =
        let limit = i.settings.budget - (k.base + judgement.region.normal.own) in
        let segment : Some (core_between s) ≡ judgement.region.segment = ap (option_map core_between) some ∙ (oldest i k h v seen w d).stands.segment in
        let left : i.settings.budget - (i.base + own) ≡ limit = ap₂ (λ (a b : ℕ). i.settings.budget - (a + b)) h.fields.base (p ∙ own-is i k h v seen w d) in
        let front : ready_marks first ≡ k.ready ++ marks judgement.region.normal.held
        = ap ready_marks before ∙ ready_marks-push i.ready.items (record { limit = own; held = held }) ∙ ap₂ (λ (xs ys : List Mark). xs ++ ys) h.fields.ready (own-marks own held p q) in
        keep-stands
        (subst (λ (x : Option CoreBetween). j.base ≡ i.base + (view_of (original i k h v seen w d).track).own + between_steps x) segment (omega (arith, base, p)))
        (subst (λ (x : Option CoreBetween). ready_marks j.ready.items ≡ k.ready ++ (marks judgement.region.normal.held ++ between_marks limit x)) segment
        (ap ready_marks ready ∙ ready_marks-push first (record { limit = i.settings.budget - (i.base + own); held = s.held })
        ∙ ap₂ (λ (xs ys : List Mark). xs ++ ys) front (ap (λ (n : ℕ). marks_upto n s.held) left)
        ∙ append_assoc k.ready (marks judgement.region.normal.held) (marks_upto limit s.held)))
