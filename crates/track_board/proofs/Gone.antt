-- A loan that ended, and whose track is gone.
use Rattle.std.proofs.Common.{◌≡◌, ◌⊎◌, inl, inr, ℕ, ◌+◌, ◌≤◌, Bool, true, false, not, ◌&&◌, ◌||◌, if◌then◌else◌, List, [], ◌∷◌, ◌++◌, Option, Some, None, is_some, is_none, vec_len, vec_capacity, refl, sym, ap, ap₂, ◌∙◌, subst, arith}
use Rattle.std.proofs.Math.Path.{fun_ext}
use Rattle.std.proofs.lemmas.Bool.{and_right}
use Rattle.std.specs.List.{All, remove}
use Rattle.std.specs.Prelude.{slice_get}
use Rattle.speculation.specs.declared.tracks.Name.{Name}
use Rattle.speculation.specs.declared.tracks.OpenLoan.{OpenLoan}
use Rattle.speculation.specs.declared.history.Entry.{Entry}
use Rattle.speculation.specs.declared.history.Entry.TheVariants as E
use Rattle.speculation.specs.Core.{over, name_eq, is_lent, is_named, at_home, lead_name, find_loan}
use Rattle.speculation.specs.Events.{event, end_loan, gone_live, gone_of}
use Rattle.region_ledger.specs.Ledger.{core_finished}
use Rattle.speculation_law.specs.Sound.{one_if}
use Rattle.speculation_law.proofs.Names.{name_eq-true, is_lent-found}
use Rattle.speculation_law.proofs.FindLoan.{find_loan-name}
use Rattle.track_board.specs.Value.{Posted, GuestCore, machine_of, run_of}
use Rattle.track_board.specs.Parts.{SlotStands, RegionsStand, core_loan, core_loans, LoanFinds}
use Rattle.track_board.specs.Loans.{halted_by}
use Rattle.track_board.specs.Invariant.{view_of_board, StandsFor}
use Rattle.track_board.specs.declared.board.Board.TheInside.{Inside}
use Rattle.track_board.specs.declared.loan.Lent.{Lent}
use Rattle.track_board.proofs.Foundation.{legal-more, is_some-map}
use Rattle.track_board.proofs.Lents.{All-remove, is_lent-ended}

-- the loan of a name may end at any time
pub event-gone : (v : Posted) (k : GuestCore) (n : Name) (l : OpenLoan) → find_loan n k.loans ≡ Some l → event (machine_of v) v.settings k (E.Gone n) ≡ Some (gone_live k n l.dropped)
unfolding event
event-gone v k n l found = ap (gone_of k n) found

-- ---- the same tracks are at home

home-dropped : (k : GuestCore) (n x : Name) (l : OpenLoan) (row : ℕ) → find_loan n k.loans ≡ Some l → l.dropped ≡ Some row → at_home (gone_live k n (Some row)) x ≡ at_home k x
home-dropped k n x l row found is =
    let apart : (name_eq x l.name && is_none l.dropped) ≡ false = and_right (name_eq x l.name) (is_none l.dropped) (ap (λ (o : Option ℕ). is_none o) is) in
    ap (λ (t : Bool). not t && not (is_named x k.lost)) (is_lent-ended x n l k.loans found apart)

home-lost_by : (k : GuestCore) (n x : Name) (l : OpenLoan) (t : Bool) → name_eq x n ≡ t → find_loan n k.loans ≡ Some l → l.dropped ≡ None → at_home (gone_live k n None) x ≡ at_home k x
home-lost_by k n x l true is found live =
    let same : x ≡ n = name_eq-true x n is in
    let lent : is_lent x k.loans ≡ true = subst (λ (y : Name). is_lent y k.loans ≡ true) (sym same) (is_lent-found n l k.loans found live) in
    let now : is_named x (n ∷ k.lost) ≡ true = ap (λ (t : Bool). if t then true else is_named x k.lost) is in
    and_right (not (is_lent x (end_loan n k.loans))) (not (is_named x (n ∷ k.lost))) (ap not now)
    ∙ sym (ap (λ (t : Bool). not t && not (is_named x k.lost)) lent)
home-lost_by k n x l false is found live =
    let name : n ≡ l.name = find_loan-name n l k.loans found in
    let other : name_eq x l.name ≡ false = subst (λ (y : Name). name_eq x y ≡ false) name is in
    let apart : (name_eq x l.name && is_none l.dropped) ≡ false = ap (λ (t : Bool). t && is_none l.dropped) other in
    ap₂ (λ (t u : Bool). not t && not u) (is_lent-ended x n l k.loans found apart) (ap (λ (t : Bool). if t then true else is_named x k.lost) is)

pub home-gone_by : (k : GuestCore) (n x : Name) (l : OpenLoan) (o : Option ℕ) → l.dropped ≡ o → find_loan n k.loans ≡ Some l → at_home (gone_live k n o) x ≡ at_home k x
home-gone_by k n x l (Some row) is found = home-dropped k n x l row found is
home-gone_by k n x l None is found = home-lost_by k n x l (name_eq x n) refl found is

-- the end of a loan whose track is gone changes nothing in who is at home
pub home-gone : (k : GuestCore) (n x : Name) (l : OpenLoan) → find_loan n k.loans ≡ Some l → at_home (gone_live k n l.dropped) x ≡ at_home k x
home-gone k n x l found = home-gone_by k n x l l.dropped refl found

-- ---- whether the core is over

or-not : (a b : Bool) → (a || (not a || b)) ≡ true
or-not true b = refl
or-not false b = refl

over-gone_by : (k : GuestCore) (n : Name) (o : Option ℕ) → over k ≡ true → over (gone_live k n o) ≡ true
over-gone_by k n (Some row) h = h
over-gone_by k n None h = or-not (is_some k.finish) k.halted

-- a live track that is gone ends the run
pub over-lost : (k : GuestCore) (n : Name) → over (gone_live k n None) ≡ true
over-lost k n = or-not (is_some k.finish) k.halted

fewer-by : (a b : Bool) → (a ≡ true → b ≡ true) → one_if (not b) ≤ one_if (not a)
fewer-by true b h = (let none : one_if (not b) ≡ 0 = ap (λ (t : Bool). one_if (not t)) (h refl) in omega arith)
fewer-by false true h = omega arith
fewer-by false false h = omega arith

halted-gone : (i : Inside) (k : GuestCore) (n : Name) (o : Option ℕ) → StandsFor i k → halted_by o (is_some i.finish) i.halted ≡ (gone_live k n o).halted
halted-gone i k n (Some row) h = h.fields.halted
halted-gone i k n None h =
    ap₂ (λ (t u : Bool). not t || u) (sym (is_some-map core_finished i.finish) ∙ ap is_some h.fields.finish) h.fields.halted

-- ---- the fields

-- what the end of a loan changes
pub record EndsLoan (i j : Inside) (n : Name) (l : Lent) : Type 0 where
  pub found : find_loan n (core_loans i.loans.items) ≡ Some (core_loan l)
  pub loans : core_loans j.loans.items ≡ end_loan n (core_loans i.loans.items)
  pub keys : (place : ℕ) × (slice_get i.loans.items place ≡ Some l) × (j.loans.items ≡ remove i.loans.items place)
  pub fewer : vec_len j.loans + 1 ≡ vec_len i.loans
  pub more : vec_len j.entries ≡ vec_len i.entries + 1
  pub capacity : vec_capacity j.entries ≡ vec_capacity i.entries

module _ (i j : Inside) (k : GuestCore) (n : Name) (l : Lent) (h : StandsFor i k) (e : EndsLoan i j n l) where
  pub found-core : find_loan n k.loans ≡ Some (core_loan l)
  found-core = subst (λ (ls : List OpenLoan). find_loan n ls ≡ Some (core_loan l)) h.fields.loans e.found

  pub loans-core : core_loans j.loans.items ≡ end_loan n k.loans
  loans-core = e.loans ∙ ap (end_loan n) h.fields.loans

  pub keys-after : All (LoanFinds i.regions) j.loans.items
  keys-after = subst (λ (ls : List Lent). All (LoanFinds i.regions) ls) (sym e.keys.2) (All-remove (LoanFinds i.regions) i.loans.items e.keys.0 h.fields.keys)

  gone-fields_by : (o : Option ℕ) → l.dropped ≡ o → j.entries.items ≡ i.entries.items ++ (E.Gone n ∷ [])
      → StandsFor (record i { loans = j.loans; halted = halted_by o (is_some i.finish) i.halted; entries = j.entries }) (gone_live k n o)
  gone-fields_by o is items = stands o is (gone-step o is)
    where
      gone-step : (o : Option ℕ) → l.dropped ≡ o → event (machine_of (view_of_board i)) i.settings k (E.Gone n) ≡ Some (gone_live k n o)
      gone-step o is = event-gone (view_of_board i) k n (core_loan l) found-core ∙ ap (λ (o : Option ℕ). Some (gone_live k n o)) is

      legal : (o : Option ℕ) → event (machine_of (view_of_board i)) i.settings k (E.Gone n) ≡ Some (gone_live k n o) → run_of (record (view_of_board i) { entries = j.entries.items }) ≡ Some (gone_live k n o)
      legal o step = ap (λ (xs : List Entry). run_of (record (view_of_board i) { entries = xs })) items ∙ legal-more (view_of_board i) (E.Gone n) k (gone_live k n o) h.legal step

      room : (o : Option ℕ) → vec_len j.entries + (vec_len j.loans + one_if (not (over (gone_live k n o)))) ≤ vec_capacity j.entries
      room o =
          let before = h.room.entries in
          let fewer = e.fewer in
          let more = e.more in
          let same = e.capacity in
          let less = fewer-by (over k) (over (gone_live k n o)) (over-gone_by k n o) in omega arith

      stands : (o : Option ℕ) → l.dropped ≡ o → event (machine_of (view_of_board i)) i.settings k (E.Gone n) ≡ Some (gone_live k n o)
          → StandsFor (record i { loans = j.loans; halted = halted_by o (is_some i.finish) i.halted; entries = j.entries }) (gone_live k n o)
      stands (Some row) is step = record {
        limits = h.limits;
        guest = h.guest;
        legal = legal (Some row) step;
        fields = record {
          base = h.fields.base;
          ready = h.fields.ready;
          rows = h.fields.rows;
          generation = h.fields.generation;
          last = h.fields.last;
          regions = subst (λ (f : ℕ → Bool). RegionsStand i.input.value i.settings.budget f i.regions.nodes k.regions) (fun_ext (λ number. sym (home-gone_by k n (record { generation = k.generation; region = number; normal = true }) (core_loan l) (Some row) is found-core))) h.fields.regions;
          lead = subst (λ (t : Bool). SlotStands i.input.value i.settings.budget i.lead t k.lead) (sym (home-gone_by k n (lead_name k) (core_loan l) (Some row) is found-core)) h.fields.lead;
          loans = loans-core;
          keys = keys-after;
          finish = h.fields.finish;
          halted = halted-gone i k n (Some row) h;
        };
        room = record { entries = room (Some row); names = h.room.names };
      }
      stands None is step = record {
        limits = h.limits;
        guest = h.guest;
        legal = legal None step;
        fields = record {
          base = h.fields.base;
          ready = h.fields.ready;
          rows = h.fields.rows;
          generation = h.fields.generation;
          last = h.fields.last;
          regions = subst (λ (f : ℕ → Bool). RegionsStand i.input.value i.settings.budget f i.regions.nodes k.regions) (fun_ext (λ number. sym (home-gone_by k n (record { generation = k.generation; region = number; normal = true }) (core_loan l) None is found-core))) h.fields.regions;
          lead = subst (λ (t : Bool). SlotStands i.input.value i.settings.budget i.lead t k.lead) (sym (home-gone_by k n (lead_name k) (core_loan l) None is found-core)) h.fields.lead;
          loans = loans-core;
          keys = keys-after;
          finish = h.fields.finish;
          halted = halted-gone i k n None h;
        };
        room = record { entries = room None; names = h.room.names };
      }

  -- the fields after a loan ended whose track is gone
  pub gone-stands : j.entries.items ≡ i.entries.items ++ (E.Gone n ∷ [])
      → StandsFor (record i { loans = j.loans; halted = halted_by l.dropped (is_some i.finish) i.halted; entries = j.entries }) (gone_live k n l.dropped)
  gone-stands items = gone-fields_by l.dropped refl items

  -- the run is over then, or a discard had dropped the track
  pub gone-ends : (over (gone_live k n l.dropped) ≡ true) ⊎ ((row : ℕ) × (l.dropped ≡ Some row))
  gone-ends = ends-by l.dropped
    where
      ends-by : (o : Option ℕ) → (over (gone_live k n o) ≡ true) ⊎ ((row : ℕ) × (o ≡ Some row))
      ends-by (Some row) = inr (row, refl)
      ends-by None = inl (over-lost k n)
