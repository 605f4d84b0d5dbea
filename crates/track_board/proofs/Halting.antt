-- A board that is halted.
use Rattle.std.proofs.Common.{◌≡◌, ℕ, ◌+◌, Bool, true, false, not, ◌||◌, [], ◌∷◌, ◌++◌, Some, is_some, vec_len, vec_capacity, refl, ap, ◌∙◌, arith}
use Rattle.speculation.specs.declared.history.Entry.TheVariants as E
use Rattle.speculation.specs.Core.{over}
use Rattle.speculation.specs.Events.{some_if, event}
use Rattle.speculation_law.specs.Sound.{one_if}
use Rattle.track_board.specs.Value.{Posted, GuestCore, machine_of, run_of}
use Rattle.track_board.specs.Invariant.{view_of_board, StandsFor}
use Rattle.track_board.specs.declared.board.Board.TheInside.{Inside}
use Rattle.track_board.proofs.Foundation.{legal-more}

abbrev pub halted_core : GuestCore → GuestCore
halted_core k = record k { halted = true }

-- a core that isn't over may be halted
pub event-halt : (v : Posted) (k : GuestCore) (seat : ℕ) → over k ≡ false → event (machine_of v) v.settings k (E.Halt seat) ≡ Some (halted_core k)
unfolding event
event-halt v k seat live = ap (λ (t : Bool). some_if (not t) (halted_core k)) live

or-true : (t : Bool) → (t || true) ≡ true
or-true true = refl
or-true false = refl

-- and is over then
pub over-halted : (k : GuestCore) → over (halted_core k) ≡ true
over-halted k = or-true (is_some k.finish)

-- the fields after the entry
pub halted-stands : (i j : Inside) (k : GuestCore) (seat : ℕ) → StandsFor i k → over k ≡ false → j.entries.items ≡ i.entries.items ++ (E.Halt seat ∷ [])
    → vec_len j.entries ≡ vec_len i.entries + 1 → vec_capacity j.entries ≡ vec_capacity i.entries → StandsFor (record i { halted = true; entries = j.entries }) (halted_core k)
halted-stands i j k seat h live items len capacity = record {
  limits = h.limits;
  guest = h.guest;
  legal = ap (λ xs. run_of (record (view_of_board i) { entries = xs })) items ∙ legal-more (view_of_board i) (E.Halt seat) k (halted_core k) h.legal (event-halt (view_of_board i) k seat live);
  fields = record {
    base = h.fields.base;
    ready = h.fields.ready;
    rows = h.fields.rows;
    generation = h.fields.generation;
    last = h.fields.last;
    regions = h.fields.regions;
    lead = h.fields.lead;
    loans = h.fields.loans;
    keys = h.fields.keys;
    finish = h.fields.finish;
    halted = refl;
  };
  room = record {
    entries =
        let room = h.room.entries in
        let one : one_if (not (over k)) ≡ 1 = ap (λ (t : Bool). one_if (not t)) live in
        let none : one_if (not (over (halted_core k))) ≡ 0 = ap (λ (t : Bool). one_if (not t)) (over-halted k) in
        omega arith;
    names = h.room.names;
  };
}
