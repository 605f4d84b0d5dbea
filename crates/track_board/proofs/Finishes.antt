-- The fields of a board that has finished.
use Rattle.std.proofs.Common.{◌≡◌, ◌+◌, ◌≤◌, false, not, List, [], ◌∷◌, ◌++◌, Option, Some, vec_len, vec_capacity, refl, sym, ap, ◌∙◌, arith}
use Rattle.speculation.specs.declared.history.Entry.{Entry}
use Rattle.speculation.specs.declared.history.Entry.TheVariants as E
use Rattle.speculation.specs.Core.{over}
use Rattle.speculation.specs.Due.{Due as CoreDue, Finishing, due}
use Rattle.speculation.specs.Events.{event}
use Rattle.speculation_law.proofs.SerialSteps.{event-entry_of}
use Rattle.guest_model.specs.MachineState.{MachineState}
use Rattle.guest_model.specs.declared.difference.Difference.{Difference}
use Rattle.guest_model.specs.declared.end.End.{End}
use Rattle.region_ledger.specs.Ledger.{core_finished}
use Rattle.region_ledger.specs.declared.finished.Finished.{Finished}
use Rattle.speculation_law.specs.Sound.{one_if}
use Rattle.track_board.specs.declared.board.Board.TheInside.{Inside}
use Rattle.track_board.specs.declared.due.Due.TheVariants.{Finish}
use Rattle.track_board.specs.Value.{GuestCore, machine_of, run_of, posted}
use Rattle.track_board.specs.Settles.{IsDue, due_of}
use Rattle.track_board.specs.Invariant.{view_of_board, StandsFor}
use Rattle.track_board.proofs.Foundation.{core-stood, legal-more, room-to_end}
use Rattle.track_board.proofs.DueEvents.{is-finish, live-finish}

-- the entries of j are those of i and one more
pub record IsPushed (i j : Inside) (e : Entry) : Type 0 where
  pub items : j.entries.items ≡ i.entries.items ++ (e ∷ [])
  pub len : vec_len j.entries ≡ vec_len i.entries + 1
  pub capacity : vec_capacity i.entries ≤ vec_capacity j.entries

pub pushed-view : (i j : Inside) (e : Entry) → IsPushed i j e → view_of_board (record i { entries = j.entries }) ≡ posted (view_of_board i) e
pushed-view i j e h = ap (λ (es : List Entry). record (view_of_board i) { entries = es }) h.items

-- the entries are legal still, where the new one is allowed
pub pushed-legal : (i j : Inside) (e : Entry) (k k2 : GuestCore) → IsPushed i j e → run_of (view_of_board i) ≡ Some k → event (machine_of (view_of_board i)) i.settings k e ≡ Some k2
    → run_of (view_of_board (record i { entries = j.entries })) ≡ Some k2
pushed-legal i j e k k2 h legal step = ap run_of (pushed-view i j e h) ∙ legal-more (view_of_board i) e k k2 legal step

-- the core's due event
pub due-stood : (i : Inside) (k : GuestCore) (o : Option (CoreDue MachineState End Difference)) → StandsFor i k → due_of (view_of_board i) ≡ o → due (machine_of (view_of_board i)) i.settings k ≡ o
due-stood i k o h is = sym (ap (due (machine_of (view_of_board i)) i.settings) (core-stood i k h)) ∙ is

module _ (i : Inside) (k : GuestCore) (f : Finished) (h : StandsFor i k) (d : IsDue (Some (Finish f)) (due_of (view_of_board i))) where
  finish-event : event (machine_of (view_of_board i)) i.settings k E.Finish ≡ Some (record k { finish = Some (core_finished f) })
  finish-event = event-entry_of (machine_of (view_of_board i)) i.settings k (Finishing (core_finished f)) (due-stood i k (Some (Finishing (core_finished f))) h (is-finish f (due_of (view_of_board i)) d))

  finish-live : over k ≡ false
  finish-live = ap over (sym (core-stood i k h)) ∙ live-finish (view_of_board i) f d

  -- there is room for the entry
  pub finish-room : vec_len i.entries + 1 ≤ vec_capacity i.entries
  finish-room = room-to_end i k h finish-live

  pub finish-stands : (j : Inside) → IsPushed i j E.Finish → StandsFor (record i { entries = j.entries; finish = Some f }) (record k { finish = Some (core_finished f) })
  finish-stands j pushed = record {
    limits = h.limits;
    guest = h.guest;
    legal = pushed-legal i j E.Finish k (record k { finish = Some (core_finished f) }) pushed h.legal finish-event;
    fields = record {
      base = h.fields.base;
      ready = h.fields.ready;
      rows = h.fields.rows;
      generation = h.fields.generation;
      last = h.fields.last;
      regions = h.fields.regions;
      lead = h.fields.lead;
      loans = h.fields.loans;
      keys = h.fields.keys;
      finish = refl;
      halted = h.fields.halted;
    };
    room = record {
      entries =
          (let room = h.room.entries in
          let live : one_if (not (over k)) ≡ 1 = ap (λ b. one_if (not b)) finish-live in
          let len = pushed.len in
          let capacity = pushed.capacity in
          omega arith);
      names = h.room.names;
    };
  }
