-- A new board.
use Rattle.std.proofs.Common.{◌≡◌, ℕ, ◌+◌, ◌≤◌, true, false, List, [], Some, None, vec_len, vec_capacity, refl, sym, ap, subst, arith}
use Rattle.std.specs.List.{All}
use Rattle.speculation.specs.declared.tracks.Kind.TheVariants.{Segment}
use Rattle.speculation.specs.declared.history.Entry.{Entry}
use Rattle.speculation.specs.Core.{opening}
use Rattle.speculation.specs.Run.{go, pieces}
use Rattle.speculation.specs.Events.{core_run}
use Rattle.guest_model.specs.AreaMap.{IsLayout}
use Rattle.guest_model.specs.MachineState.{MachineState}
use Rattle.rv32_law.proofs.Starts.{start-is-guest}
use Rattle.region_ledger.specs.Ledger.{ledger_rows}
use Rattle.seniority_queue.specs.Listing.{Listing, empty_listing}
use Rattle.track_state.specs.Views.{TrackView, view_of, begun, core_track}
use Rattle.track_state.specs.Runs.{RunsOver}
use Rattle.track_state.specs.declared.track.Track.{Track}
use Rattle.track_board.specs.Value.{GuestCore, IsSettings, run_of, machine_of, start_state}
use Rattle.track_board.specs.Parts.{TrackStands, RegionsStand, ready_marks, core_loans, LoanFinds}
use Rattle.track_board.specs.Invariant.{view_of_board, home_at, StandsFor}
use Rattle.track_board.specs.declared.board.Board.TheInside.{Inside}
use Rattle.track_board.specs.declared.loan.Lent.{Lent}
use Rattle.track_board.specs.declared.region.Region.{Region}
use Rattle.track_board.specs.declared.slot.Slot.TheVariants.{Home}

-- a segment that took no instruction yet
begun-runs : (input : List ℕ) (s : MachineState) (budget : ℕ) → s.place ≡ 0 → RunsOver input (begun Segment s budget)
unfolding go pieces
begun-runs input s budget first = record {
  began = omega arith;
  at = refl;
  place = omega arith;
  last = λ e h. absurd (cc);
  held = ([], refl);
}

lead-stands : (input : List ℕ) (s : MachineState) (budget : ℕ) (lead : Track) → s.place ≡ 0 → view_of lead ≡ begun Segment s budget
    → TrackStands input budget lead true (record { kind = Segment; start = s; own = 0; held = [] })
lead-stands input s budget lead first is = record {
  here = refl;
  is = ap core_track is;
  runs = subst (RunsOver input) (sym is) (begun-runs input s budget first);
  budget = ap (λ (v : TrackView). v.budget) is;
}

abbrev pub first_core : Inside → GuestCore
first_core i = opening (start_state (view_of_board i))

no-entry : (i : Inside) → i.entries.items ≡ [] → run_of (view_of_board i) ≡ Some (first_core i)
unfolding core_run
no-entry i h = ap (λ (xs : List Entry). core_run (machine_of (view_of_board i)) i.settings (Some (first_core i)) xs) h

-- the fields of a board on which nothing has happened yet
pub record IsFresh (i : Inside) : Type 0 where
  pub ready : i.ready.items ≡ []
  pub rows : i.rows.items ≡ []
  pub regions : i.regions ≡ empty_listing {T = Region}
  pub loans : i.loans.items ≡ []
  pub loan_count : vec_len i.loans ≡ 0
  pub entries : i.entries.items ≡ []
  pub room : vec_len i.entries + 1 ≤ vec_capacity i.entries

pub first-stands : (i : Inside) (lead : Track) → IsFresh i → IsSettings i.settings → IsLayout i.loaded.value.areas
    → view_of lead ≡ begun Segment (start_state (view_of_board i)) i.settings.budget
    → StandsFor (record i { base = 0; generation = 0; last = 0; lead = Home lead; finish = None; halted = false }) (first_core i)
first-stands i lead f limits layout is = record {
  limits = limits;
  guest = start-is-guest i.input.value i.loaded.value.entry i.loaded.value.areas i.loaded.value.heap layout;
  legal = no-entry i f.entries;
  fields = record {
    base = refl;
    ready = ap ready_marks f.ready;
    rows = ap ledger_rows f.rows;
    generation = refl;
    last = refl;
    regions = subst (λ (q : Listing Region). RegionsStand i.input.value i.settings.budget (home_at (first_core i)) q.nodes []) (sym f.regions) tt;
    lead = lead-stands i.input.value (start_state (view_of_board i)) i.settings.budget lead refl is;
    loans = ap core_loans f.loans;
    keys = subst (λ (ls : List Lent). All (LoanFinds i.regions) ls) (sym f.loans) (λ k d below. absurd (omega arith));
    finish = refl;
    halted = refl;
  };
  room = record {
    entries = (let count = f.loan_count in let room = f.room in omega arith);
    names = (let made : i.regions.made ≡ 0 = ap (λ (q : Listing Region). q.made) f.regions in omega arith);
  };
}
