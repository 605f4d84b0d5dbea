-- Room that was made, and a track that contracts see as before, leave what the fields stand for.
use Rattle.std.proofs.lemmas.List.{length-map}
use Rattle.std.proofs.Common.{◌≡◌, ℕ, ◌≤◌, Bool, true, false, List, [], ◌∷◌, length, suc, ◌^◌, vec_len, vec_capacity, Vec, Global, refl, sym, ap, ◌∙◌, subst, arith}
use Rattle.speculation.specs.declared.history.Entry.{Entry}
use Rattle.speculation.specs.Core.{Track as CoreTrack, Region as CoreRegion, lead_home}
use Rattle.guest_model.specs.MachineState.{MachineState}
use Rattle.region_ledger.specs.Ledger.{ledger_row, ledger_rows}
use Rattle.seniority_queue.specs.Listing.{LiveNode}
use Rattle.speculation_law.specs.Sound.{one_if}
use Rattle.track_state.specs.Views.{TrackView, view_of, core_track}
use Rattle.track_state.specs.Runs.{RunsOver}
use Rattle.track_state.specs.declared.track.Track.{Track}
use Rattle.track_board.specs.declared.board.Board.TheInside.{Inside}
use Rattle.track_board.specs.declared.ready.Ready.{Ready}
use Rattle.track_board.specs.declared.region.Region.{Region}
use Rattle.track_board.specs.declared.slot.Slot.{Slot}
use Rattle.track_board.specs.declared.slot.Slot.TheVariants.{Home, Away}
use Rattle.track_board.specs.Crossing.{SameHome}
use Rattle.track_board.specs.Value.{GuestCore, run_of}
use Rattle.track_board.specs.Parts.{TrackStands, SlotStands, RegionsStand, ready_marks}
use Rattle.track_board.specs.Invariant.{view_of_board, home_at, StandsFor}
use Rattle.track_board.proofs.Foundation.{stands-sound}
use Rattle.track_board.proofs.Queues.{loans-kept, keeps-same}

pub one_if-bound : (t : Bool) → one_if t ≤ 1
one_if-bound true = omega arith
one_if-bound false = omega arith

-- the fields of j have the elements of those of i, and at least as much room for entries
pub record Spares (i j : Inside) : Type 0 where
  pub ready : j.ready.items ≡ i.ready.items
  pub rows : j.rows.items ≡ i.rows.items
  pub nodes : j.regions.nodes ≡ i.regions.nodes
  pub made : j.regions.made ≡ i.regions.made
  pub entries : j.entries.items ≡ i.entries.items
  pub capacity : vec_capacity i.entries ≤ vec_capacity j.entries

pub spared : (i j : Inside) (k : GuestCore) → StandsFor i k → Spares i j → StandsFor (record i { ready = j.ready; rows = j.rows; regions = j.regions; entries = j.entries }) k
spared i j k h s = record {
  limits = h.limits;
  guest = h.guest;
  legal = ap (λ (es : List Entry). run_of (record (view_of_board i) { entries = es })) s.entries ∙ h.legal;
  fields = record {
    base = h.fields.base;
    ready = ap ready_marks s.ready ∙ h.fields.ready;
    rows = ap ledger_rows s.rows ∙ h.fields.rows;
    generation = h.fields.generation;
    last = h.fields.last;
    regions = subst (λ (ns : List (LiveNode Region)). RegionsStand i.input.value i.settings.budget (home_at k) ns k.regions) (sym s.nodes) h.fields.regions;
    lead = h.fields.lead;
    loans = h.fields.loans;
    keys = loans-kept i.regions j.regions (keeps-same i.regions j.regions s.nodes) i.loans.items h.fields.keys;
    finish = h.fields.finish;
    halted = h.fields.halted;
  };
  room = record {
    entries = omega (arith, i.entries.ok.0, j.entries.ok.0, ap length s.entries, s.capacity, h.room.entries);
    names = omega (arith, i.rows.ok.0, j.rows.ok.0, ap length s.rows, ap length s.nodes, s.made, h.room.names);
  };
}

-- parts of verified output that have no byte are dropped
pub without_ready : (i : Inside) (k : GuestCore) (ready : Vec Ready Global) → StandsFor i k → ready_marks i.ready.items ≡ [] → ready.items ≡ [] → StandsFor (record i { ready = ready }) k
without_ready i k ready h none dropped = record {
  limits = h.limits;
  guest = h.guest;
  legal = h.legal;
  fields = record {
    base = h.fields.base;
    ready = ap ready_marks dropped ∙ sym none ∙ h.fields.ready;
    rows = h.fields.rows;
    generation = h.fields.generation;
    last = h.fields.last;
    regions = h.fields.regions;
    lead = h.fields.lead;
    loans = h.fields.loans;
    keys = h.fields.keys;
    finish = h.fields.finish;
    halted = h.fields.halted;
  };
  room = record { entries = h.room.entries; names = h.room.names };
}

pub track-again : (input : List ℕ) (limit : ℕ) (x y : Track) (home : Bool) (t : CoreTrack MachineState) → view_of y ≡ view_of x → TrackStands input limit x home t → TrackStands input limit y home t
track-again input limit x y home t same h = record {
  here = h.here;
  is = ap core_track same ∙ h.is;
  runs = subst (RunsOver input) (sym same) h.runs;
  budget = ap (λ (v : TrackView). v.budget) same ∙ h.budget;
}

pub slot-again : (input : List ℕ) (limit : ℕ) (x y : Slot) (home : Bool) (t : CoreTrack MachineState) → SameHome x y → SlotStands input limit x home t → SlotStands input limit y home t
slot-again input limit (Home x) (Home y) home t same h = track-again input limit x y home t same.view h
slot-again input limit (Home x) (Away n) home t same h = absurd same
slot-again input limit (Away m) (Home y) home t same h = absurd same
slot-again input limit (Away m) (Away n) home t same h = absurd same

-- the lead is as before
pub lead-again : (i : Inside) (k : GuestCore) (lead : Slot) → StandsFor i k → SameHome i.lead lead → StandsFor (record i { lead = lead }) k
lead-again i k lead h same = record {
  limits = h.limits;
  guest = h.guest;
  legal = h.legal;
  fields = record {
    base = h.fields.base;
    ready = h.fields.ready;
    rows = h.fields.rows;
    generation = h.fields.generation;
    last = h.fields.last;
    regions = h.fields.regions;
    lead = slot-again i.input.value i.settings.budget i.lead lead (lead_home k) k.lead same h.fields.lead;
    loans = h.fields.loans;
    keys = h.fields.keys;
    finish = h.fields.finish;
    halted = h.fields.halted;
  };
  room = record { entries = h.room.entries; names = h.room.names };
}

-- How many there are

count-by : (input : List ℕ) (limit : ℕ) (home : ℕ → Bool) (ns : List (LiveNode Region)) (rs : List (CoreRegion MachineState)) → RegionsStand input limit home ns rs → length ns ≡ length rs
count-by input limit home [] [] h = refl
count-by input limit home [] (r ∷ rs) h = absurd h
count-by input limit home (n ∷ ns) [] h = absurd h
count-by input limit home (n ∷ ns) (r ∷ rs) h = ap suc (count-by input limit home ns rs h.1)

pub regions-count : (i : Inside) (k : GuestCore) → StandsFor i k → length i.regions.nodes ≡ length k.regions
regions-count i k h = count-by i.input.value i.settings.budget (home_at k) i.regions.nodes k.regions h.fields.regions

pub rows-count : (i : Inside) (k : GuestCore) → StandsFor i k → vec_len i.rows ≡ length k.rows
rows-count i k h = omega (arith, i.rows.ok.0, ap length h.fields.rows, length-map i.rows.items ledger_row)

-- the numbers of a board are far from the bounds of their types
pub record HasBounds (i : Inside) (k : GuestCore) : Type 0 where
  pub base : i.base ≤ 2 ^ 41
  pub rows : vec_len i.rows ≤ 2 ^ 41
  pub generation : i.generation ≤ 2 ^ 41
  pub last : i.last ≤ 2 ^ 42
  pub regions : length i.regions.nodes ≤ 32
  pub made : i.regions.made ≤ 2 ^ 47
  pub lead : k.lead.own ≤ 2 ^ 40

pub bounds : (i : Inside) (k : GuestCore) → StandsFor i k → HasBounds i k
bounds i k h =
    let b = (stands-sound i k h).bounded in
    let limits = h.limits in
    let regions : length i.regions.nodes ≤ 32 = omega (arith, regions-count i k h, b.open_regions, limits.tracks) in
    let base : i.base ≤ 2 ^ 41 = omega (arith, h.fields.base, b.base, limits.budget) in
    let rows : vec_len i.rows ≤ 2 ^ 41 = omega (arith, rows-count i k h, b.rows, b.base, limits.budget) in
    record {
      base = base;
      rows = rows;
      generation = omega (arith, h.fields.generation, b.generation, rows-count i k h, rows);
      last = omega (arith, h.fields.last, b.last, rows-count i k h, rows, regions-count i k h, regions);
      regions = regions;
      made = omega (arith, h.room.names, rows, regions);
      lead = omega (arith, b.lead, limits.budget);
    }
