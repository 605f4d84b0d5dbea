-- The fields of a board on which a region has opened.
use Rattle.std.proofs.Common.{◌≡◌, ℕ, suc, ◌+◌, ◌≤◌, Bool, true, false, not, List, [], ◌∷◌, ◌++◌, Some, None, is_some, length, nat_eq, set, vec_len, vec_capacity, refl, sym, ap, ap₂, ◌∙◌, subst, length-append, arith}
use Rattle.speculation.specs.declared.history.Entry.TheVariants as E
use Rattle.speculation.specs.declared.tracks.Name.{Name}
use Rattle.speculation.specs.declared.tracks.Kind.TheVariants.{Normal, Fast, Segment}
use Rattle.speculation.specs.Run.{Mark, Piece, marks, marks_upto}
use Rattle.speculation.specs.Core.{Track as CoreTrack, Region as CoreRegion, Between as CoreBetween, over, lead_home, at_home, front_of, track_point, at_boundary}
use Rattle.speculation.specs.Due.{Forking, due}
use Rattle.speculation.specs.Effects.{region_of, forked, ready_after_fork, base_after_fork, forked_core}
use Rattle.speculation.specs.Events.{event}
use Rattle.guest_model.specs.MachineState.{MachineState}
use Rattle.guest_model.specs.Rv32.{rv32}
use Rattle.seniority_queue.specs.Listing.{LiveNode, Listing, get, IsLive, last_key, with_value, pushed, IsSound}
use Rattle.seniority_queue.specs.declared.key.Key.{Key}
use Rattle.seniority_queue.proofs.KeyLemmas.{get-of_place, with_value-of_place}
use Rattle.speculation_law.specs.Sound.{Numbered}
use Rattle.speculation_law.proofs.Dues.{ForkingLead, due-forking, fork_test-true}
use Rattle.speculation_law.proofs.Pieces.{marks_upto-all}
use Rattle.speculation_law.proofs.SerialSteps.{event-entry_of}
use Rattle.track_state.specs.Views.{TrackView, view_of, core_track, stop_by}
use Rattle.track_state.specs.Runs.{RunsOver}
use Rattle.track_state.specs.declared.track.transitions.Forked.{Forked}
use Rattle.track_state.proofs.OnTracks.{runs_from}
use Rattle.track_board.specs.declared.board.Board.TheInside.{Inside}
use Rattle.track_board.specs.declared.due.Due.TheVariants.{Fork}
use Rattle.track_board.specs.declared.region.Between.{Between}
use Rattle.track_board.specs.declared.region.FastVersion.TheVariants.{Open}
use Rattle.track_board.specs.declared.region.Region.{Region}
use Rattle.track_board.specs.declared.slot.Slot.{Slot}
use Rattle.track_board.specs.declared.slot.Slot.TheVariants.{Home, Away}
use Rattle.track_board.specs.Forking.{LeadOpens, LeadForked}
use Rattle.track_board.specs.Value.{Posted, GuestCore, core_of, posted}
use Rattle.track_board.specs.Parts.{TrackStands, SlotStands, RegionStands, RegionsStand, core_between, ready_marks}
use Rattle.track_board.specs.Settles.{IsDue, due_of, new_lead}
use Rattle.track_board.specs.Invariant.{view_of_board, home_at, StandsFor}
use Rattle.track_board.proofs.Foundation.{core-seen, stands-sound, kind-home, own-home, held-home, state-home, boundary-home}
use Rattle.track_board.proofs.DueEvents.{is-fork}
use Rattle.track_board.proofs.Finishes.{IsPushed, pushed-view, pushed-legal, due-stood}
use Rattle.track_board.proofs.Homes.{new-home, beyond-last}
use Rattle.track_board.proofs.Queues.{KeepsNumbers, keeps-then, keeps-behind, keeps-changed, loans-kept, youngest, no_youngest, set-last}
use Rattle.track_board.proofs.ReadyMarks.{ready_marks-push}
use Rattle.track_board.proofs.Spared.{one_if-bound}

-- ---- regions

-- there is a region
abbrev IsOpen : List (CoreRegion MachineState) → Type 0
IsOpen [] = ⊥
IsOpen (r ∷ rs) = Unit {0}

ready-open : (rs : List (CoreRegion MachineState)) (ready : List Mark) (lead : CoreTrack MachineState) → IsOpen rs → ready_after_fork rs ready lead ≡ ready
ready-open [] ready lead h = absurd h
ready-open (r ∷ rs) ready lead h = refl

base-open : (rs : List (CoreRegion MachineState)) (base : ℕ) (lead : CoreTrack MachineState) → IsOpen rs → base_after_fork rs base lead ≡ base
base-open [] base lead h = absurd h
base-open (r ∷ rs) base lead h = refl

module _ (input : List ℕ) (limit : ℕ) (home : ℕ → Bool) where
  -- the youngest region is followed by the closed segment and the new region
  regions-forked : (older : List (LiveNode Region)) (node new : LiveNode Region) (rs : List (CoreRegion MachineState)) (segment : Between) (g : CoreBetween) (r2 : CoreRegion MachineState) → core_between segment ≡ g
      → RegionStands input limit (home r2.number) new.value r2 → RegionsStand input limit home (older ++ (node ∷ [])) rs
      → RegionsStand input limit home ((older ++ (record node { value = record node.value { segment = Some segment } } ∷ [])) ++ (new ∷ [])) (forked rs g r2)
  regions-forked [] node new [] segment g r2 is stands h = absurd h
  regions-forked [] node new (r ∷ []) segment g r2 is stands h =
      (record { number = h.0.number; normal = h.0.normal; fast = h.0.fast; keeps = h.0.keeps; segment = ap (λ (x : CoreBetween). Some x) is }, (stands, tt))
  regions-forked [] node new (r ∷ (r1 ∷ rs)) segment g r2 is stands h = absurd h.1
  regions-forked (x ∷ older) node new [] segment g r2 is stands h = absurd h
  regions-forked (x ∷ []) node new (r ∷ []) segment g r2 is stands h = absurd h.1
  regions-forked (x ∷ (y ∷ older)) node new (r ∷ []) segment g r2 is stands h = absurd h.1
  regions-forked (x ∷ older) node new (r ∷ (r1 ∷ rs)) segment g r2 is stands h = (h.0, regions-forked older node new (r1 ∷ rs) segment g r2 is stands h.1)

  open-by : (older : List (LiveNode Region)) (node : LiveNode Region) (rs : List (CoreRegion MachineState)) → RegionsStand input limit home (older ++ (node ∷ [])) rs → IsOpen rs
  open-by [] node [] h = absurd h
  open-by (x ∷ older) node [] h = absurd h
  open-by older node (r ∷ rs) h = tt

  no-regions : (ns : List (LiveNode Region)) (rs : List (CoreRegion MachineState)) → RegionsStand input limit home ns rs → ns ≡ [] → rs ≡ []
  no-regions [] [] h is = refl
  no-regions [] (r ∷ rs) h is = absurd h
  no-regions (n ∷ ns) rs h is = absurd (cc)

-- the youngest region is found by its key
pub youngest-found : (q : Listing Region) (last : Key) (sound : IsSound q) (some : Some last ≡ last_key q.nodes) → get q last ≡ Some (youngest q.nodes last (sym some)).node.value
youngest-found q last sound some =
    let y = youngest q.nodes last (sym some) in
    ap (get q) (sym y.key_is) ∙ get-of_place q sound (length y.older) y.node y.at

pub youngest-live : (q : Listing Region) (last : Key) → IsSound q → Some last ≡ last_key q.nodes → IsLive q last
youngest-live q last sound some = ap is_some (youngest-found q last sound some)

-- a value that is set makes no node
pub set-same : (q q2 : Listing Region) (last : Key) (segment : Between) → IsSound q → Some last ≡ last_key q.nodes
    → ((x : Region) → get q last ≡ Some x → q2 ≡ with_value q last (record x { segment = Some segment })) → (q2.spare ≡ q.spare) × (q2.made ≡ q.made)
set-same q q2 last segment sound some puts =
    let is = puts (youngest q.nodes last (sym some)).node.value (youngest-found q last sound some) in
    (ap (λ (x : Listing Region). x.spare) is, ap (λ (x : Listing Region). x.made) is)

-- ---- tracks

module _ (input : List ℕ) (limit : ℕ) where
  lead-opens : (s : Slot) (home : Bool) (t : CoreTrack MachineState) → SlotStands input limit s home t → home ≡ true → t.kind ≡ Segment → at_boundary (rv32 input) t ≡ true → LeadOpens s
  lead-opens (Away n) home t h here kind boundary = absurd (let away : home ≡ false = h.away in cc)
  lead-opens (Home x) home t h here kind boundary =
      let v = view_of x in
      record {
        kind = sym (kind-home input limit x home t h) ∙ kind;
        stop = ap (λ (b : Bool). stop_by b v.end (nat_eq v.own v.budget)) (sym (boundary-home input limit x home t h) ∙ boundary);
      }

  -- what the track hands out that has forked
  pub record HasForked (f : Forked) (lead : Slot) (t : CoreTrack MachineState) : Type 0 where
    pub steps : f.steps ≡ t.own
    pub held : f.held ≡ t.held
    pub normal : (home : Bool) → home ≡ true → TrackStands input limit f.normal home (record { kind = Normal; start = (track_point (rv32 input) t).state; own = 0; held = [] })
    pub fast : (home : Bool) → home ≡ true → SlotStands input limit lead home (record { kind = Fast; start = (track_point (rv32 input) t).state; own = 0; held = [] })

  has-forked : (x y : Slot) (home : Bool) (t : CoreTrack MachineState) (f : Forked) → SlotStands input limit x home t → LeadForked x y f → HasForked f y t
  has-forked (Home x) (Home y) home t f h is =
      let v = view_of x in
      let at : v.state ≡ (track_point (rv32 input) t).state = sym (state-home input limit x home t h) in
      record {
        steps = is.steps ∙ sym (own-home input limit x home t h);
        held = is.held ∙ sym (held-home input limit x home t h);
        normal = λ new here. record {
          here = here;
          is = ap core_track is.normal ∙ ap (λ (s : MachineState). let u : CoreTrack MachineState = record { kind = Normal; start = s; own = 0; held = [] } in u) at;
          runs = subst (RunsOver input) (sym is.normal) (runs_from input Normal v h.runs);
          budget = ap (λ (u : TrackView). u.budget) is.normal ∙ h.budget;
        };
        fast = λ new here. record {
          here = here;
          is = ap core_track is.fast ∙ ap (λ (s : MachineState). let u : CoreTrack MachineState = record { kind = Fast; start = s; own = 0; held = [] } in u) at;
          runs = subst (RunsOver input) (sym is.fast) (runs_from input Fast v h.runs);
          budget = ap (λ (u : TrackView). u.budget) is.fast ∙ h.budget;
        };
      }
  has-forked (Home x) (Away n) home t f h is = absurd is
  has-forked (Away m) (Home y) home t f h is = absurd is
  has-forked (Away m) (Away n) home t f h is = absurd is

-- ---- the board

module _ (i : Inside) (k : GuestCore) (h : StandsFor i k) (v : Posted) (seen : view_of_board i ≡ v) (d : IsDue (Some Fork) (due_of v)) where
  fork-due : due (rv32 i.input.value) i.settings k ≡ Some Forking
  fork-due = due-stood i k (Some Forking) h (ap due_of seen ∙ is-fork (due_of v) d)

  pub forking : ForkingLead (rv32 i.input.value) i.settings k
  forking = fork_test-true (rv32 i.input.value) i.settings k (due-forking (rv32 i.input.value) i.settings k fork-due).forks

  fork-live : over k ≡ false
  fork-live = (due-forking (rv32 i.input.value) i.settings k fork-due).live

  -- the lead stands at its boundary
  pub fork-opens : LeadOpens i.lead
  fork-opens = lead-opens i.input.value i.settings.budget i.lead (lead_home k) k.lead h.fields.lead forking.home forking.kind forking.boundary

  -- the segment's count is the core's
  pub fork-steps : (lead : Slot) (f : Forked) → LeadForked i.lead lead f → f.steps ≡ k.lead.own
  fork-steps lead f is = (has-forked i.input.value i.settings.budget i.lead lead (lead_home k) k.lead f h.fields.lead is).steps

  fork-event : event (rv32 i.input.value) i.settings k (E.Fork (new_lead k)) ≡ Some (forked_core (rv32 i.input.value) k)
  fork-event = event-entry_of (rv32 i.input.value) i.settings k Forking fork-due

  new-name : record { generation = i.generation; region = i.last + 1; normal = false } ≡ new_lead k
  new-name =
      let number : i.last + 1 ≡ suc k.last = omega (arith, h.fields.last) in
      ap₂ (λ (g n : ℕ). let name : Name = record { generation = g; region = n; normal = false } in name) h.fields.generation number

  -- the tracks of the new region are at home
  fresh-home : (normal : Bool) → at_home k (record { generation = k.generation; region = suc k.last; normal = normal }) ≡ true
  fresh-home normal =
      let sound = stands-sound i k h in
      let n : Name = record { generation = k.generation; region = suc k.last; normal = normal } in
      new-home k sound.named n (sound.good.lost fork-live) (beyond-last k sound.named n refl)

  -- what has been done to the fields, whatever became of the closed segment
  pub record Opened (j : Inside) (f : Forked) : Type 0 where
    pub entries : j.entries.items ≡ i.entries.items ++ (E.Fork (record { generation = i.generation; region = i.last + 1; normal = false }) ∷ [])
    pub len : vec_len j.entries ≡ vec_len i.entries + 1
    pub room : vec_len i.entries + (vec_len i.loans + 2) ≤ vec_capacity j.entries
    pub capacity : vec_capacity i.entries ≤ vec_capacity j.entries
    pub last : j.last ≡ i.last + 1
    pub lead : LeadForked i.lead j.lead f

  module _ (j : Inside) (f : Forked) (o : Opened j f) where
    has-pushed : IsPushed i j (E.Fork (new_lead k))
    has-pushed = record { items = o.entries ∙ ap (λ (n : Name). i.entries.items ++ (E.Fork n ∷ [])) new-name; len = o.len; capacity = o.capacity }

    pub fork-view : view_of_board (record i { entries = j.entries }) ≡ posted v (E.Fork (new_lead (core_of v)))
    fork-view =
        pushed-view i j (E.Fork (new_lead k)) has-pushed
        ∙ ap₂ (λ (u : Posted) (n : Name). posted u (E.Fork n)) seen (ap new_lead (sym (core-seen i k v h seen)))

    tracks : HasForked i.input.value i.settings.budget f j.lead k.lead
    tracks = has-forked i.input.value i.settings.budget i.lead j.lead (lead_home k) k.lead f h.fields.lead o.lead

    -- the new region
    region-stands : (r : Region) → r ≡ record { number = i.last + 1; normal = Home f.normal; fast = Open; segment = None }
        → RegionStands i.input.value i.settings.budget (home_at k (suc k.last)) r (region_of (suc k.last) (track_point (rv32 i.input.value) k.lead).state)
    region-stands r is =
        let made : RegionStands i.input.value i.settings.budget (home_at k (suc k.last)) (record { number = i.last + 1; normal = Home f.normal; fast = Open; segment = None })
        (region_of (suc k.last) (track_point (rv32 i.input.value) k.lead).state)
        = record { number = omega (arith, h.fields.last); normal = tracks.normal (home_at k (suc k.last)) (fresh-home true); fast = refl; keeps = tt; segment = refl } in
        subst (λ (x : Region). RegionStands i.input.value i.settings.budget (home_at k (suc k.last)) x (region_of (suc k.last) (track_point (rv32 i.input.value) k.lead).state)) (sym is) made

    stands-with : ready_marks j.ready.items ≡ ready_after_fork k.regions k.ready k.lead → j.base ≡ base_after_fork k.regions k.base k.lead
        → RegionsStand i.input.value i.settings.budget (home_at k) j.regions.nodes (forked k.regions (record { steps = k.lead.own; pieces = k.lead.held }) (region_of (suc k.last) (track_point (rv32 i.input.value) k.lead).state))
        → KeepsNumbers i.regions j.regions → j.regions.made ≡ i.regions.made + 1 → length j.regions.nodes ≡ length i.regions.nodes + 1
        → StandsFor (record i { base = j.base; ready = j.ready; last = j.last; regions = j.regions; lead = j.lead; entries = j.entries }) (forked_core (rv32 i.input.value) k)
    stands-with ready base regions numbers made count = record {
      limits = h.limits;
      guest = h.guest;
      legal = pushed-legal i j (E.Fork (new_lead k)) k (forked_core (rv32 i.input.value) k) has-pushed h.legal fork-event;
      fields = record {
        base = base;
        ready = ready;
        rows = h.fields.rows;
        generation = h.fields.generation;
        last = omega (arith, o.last, h.fields.last);
        regions = regions;
        lead = tracks.fast (lead_home (forked_core (rv32 i.input.value) k)) (fresh-home false);
        loans = h.fields.loans;
        keys = loans-kept i.regions j.regions numbers i.loans.items h.fields.keys;
        finish = h.fields.finish;
        halted = h.fields.halted;
      };
      room = record {
        entries = (let one = one_if-bound (not (over k)) in omega (arith, o.len, o.room));
        names = omega (arith, made, count, h.room.names);
      };
    }

    -- No region was open: the segment is verified.
    pub opens-first : (key : Key) (r : Region) → None ≡ last_key i.regions.nodes → r ≡ record { number = i.last + 1; normal = Home f.normal; fast = Open; segment = None }
        → j.regions ≡ pushed i.regions key r
        → j.ready.items ≡ i.ready.items ++ (record { limit = f.steps; held = f.held } ∷ []) → j.base ≡ i.base + f.steps
        → StandsFor (record i { base = j.base; ready = j.ready; last = j.last; regions = j.regions; lead = j.lead; entries = j.entries }) (forked_core (rv32 i.input.value) k)
    opens-first key r empty is put ready base =
        let input = i.input.value in
        let nodes : j.regions.nodes ≡ i.regions.nodes ++ (record { key = key; value = r } ∷ []) = ap (λ (x : Listing Region). x.nodes) put in
        let sound = stands-sound i k h in
        let none : i.regions.nodes ≡ [] = no_youngest i.regions.nodes (sym empty) in
        let closed : k.regions ≡ [] = no-regions input i.settings.budget (home_at k) i.regions.nodes k.regions h.fields.regions none in
        let new : CoreRegion MachineState = region_of (suc k.last) (track_point (rv32 input) k.lead).state in
        let g : CoreBetween = record { steps = k.lead.own; pieces = k.lead.held } in
        let numbered = subst (λ (rs : List (CoreRegion MachineState)). Numbered 0 (front_of rs k.lead).own (front_of rs k.lead).held) closed sound.good.numbered in
        let all : marks_upto f.steps f.held ≡ marks k.lead.held
        = ap₂ marks_upto tracks.steps tracks.held ∙ marks_upto-all 0 k.lead.own k.lead.own k.lead.held numbered (omega arith) in
        let marks_are : ready_marks j.ready.items ≡ k.ready ++ marks k.lead.held
        = ap ready_marks ready ∙ ready_marks-push i.ready.items (record { limit = f.steps; held = f.held }) ∙ ap₂ (λ (xs ys : List Mark). xs ++ ys) h.fields.ready all in
        let one : RegionsStand input i.settings.budget (home_at k) (record { key = key; value = r } ∷ []) (new ∷ []) = (region-stands r is, tt) in
        let listed : j.regions.nodes ≡ record { key = key; value = r } ∷ [] = nodes ∙ ap (λ (ns : List (LiveNode Region)). ns ++ (record { key = key; value = r } ∷ [])) none in
        stands-with
        (subst (λ (rs : List (CoreRegion MachineState)). ready_marks j.ready.items ≡ ready_after_fork rs k.ready k.lead) (sym closed) marks_are)
        (subst (λ (rs : List (CoreRegion MachineState)). j.base ≡ base_after_fork rs k.base k.lead) (sym closed) (omega (arith, base, h.fields.base, tracks.steps)))
        (subst (λ (rs : List (CoreRegion MachineState)). RegionsStand input i.settings.budget (home_at k) j.regions.nodes (forked rs g new)) (sym closed)
        (subst (λ (ns : List (LiveNode Region)). RegionsStand input i.settings.budget (home_at k) ns (new ∷ [])) (sym listed) one))
        (keeps-behind i.regions j.regions (record { key = key; value = r }) nodes)
        (ap (λ (x : Listing Region). x.made) put) (ap length nodes ∙ length-append i.regions.nodes (record { key = key; value = r } ∷ []))

    -- Regions are open: the segment stands behind the youngest.
    pub opens-behind : (q : Listing Region) (last key : Key) (r : Region) (segment : Between) → IsSound i.regions → Some last ≡ last_key i.regions.nodes
        → ((x : Region) → get i.regions last ≡ Some x → q ≡ with_value i.regions last (record x { segment = Some segment }))
        → r ≡ record { number = i.last + 1; normal = Home f.normal; fast = Open; segment = None } → segment ≡ record { steps = f.steps; held = f.held }
        → j.regions ≡ pushed q key r → j.ready.items ≡ i.ready.items → j.base ≡ i.base
        → StandsFor (record i { base = j.base; ready = j.ready; last = j.last; regions = j.regions; lead = j.lead; entries = j.entries }) (forked_core (rv32 i.input.value) k)
    opens-behind q last key r segment sound some puts is closed put ready base =
        let input = i.input.value in
        let nodes : j.regions.nodes ≡ q.nodes ++ (record { key = key; value = r } ∷ []) = ap (λ (x : Listing Region). x.nodes) put in
        let y = youngest i.regions.nodes last (sym some) in
        let place = length y.older in
        let value : Region = record y.node.value { segment = Some segment } in
        let found : get i.regions last ≡ Some y.node.value = youngest-found i.regions last sound some in
        let changed : q.nodes ≡ set i.regions.nodes place (record y.node { value = value })
        = ap (λ (x : Listing Region). x.nodes) (puts y.node.value found)
        ∙ ap (λ (x : Key). (with_value i.regions x value).nodes) (sym y.key_is) ∙ with_value-of_place i.regions sound place y.node y.at value in
        let listed : q.nodes ≡ y.older ++ (record y.node { value = value } ∷ [])
        = changed ∙ ap (λ (ns : List (LiveNode Region)). set ns place (record y.node { value = value })) y.nodes_are ∙ set-last y.older y.node (record y.node { value = value }) in
        let count : length q.nodes ≡ length i.regions.nodes = ap length listed ∙ length-append y.older (record y.node { value = value } ∷ []) ∙ sym (length-append y.older (y.node ∷ [])) ∙ ap length (sym y.nodes_are) in
        let new : CoreRegion MachineState = region_of (suc k.last) (track_point (rv32 input) k.lead).state in
        let g : CoreBetween = record { steps = k.lead.own; pieces = k.lead.held } in
        let between : core_between segment ≡ g = ap core_between closed ∙ ap₂ (λ (n : ℕ) (ps : List Piece). let b : CoreBetween = record { steps = n; pieces = ps } in b) tracks.steps tracks.held in
        let old : RegionsStand input i.settings.budget (home_at k) (y.older ++ (y.node ∷ [])) k.regions
        = subst (λ (ns : List (LiveNode Region)). RegionsStand input i.settings.budget (home_at k) ns k.regions) y.nodes_are h.fields.regions in
        let stands = regions-forked input i.settings.budget (home_at k) y.older y.node (record { key = key; value = r }) k.regions segment g new between (region-stands r is) old in
        let all : j.regions.nodes ≡ (y.older ++ (record y.node { value = value } ∷ [])) ++ (record { key = key; value = r } ∷ [])
        = nodes ∙ ap (λ (ns : List (LiveNode Region)). ns ++ (record { key = key; value = r } ∷ [])) listed in
        let open_now : IsOpen k.regions = open-by input i.settings.budget (home_at k) y.older y.node k.regions old in
        stands-with
        (ap ready_marks ready ∙ h.fields.ready ∙ sym (ready-open k.regions k.ready k.lead open_now))
        (base ∙ h.fields.base ∙ sym (base-open k.regions k.base k.lead open_now))
        (subst (λ (ns : List (LiveNode Region)). RegionsStand input i.settings.budget (home_at k) ns (forked k.regions g new)) (sym all) stands)
        (keeps-then i.regions q j.regions (keeps-changed i.regions q place y.node value y.at refl changed) (keeps-behind q j.regions (record { key = key; value = r }) nodes))
        (ap (λ (x : Listing Region). x.made) put ∙ ap (λ (x : Listing Region). x.made + 1) (puts y.node.value found))
        (ap length nodes ∙ length-append q.nodes (record { key = key; value = r } ∷ []) ∙ ap (λ (n : ℕ). n + 1) count)
