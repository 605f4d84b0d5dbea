-- The tests that find what may be lent, over the fields of a board, are those of the core that these stand for.
use Rattle.std.proofs.Common.{◌≡◌, ◌≢◌, ℕ, ◌≤◌, Bool, true, false, not, ◌&&◌, ◌||◌, List, [], ◌∷◌, Option, Some, None, option_map, find, is_some, if◌then◌else◌, nat_eq, nat_lt, refl, sym, ap, ap₂, ◌∙◌, subst, eqb-true, eq-eqb, ne_eqb, arith}
use Rattle.std.proofs.lemmas.Bool.{and_right}
use Rattle.speculation.specs.declared.tracks.Kind.{Kind}
use Rattle.speculation.specs.declared.tracks.Kind.TheVariants.{Normal, Fast}
use Rattle.speculation.specs.declared.tracks.Name.{Name}
use Rattle.speculation.specs.declared.history.Settings.{Settings}
use Rattle.speculation.specs.Run.{Piece, fresh, go}
use Rattle.speculation.specs.Core.{Track as CoreTrack, Region as CoreRegion, over, lead_name, normal_name, lead_home, find_normal, track_by, find_track, track_point, at_boundary, has_stop, is_kind, held_size, most_held}
use Rattle.speculation.specs.Events.{wanted, ready_to_go, is_ready, lendable}
use Rattle.speculation.specs.Serial.{first_lendable}
use Rattle.speculation_law.specs.Facts.{Tail, Chain}
use Rattle.speculation_law.specs.Naming.{Rising}
use Rattle.guest_model.specs.MachineState.{MachineState}
use Rattle.guest_model.specs.Rv32.{rv32}
use Rattle.guest_model.specs.declared.end.End.{End}
use Rattle.seniority_queue.specs.Listing.{LiveNode}
use Rattle.track_state.specs.Views.{view_of, is_at_boundary, stop_by}
use Rattle.track_state.specs.declared.track.Track.{Track}
use Rattle.track_board.specs.declared.board.Board.TheInside.{Inside}
use Rattle.track_board.specs.declared.region.Region.{Region}
use Rattle.track_board.specs.declared.slot.Slot.{Slot}
use Rattle.track_board.specs.declared.slot.Slot.TheVariants.{Home, Away}
use Rattle.track_board.specs.Value.{Posted, GuestCore, start_state, core_of}
use Rattle.track_board.specs.Parts.{TrackStands, SlotStands, RegionsStand}
use Rattle.track_board.specs.Loans.{may_lend, oldest_lendable}
use Rattle.track_board.specs.Invariant.{view_of_board, home_at, StandsFor}
use Rattle.track_board.specs.LendTests.{last_region, numbered, runs_by, may_run, is_below, is_below_last, is_wanted, may_go, normal_may_go, found_may_go, named_may_go, first_to_go}
use Rattle.track_board.proofs.Foundation.{core-stood, core-seen, stands-sound, kind-home, own-home, held-home, end-home, boundary-home}
use Rattle.track_board.proofs.DueTests.{is_boundary-by}

-- ---- originals

abbrev pub AreNormal : List (CoreRegion MachineState) → Type 0
AreNormal [] = Unit {0}
AreNormal (r ∷ rs) = (r.normal.kind ≡ Normal) × AreNormal rs

-- each is found by its number among `all`
abbrev pub AreFound : (all : List (CoreRegion MachineState)) → List (CoreRegion MachineState) → Type 0
AreFound all [] = Unit {0}
AreFound all (r ∷ rs) = (find_normal r.number all ≡ Some r.normal) × AreFound all rs

found-behind : (first : CoreRegion MachineState) (all : List (CoreRegion MachineState)) (low high : ℕ) (rs : List (CoreRegion MachineState)) → first.number ≤ low → Rising low high rs → AreFound all rs → AreFound (first ∷ all) rs
found-behind first all low high [] le rising h = tt
found-behind first all low high (r ∷ rs) le rising h =
    let apart : nat_eq r.number first.number ≡ false = ne_eqb r.number first.number (λ same. absurd (omega (arith, rising.0))) in
    (ap (λ (t : Bool). if t then Some first.normal else find_normal r.number all) apart ∙ h.0, found-behind first all r.number high rs (omega (arith, rising.0)) rising.1 h.1)

rising-found : (low high : ℕ) (rs : List (CoreRegion MachineState)) → Rising low high rs → AreFound rs rs
rising-found low high [] h = tt
rising-found low high (r ∷ rs) h =
    (ap (λ (t : Bool). if t then Some r.normal else find_normal r.number rs) (eq-eqb r.number r.number refl), found-behind r rs r.number high rs (omega arith) h.1 (rising-found r.number high rs h.1))

module _ (input : List ℕ) where
  tail-normal : (r : CoreRegion MachineState) (rs : List (CoreRegion MachineState)) (lead : CoreTrack MachineState) → Tail (rv32 input) r.start r.part r.segment rs lead → AreNormal rs
  tail-normal r [] lead h = tt
  tail-normal r (r2 ∷ rs) lead h = (h.normal.kind, tail-normal r2 rs lead h.tail)

  chain-normal : (s : MachineState) (rs : List (CoreRegion MachineState)) (lead : CoreTrack MachineState) → Chain (rv32 input) s rs lead → AreNormal rs
  chain-normal s [] lead h = tt
  chain-normal s (r ∷ rs) lead h = (h.normal.kind, tail-normal r rs lead (subst (λ (u : MachineState). Tail (rv32 input) u r.part r.segment rs lead) (sym h.start) h.tail))

-- ---- one track

runs-stop : (boundary : Bool) (e : Option End) (spent few : Bool) → runs_by (stop_by boundary e spent) few ≡ (not (boundary || (is_some e || spent)) && few)
runs-stop true e spent few = refl
runs-stop false (Some e) spent few = refl
runs-stop false None true few = refl
runs-stop false None false few = refl

go-parts : (stopped few useful : Bool) → (if not stopped && few then useful else false) ≡ (true && (not stopped && (few && useful)))
go-parts true few useful = refl
go-parts false true useful = refl
go-parts false false useful = refl

-- both tests are asked of a fast version alone
only-fast : (fast x y : Bool) → (fast ≡ true → x ≡ y) → (if fast then x else true) ≡ (if fast then y else true)
only-fast true x y h = h refl
only-fast false x y h = refl

module _ (input : List ℕ) (b : Settings) where
  run-home : (x : Track) (home : Bool) (t : CoreTrack MachineState) → TrackStands input b.budget x home t → may_run (view_of x) ≡ (not (has_stop (rv32 input) b t) && nat_lt (held_size t.held) most_held)
  run-home x home t h =
      let v = view_of x in
      let few : List Piece → Bool = λ ps. nat_lt (held_size ps) most_held in
      runs-stop (is_at_boundary v) v.end (nat_eq v.own v.budget) (few v.held)
      ∙ ap (λ (q : Bool). not (q || (is_some v.end || nat_eq v.own v.budget)) && few v.held) (sym (boundary-home input b.budget x home t h))
      ∙ ap (λ (e : Option End). not (at_boundary (rv32 input) t || (is_some e || nat_eq v.own v.budget)) && few v.held) (sym (end-home input b.budget x home t h))
      ∙ ap₂ (λ (n limit : ℕ). not (at_boundary (rv32 input) t || (is_some (track_point (rv32 input) t).end || nat_eq n limit)) && few v.held) (sym (own-home input b.budget x home t h)) h.budget
      ∙ ap (λ (ps : List Piece). not (has_stop (rv32 input) b t) && few ps) (sym (held-home input b.budget x home t h))

  below-slot : (own : ℕ) (x : Slot) (home : Bool) (t : CoreTrack MachineState) → SlotStands input b.budget x home t → is_below own x ≡ (if home && at_boundary (rv32 input) t then nat_lt own t.own else true)
  below-slot own (Away before) home t h = rw h.away refl
  below-slot own (Home x) home t h =
      let v = view_of x in
      ap (λ (q : Bool). if q then nat_lt own v.own else true) (is_boundary-by (is_at_boundary v) v.end _)
      ∙ ap (λ (p : Bool). if p && is_at_boundary v then nat_lt own v.own else true) (sym h.here)
      ∙ ap (λ (q : Bool). if home && q then nat_lt own v.own else true) (sym (boundary-home input b.budget x home t h))
      ∙ ap (λ (n : ℕ). if home && at_boundary (rv32 input) t then nat_lt own n else true) (sym (own-home input b.budget x home t h))

  module _ (k : GuestCore) where
    wanted-regions : (own : ℕ) (ns : List (LiveNode Region)) (rs : List (CoreRegion MachineState)) → own ≡ k.lead.own → RegionsStand input b.budget (home_at k) ns rs → is_below_last own (last_region ns) ≡ wanted (rv32 input) k rs
    wanted-regions own [] [] is h = refl
    wanted-regions own [] (r ∷ rs) is h = absurd h
    wanted-regions own (n ∷ []) [] is h = absurd h
    wanted-regions own (n ∷ (n2 ∷ ns)) [] is h = absurd h
    wanted-regions own (n ∷ []) (r ∷ []) is h =
        below-slot own n.value.normal (home_at k r.number) r.normal h.0.normal
        ∙ ap (λ (x : ℕ). if home_at k r.number && at_boundary (rv32 input) r.normal then nat_lt x r.normal.own else true) is
    wanted-regions own (n ∷ []) (r ∷ (r2 ∷ rs)) is h = absurd h.1
    wanted-regions own (n ∷ (n2 ∷ ns)) (r ∷ []) is h = absurd h.1
    wanted-regions own (n ∷ (n2 ∷ ns)) (r ∷ (r2 ∷ rs)) is h = wanted-regions own (n2 ∷ ns) (r2 ∷ rs) is h.1

    module _ (all : List (LiveNode Region)) (stand : RegionsStand input b.budget (home_at k) all k.regions) where
      -- whether the track in a place may go out
      go-slot : (x : Slot) (home : Bool) (t : CoreTrack MachineState) → SlotStands input b.budget x home t → (is_kind t.kind Fast ≡ true → t.own ≡ k.lead.own)
          → may_go x all ≡ (home && (not (has_stop (rv32 input) b t) && (nat_lt (held_size t.held) most_held && (if is_kind t.kind Fast then wanted (rv32 input) k k.regions else true))))
      go-slot (Away own) home t h leads = rw h.away refl
      go-slot (Home x) home t h leads =
          let v = view_of x in
          let few = nat_lt (held_size t.held) most_held in
          let useful = if is_kind t.kind Fast then wanted (rv32 input) k k.regions else true in
          let same : is_wanted v all ≡ useful =
          ap (λ (kind : Kind). if is_kind kind Fast then is_below_last v.own (last_region all) else true) (sym (kind-home input b.budget x home t h))
          ∙ only-fast (is_kind t.kind Fast) (is_below_last v.own (last_region all)) (wanted (rv32 input) k k.regions)
          (λ fast. wanted-regions v.own all k.regions (sym (own-home input b.budget x home t h) ∙ leads fast) stand) in
          ap₂ (λ (p q : Bool). if p then q else false) (run-home x home t h) same
          ∙ go-parts (has_stop (rv32 input) b t) few useful
          ∙ ap (λ (p : Bool). p && (not (has_stop (rv32 input) b t) && (few && useful))) (sym h.here)

      -- an original is no fast version
      normal-leads : (t : CoreTrack MachineState) → t.kind ≡ Normal → is_kind t.kind Fast ≡ true → t.own ≡ k.lead.own
      normal-leads t kind fast = absurd (let none : is_kind t.kind Fast ≡ false = ap (λ (x : Kind). is_kind x Fast) kind in cc)

      -- whether the original of the region of a number may go out
      normals-ready : (number : ℕ) (ns : List (LiveNode Region)) (rs : List (CoreRegion MachineState)) → RegionsStand input b.budget (home_at k) ns rs → AreNormal rs
          → found_may_go (numbered number ns) all ≡ is_ready (rv32 input) b k (record { generation = k.generation; region = number; normal = true }) (find_normal number rs)
      normals-ready number [] [] h normal = refl
      normals-ready number [] (r ∷ rs) h normal = absurd h
      normals-ready number (n ∷ ns) [] h normal = absurd h
      normals-ready number (n ∷ ns) (r ∷ rs) h normal =
          ap (λ (other : ℕ). found_may_go (if nat_eq number other then Some n else numbered number ns) all) h.0.number
          ∙ by-test (nat_eq number r.number) refl (normals-ready number ns rs h.1 normal.1)
        where
          by-test : (u : Bool) → nat_eq number r.number ≡ u
              → found_may_go (numbered number ns) all ≡ is_ready (rv32 input) b k (record { generation = k.generation; region = number; normal = true }) (find_normal number rs)
              → found_may_go (if u then Some n else numbered number ns) all ≡ is_ready (rv32 input) b k (record { generation = k.generation; region = number; normal = true }) (if u then Some r.normal else find_normal number rs)
          by-test true is rest =
              go-slot n.value.normal (home_at k r.number) r.normal h.0.normal (normal-leads r.normal normal.0)
              ∙ ap (λ (other : ℕ). ready_to_go (rv32 input) b k (record { generation = k.generation; region = other; normal = true }) r.normal) (sym (eqb-true number r.number is))
          by-test false is rest = rest

      module _ (normal : AreNormal k.regions) (lead : Slot) (leads : SlotStands input b.budget lead (lead_home k) k.lead) where
        lead-ready : may_go lead all ≡ ready_to_go (rv32 input) b k (lead_name k) k.lead
        lead-ready = go-slot lead (lead_home k) k.lead leads (λ fast. refl)

        -- whether the track of a name of the present generation may go out
        present-ready : (region : ℕ) (original : Bool) → named_may_go k.last (record { generation = k.generation; region = region; normal = original }) all lead
            ≡ is_ready (rv32 input) b k (record { generation = k.generation; region = region; normal = original }) (track_by true original (nat_eq region k.last) (find_normal region k.regions) k.lead)
        present-ready region true = normals-ready region all k.regions stand normal
        present-ready region false = by-last (nat_eq region k.last) refl
          where
            by-last : (u : Bool) → nat_eq region k.last ≡ u
                → (if u then may_go lead all else false) ≡ is_ready (rv32 input) b k (record { generation = k.generation; region = region; normal = false }) (track_by true false u (find_normal region k.regions) k.lead)
            by-last true is = lead-ready ∙ ap (λ (other : ℕ). ready_to_go (rv32 input) b k (record { generation = k.generation; region = other; normal = false }) k.lead) (sym (eqb-true region k.last is))
            by-last false is = refl

        -- the code's last number and generation are the core's
        named-ready : (n : Name) (last : ℕ) → last ≡ k.last → n.generation ≡ k.generation → over k ≡ false → named_may_go last n all lead ≡ lendable (rv32 input) b k n
        named-ready n last is generation live =
            ap (λ (x : ℕ). named_may_go x n all lead) is
            ∙ present-ready n.region n.normal
            ∙ ap (λ (g : ℕ). is_ready (rv32 input) b k (record { generation = g; region = n.region; normal = n.normal }) (track_by true n.normal (nat_eq n.region k.last) (find_normal n.region k.regions) k.lead)) (sym generation)
            ∙ ap (λ (p : Bool). is_ready (rv32 input) b k n (track_by p n.normal (nat_eq n.region k.last) (find_normal n.region k.regions) k.lead)) (sym (eq-eqb n.generation k.generation generation))
            ∙ ap (λ (o : Bool). not o && is_ready (rv32 input) b k n (find_track k n)) (sym live)

        present : nat_eq k.generation k.generation ≡ true
        present = eq-eqb k.generation k.generation refl

        lead-lendable : over k ≡ false → may_go lead all ≡ lendable (rv32 input) b k (lead_name k)
        lead-lendable live =
            ap (λ (u : Bool). if u then may_go lead all else false) (sym (eq-eqb k.last k.last refl))
            ∙ named-ready (lead_name k) k.last refl refl live

        normal-lendable : (n : LiveNode Region) (r : CoreRegion MachineState) → SlotStands input b.budget n.value.normal (home_at k r.number) r.normal → r.normal.kind ≡ Normal → find_normal r.number k.regions ≡ Some r.normal → over k ≡ false
            → normal_may_go all n ≡ lendable (rv32 input) b k (normal_name k r)
        normal-lendable n r h kind found live =
            go-slot n.value.normal (home_at k r.number) r.normal h (normal-leads r.normal kind)
            ∙ ap (is_ready (rv32 input) b k (normal_name k r)) (sym found)
            ∙ ap (λ (p : Bool). is_ready (rv32 input) b k (normal_name k r) (track_by p true (nat_eq r.number k.last) (find_normal r.number k.regions) k.lead)) (sym present)
            ∙ ap (λ (o : Bool). not o && is_ready (rv32 input) b k (normal_name k r) (find_track k (normal_name k r))) (sym live)

        -- the oldest name, by the number of the oldest region whose original may go out, and whether the lead may
        abbrev pub oldest_by : Option ℕ → Bool → Option Name
        oldest_by (Some number) leads = Some (record { generation = k.generation; region = number; normal = true })
        oldest_by None true = Some (lead_name k)
        oldest_by None false = None

        oldest-lead : (u : Bool) → oldest_by None u ≡ (if u then Some (lead_name k) else None)
        oldest-lead true = refl
        oldest-lead false = refl

        regions-oldest : (ns : List (LiveNode Region)) (rs : List (CoreRegion MachineState)) → RegionsStand input b.budget (home_at k) ns rs → AreNormal rs → AreFound k.regions rs → over k ≡ false
            → oldest_by (option_map (λ n. n.value.number) (find (normal_may_go all) ns)) (may_go lead all) ≡ first_lendable (rv32 input) b k rs
        regions-oldest [] [] h kinds found live =
            oldest-lead (may_go lead all) ∙ ap (λ (t : Bool). if t then Some (lead_name k) else None) (lead-lendable live)
        regions-oldest [] (r ∷ rs) h kinds found live = absurd h
        regions-oldest (n ∷ ns) [] h kinds found live = absurd h
        regions-oldest (n ∷ ns) (r ∷ rs) h kinds found live =
            by-test (normal_may_go all n) (regions-oldest ns rs h.1 kinds.1 found.1 live)
            ∙ ap (λ (t : Bool). if t then Some (normal_name k r) else first_lendable (rv32 input) b k rs) (normal-lendable n r h.0.normal kinds.0 found.0 live)
          where
            by-test : (u : Bool) → oldest_by (option_map (λ m. m.value.number) (find (normal_may_go all) ns)) (may_go lead all) ≡ first_lendable (rv32 input) b k rs
                → oldest_by (option_map (λ m. m.value.number) (if u then Some n else find (normal_may_go all) ns)) (may_go lead all) ≡ (if u then Some (normal_name k r) else first_lendable (rv32 input) b k rs)
            by-test true rest = ap (λ (x : ℕ). Some (record { generation = k.generation; region = x; normal = true })) h.0.number
            by-test false rest = rest

-- ---- nothing is lendable

module _ (input : List ℕ) (b : Settings) (k : GuestCore) where
  over-unlendable : (n : Name) → over k ≡ true → lendable (rv32 input) b k n ≡ false
  over-unlendable n is = ap (λ (o : Bool). not o && is_ready (rv32 input) b k n (find_track k n)) is

  other-unlendable : (n : Name) → n.generation ≢ k.generation → lendable (rv32 input) b k n ≡ false
  other-unlendable n other =
      and_right (not (over k)) (is_ready (rv32 input) b k n (find_track k n))
      (ap (λ (p : Bool). is_ready (rv32 input) b k n (track_by p n.normal (nat_eq n.region k.last) (find_normal n.region k.regions) k.lead)) (ne_eqb n.generation k.generation other))

  over-first : (rs : List (CoreRegion MachineState)) → over k ≡ true → first_lendable (rv32 input) b k rs ≡ None
  over-first [] is = ap (λ (t : Bool). if t then Some (lead_name k) else None) (over-unlendable (lead_name k) is)
  over-first (r ∷ rs) is = ap (λ (t : Bool). if t then Some (normal_name k r) else first_lendable (rv32 input) b k rs) (over-unlendable (normal_name k r) is) ∙ over-first rs is

-- ---- a board

pub over-unlent : (v : Posted) (n : Name) → over (core_of v) ≡ true → may_lend v n ≡ false
over-unlent v n is = over-unlendable v.input v.settings (core_of v) n is

pub over-none : (v : Posted) → over (core_of v) ≡ true → oldest_lendable v ≡ None
over-none v is = over-first v.input v.settings (core_of v) (core_of v).regions is

module _ (i : Inside) (k : GuestCore) (v : Posted) (h : StandsFor i k) (seen : view_of_board i ≡ v) where
  -- what contracts see may be lent
  pub lend-seen : (n : Name) → lendable (rv32 i.input.value) i.settings k n ≡ may_lend v n
  lend-seen n = ap (λ (c : GuestCore). lendable (rv32 i.input.value) i.settings c n) (sym (core-stood i k h)) ∙ ap (λ (u : Posted). may_lend u n) seen

  oldest-seen : first_lendable (rv32 i.input.value) i.settings k k.regions ≡ oldest_lendable v
  oldest-seen = ap (λ (c : GuestCore). first_lendable (rv32 i.input.value) i.settings c c.regions) (sym (core-stood i k h)) ∙ ap oldest_lendable seen

  core-over : (o : Bool) → over (core_of v) ≡ o → over k ≡ o
  core-over o is = ap over (sym (core-seen i k v h seen)) ∙ is

  kinds : AreNormal k.regions
  kinds = chain-normal i.input.value (go (rv32 i.input.value) (fresh (start_state (view_of_board i))) k.base).state k.regions k.lead (stands-sound i k h).good.chain

  pub other-unlent : (n : Name) → n.generation ≢ i.generation → may_lend v n ≡ false
  other-unlent n other = sym (lend-seen n) ∙ other-unlendable i.input.value i.settings k n (λ same. other (same ∙ sym h.fields.generation))

  pub named-lends : (n : Name) → over (core_of v) ≡ false → n.generation ≡ i.generation → named_may_go i.last n i.regions.nodes i.lead ≡ may_lend v n
  named-lends n live generation =
      named-ready i.input.value i.settings k i.regions.nodes h.fields.regions kinds i.lead h.fields.lead n i.last h.fields.last (generation ∙ h.fields.generation) (core-over false live) ∙ lend-seen n

  -- the oldest lendable name, by what is found
  oldest-found : (o : Option ℕ) (leads : Bool) → over (core_of v) ≡ false → o ≡ first_to_go i.regions.nodes → leads ≡ may_go i.lead i.regions.nodes
      → oldest_by i.input.value i.settings k i.regions.nodes h.fields.regions kinds i.lead h.fields.lead o leads ≡ oldest_lendable v
  oldest-found o leads live first is =
      ap₂ (oldest_by i.input.value i.settings k i.regions.nodes h.fields.regions kinds i.lead h.fields.lead) first is
      ∙ regions-oldest i.input.value i.settings k i.regions.nodes h.fields.regions kinds i.lead h.fields.lead i.regions.nodes k.regions h.fields.regions kinds
      (rising-found 0 k.last k.regions (stands-sound i k h).named.rising) (core-over false live)
      ∙ oldest-seen

  pub oldest-normal : (number : ℕ) → over (core_of v) ≡ false → Some number ≡ first_to_go i.regions.nodes → Some (record { generation = i.generation; region = number; normal = true }) ≡ oldest_lendable v
  oldest-normal number live first =
      ap (λ (g : ℕ). Some (record { generation = g; region = number; normal = true })) h.fields.generation ∙ oldest-found (Some number) (may_go i.lead i.regions.nodes) live first refl

  pub oldest-is_lead : (leads : Bool) → over (core_of v) ≡ false → None ≡ first_to_go i.regions.nodes → leads ≡ may_go i.lead i.regions.nodes → leads ≡ true
      → Some (record { generation = i.generation; region = i.last; normal = false }) ≡ oldest_lendable v
  oldest-is_lead leads live first is may =
      ap₂ (λ (g last : ℕ). Some (record { generation = g; region = last; normal = false })) h.fields.generation h.fields.last ∙ oldest-found None true live first (sym may ∙ is)

  pub oldest-none : (leads : Bool) → over (core_of v) ≡ false → None ≡ first_to_go i.regions.nodes → leads ≡ may_go i.lead i.regions.nodes → leads ≡ false → None ≡ oldest_lendable v
  oldest-none leads live first is not_so = oldest-found None false live first (sym not_so ∙ is)
