-- An original that comes home.
use Rattle.std.proofs.Common.{◌≡◌, ◌≢◌, ℕ, zero, suc, ◌+◌, ◌<◌, ◌≤◌, Bool, true, false, not, ◌&&◌, if◌then◌else◌, List, [], ◌∷◌, ◌++◌, Option, Some, length, slice_get, find, option_map, set, length-set, nat_eq, refl, sym, ap, ◌∙◌, inl, inr, subst, eq-eqb, ne_eqb, arith}
use Rattle.std.proofs.lemmas.Bool.{cases_Bool, and_right, and_left}
use Rattle.std.proofs.lemmas.Option.{none-some, same_Some}
use Rattle.speculation.specs.declared.tracks.Name.{Name}
use Rattle.speculation.specs.declared.history.Settings.{Settings}
use Rattle.speculation.specs.declared.history.Entry.{Entry}
use Rattle.speculation.specs.declared.history.Entry.TheVariants as E
use Rattle.speculation.specs.Machine.{Machine}
use Rattle.speculation.specs.Core.{Track as CoreTrack, Region as CoreRegion, is_lent, is_named, at_home, lead_name, find_normal, find_track}
use Rattle.speculation.specs.Events.{event, run_on, slice, end_loan, back_normals, back_regions, back_lead}
use Rattle.guest_model.specs.MachineState.{MachineState}
use Rattle.guest_model.specs.declared.end.End.{End}
use Rattle.guest_model.specs.declared.difference.Difference.{Difference}
use Rattle.seniority_queue.specs.Listing.{LiveNode, Listing, has_key, get, with_value, IsSound}
use Rattle.seniority_queue.specs.declared.key.Key.{Key}
use Rattle.seniority_queue.proofs.KeyLemmas.{has_key-true, with_value-of_place}
use Rattle.speculation_law.specs.Naming.{Rising}
use Rattle.speculation_law.proofs.FindLoan.{find_loan-name}
use Rattle.speculation_law.proofs.Names.{FoundTrack, Original, Lead, find_track-found}
use Rattle.track_state.specs.Views.{view_of}
use Rattle.track_state.specs.declared.track.Track.{Track}
use Rattle.track_board.specs.Value.{GuestCore, machine_of, run_of}
use Rattle.track_board.specs.Parts.{TrackStands, SlotStands, RegionStands, RegionsStand, KeyFinds, LoanFinds, away_own, core_loan}
use Rattle.track_board.specs.Invariant.{view_of_board, home_at, StandsFor}
use Rattle.track_board.specs.declared.board.Board.TheInside.{Inside}
use Rattle.track_board.specs.declared.loan.Lent.{Lent}
use Rattle.track_board.specs.declared.region.Region.{Region}
use Rattle.track_board.specs.declared.slot.Slot.TheVariants.{Home}
use Rattle.track_board.proofs.Foundation.{legal-more, stands-sound, own-home}
use Rattle.track_board.proofs.Queues.{keeps-changed, loans-kept}
use Rattle.track_board.proofs.Gone.{EndsLoan, loans-core, keys-after}
use Rattle.track_board.proofs.Lents.{All-at}
use Rattle.track_board.proofs.Returned.{LiveLoan, event-back, away-count, lent-away, back-home, other-home}

-- the node that a key finds
pub record FoundNode (nodes : List (LiveNode Region)) (key : Key) (r : Region) : Type 0 where
  pub place : ℕ
  pub node : LiveNode Region
  pub at : slice_get nodes place ≡ Some node
  pub key_is : node.key ≡ key
  pub value : node.value ≡ r

pub found-node : (nodes : List (LiveNode Region)) (key : Key) (r : Region) → option_map (λ (n : LiveNode Region). n.value) (find (has_key key) nodes) ≡ Some r → FoundNode nodes key r
found-node [] key r found = absurd (none-some r found)
found-node (x ∷ xs) key r found = elim (cases_Bool (has_key key x)) [
  | inl here ↦ (record { place = 0; node = x; at = refl; key_is = has_key-true key x here; value = same_Some x.value r (rw here at found) })
  | inr there ↦ (let rest = found-node xs key r (rw there at found) in record { place = suc rest.place; node = rest.node; at = rest.at; key_is = rest.key_is; value = rest.value })
]

module _ (input : List ℕ) (limit : ℕ) where
  -- the regions where only the originals of earlier numbers went or came
  regions-later : (home home2 : ℕ → Bool) (number low high : ℕ) (nodes : List (LiveNode Region)) (rs : List (CoreRegion MachineState)) → ((j : ℕ) → j ≢ number → home2 j ≡ home j) → number ≤ low
      → Rising low high rs → RegionsStand input limit home nodes rs → RegionsStand input limit home2 nodes rs
  regions-later home home2 number low high [] [] same le rising h = tt
  regions-later home home2 number low high [] (r ∷ rs) same le rising h = absurd h
  regions-later home home2 number low high (x ∷ xs) [] same le rising h = absurd h
  regions-later home home2 number low high (x ∷ xs) (r ∷ rs) same le rising h =
      let above : low < r.number = rising.0 in (
        subst (λ (t : Bool). RegionStands input limit t x.value r) (sym (same r.number (λ e. absurd (omega arith)))) h.0,
        regions-later home home2 number r.number high xs rs same (omega arith) rising.1 h.1,
      )

  -- the region at a place
  pub record RegionAt (home : ℕ → Bool) (low : ℕ) (n : LiveNode Region) (rs : List (CoreRegion MachineState)) : Type 0 where
    pub region : CoreRegion MachineState
    pub stands : RegionStands input limit (home region.number) n.value region
    pub above : low < region.number
    pub found : find_normal region.number rs ≡ Some region.normal

  pub region-at : (home : ℕ → Bool) (low high : ℕ) (nodes : List (LiveNode Region)) (rs : List (CoreRegion MachineState)) (k : ℕ) (n : LiveNode Region) → Rising low high rs
      → RegionsStand input limit home nodes rs → slice_get nodes k ≡ Some n → RegionAt home low n rs
  region-at home low high [] rs k n rising h at = absurd (none-some n at)
  region-at home low high (x ∷ xs) [] k n rising h at = absurd h
  region-at home low high (x ∷ xs) (r ∷ rs) zero n rising h at = record {
    region = r;
    stands = subst (λ (m : LiveNode Region). RegionStands input limit (home r.number) m.value r) (same_Some x n at) h.0;
    above = rising.0;
    found = ap (λ (t : Bool). if t then Some r.normal else find_normal r.number rs) (eq-eqb r.number r.number refl);
  }
  region-at home low high (x ∷ xs) (r ∷ rs) (suc k) n rising h at =
      let rest = region-at home r.number high xs rs k n rising.1 h.1 at in
      let first : low < r.number = rising.0 in
      let above : r.number < rest.region.number = rest.above in record {
        region = rest.region;
        stands = rest.stands;
        above = omega arith;
        found = ap (λ (t : Bool). if t then Some r.normal else find_normal rest.region.number rs) (ne_eqb rest.region.number r.number (λ e. absurd (omega arith))) ∙ rest.found;
      }

  -- an original in its place again
  put-back : (n : LiveNode Region) (r : CoreRegion MachineState) (t : CoreTrack MachineState) (home : Bool) (x : Track) → RegionStands input limit home n.value r → TrackStands input limit x true t
      → RegionStands input limit true (record n.value { normal = Home x }) (record r { normal = t })
  put-back n r t home x h track = record { number = h.number; normal = track; fast = h.fast; keeps = h.keeps; segment = h.segment }

  module _ (m : Machine MachineState End Difference) (b : Settings) (home home2 : ℕ → Bool) (number : ℕ) (x : Track) (same : (j : ℕ) → j ≢ number → home2 j ≡ home j) (now : home2 number ≡ true) where
    -- the regions after the original of this number came home
    pub regions-back : (low high : ℕ) (nodes : List (LiveNode Region)) (rs : List (CoreRegion MachineState)) (k : ℕ) (n : LiveNode Region) → Rising low high rs → RegionsStand input limit home nodes rs
        → slice_get nodes k ≡ Some n → n.value.number ≡ number → ((t : CoreTrack MachineState) → find_normal number rs ≡ Some t → TrackStands input limit x true (run_on m t (slice m b t)))
        → RegionsStand input limit home2 (set nodes k (record n { value = record n.value { normal = Home x } })) (back_normals m b number rs)
    regions-back low high [] rs k n rising h at is ran = absurd (none-some n at)
    regions-back low high (y ∷ ys) [] k n rising h at is ran = absurd h
    regions-back low high (y ∷ ys) (r ∷ rs) zero n rising h at is ran =
        let node : y ≡ n = same_Some y n at in
        let stands : RegionStands input limit (home r.number) n.value r = subst (λ (z : LiveNode Region). RegionStands input limit (home r.number) z.value r) node h.0 in
        let named : number ≡ r.number = sym is ∙ stands.number in
        let test : nat_eq number r.number ≡ true = eq-eqb number r.number named in
        let found : find_normal number (r ∷ rs) ≡ Some r.normal = ap (λ (t : Bool). if t then Some r.normal else find_normal number rs) test in
        let head : RegionStands input limit (home2 r.number) (record n.value { normal = Home x }) (record r { normal = run_on m r.normal (slice m b r.normal) })
        = subst (λ (t : Bool). RegionStands input limit t (record n.value { normal = Home x }) (record r { normal = run_on m r.normal (slice m b r.normal) })) (sym (ap home2 (sym named) ∙ now))
        (put-back n r (run_on m r.normal (slice m b r.normal)) (home r.number) x stands (ran r.normal found)) in
        let tail : RegionsStand input limit home2 ys rs = regions-later home home2 number r.number high ys rs same (omega (arith, named)) rising.1 h.1 in
        subst (λ (us : List (CoreRegion MachineState)). RegionsStand input limit home2 (record n { value = record n.value { normal = Home x } } ∷ ys) us)
        (sym (ap (λ (t : Bool). if t then (record r { normal = run_on m r.normal (slice m b r.normal) }) ∷ rs else r ∷ back_normals m b number rs) test)) (head, tail)
    regions-back low high (y ∷ ys) (r ∷ rs) (suc k) n rising h at is ran =
        let later = region-at home r.number high ys rs k n rising.1 h.1 at in
        let above : r.number < later.region.number = later.above in
        let named : later.region.number ≡ number = sym later.stands.number ∙ is in
        let test : nat_eq number r.number ≡ false = ne_eqb number r.number (λ e. absurd (omega arith)) in
        let tail = regions-back r.number high ys rs k n rising.1 h.1 at is (λ t found. ran t (ap (λ (u : Bool). if u then Some r.normal else find_normal number rs) test ∙ found)) in
        let head : RegionStands input limit (home2 r.number) y.value r = subst (λ (t : Bool). RegionStands input limit t y.value r) (sym (same r.number (λ e. absurd (omega arith)))) h.0 in
        subst (λ (us : List (CoreRegion MachineState)). RegionsStand input limit home2 (y ∷ set ys k (record n { value = record n.value { normal = Home x } })) us)
        (sym (ap (λ (t : Bool). if t then (record r { normal = run_on m r.normal (slice m b r.normal) }) ∷ rs else r ∷ back_normals m b number rs) test)) (head, tail)

-- ---- the board

-- the originals' names
abbrev pub original_name : GuestCore → ℕ → Name
original_name k number = record { generation = k.generation; region = number; normal = true }

module _ (i : Inside) (k : GuestCore) (n : Name) (l : Lent) (x : Track) (h : StandsFor i k) (loan : LiveLoan k n (core_loan l)) (normal : n.normal ≡ true)
    (ran : (t : CoreTrack MachineState) → find_track k n ≡ Some t → TrackStands i.input.value i.settings.budget x true (run_on (machine_of (view_of_board i)) t (slice (machine_of (view_of_board i)) i.settings t))) where
  -- the original of an open region has this name
  pub record OriginalOf (t : CoreTrack MachineState) : Type 0 where
    pub present : n.generation ≡ k.generation
    pub original : find_normal n.region k.regions ≡ Some t
    pub track : find_track k n ≡ Some t

  original-by : (t : CoreTrack MachineState) → find_track k n ≡ Some t → FoundTrack k n t → OriginalOf t
  original-by t is (Original present normal found) = record { present = present; original = found; track = is }
  original-by t is (Lead other named same) = absurd (cc)

  pub original-of : (t : CoreTrack MachineState) × OriginalOf t
  original-of =
      let live = (stands-sound i k h).named.live n (core_loan l) loan.found loan.undropped in
      (live.0, original-by live.0 live.1 (find_track-found k n live.0 live.1))

  pub name-is : n ≡ original_name k n.region
  name-is = (let present = original-of.1.present in λ j. record { generation = present j; region = n.region; normal = normal j })

  -- the loan's key finds it
  pub key-finds : (place : ℕ) → slice_get i.loans.items place ≡ Some l → KeyFinds i.regions l.key n.region
  key-finds place at =
      let name : n ≡ l.name = find_loan-name n (core_loan l) k.loans loan.found in
      let finds = All-at (LoanFinds i.regions) i.loans.items place l at h.fields.keys loan.undropped (ap (λ (y : Name). y.normal) (sym name) ∙ normal) in
      subst (λ (y : Name). KeyFinds i.regions l.key y.region) (sym name) finds

  abbrev pub normal_slice : ℕ
  normal_slice = slice (machine_of (view_of_board i)) i.settings original-of.0

  abbrev pub normal_back : GuestCore
  normal_back = record k { regions = back_normals (machine_of (view_of_board i)) i.settings n.region k.regions; loans = end_loan n k.loans }

  pub event-normal : event (machine_of (view_of_board i)) i.settings k (E.Back n normal_slice) ≡ Some normal_back
  event-normal =
      event-back (view_of_board i) k n (core_loan l) original-of.0 loan original-of.1.track
      ∙ ap (λ (t : Bool). Some (record k { regions = back_regions (machine_of (view_of_board i)) i.settings t n.region k.regions; lead = back_lead (machine_of (view_of_board i)) i.settings t k.lead; loans = end_loan n k.loans })) normal

  -- who is at home then
  others-home : (number : ℕ) → number ≢ n.region → home_at normal_back number ≡ home_at k number
  others-home number differ =
      other-home k n (original_name k number) (core_loan l) loan.found
      (and_right (nat_eq k.generation n.generation) (nat_eq number n.region && n.normal) (and_left (nat_eq number n.region) n.normal (ne_eqb number n.region differ)))

  this-home : home_at normal_back n.region ≡ true
  this-home = subst (λ (y : Name). (not (is_lent y (end_loan n k.loans)) && not (is_named y k.lost)) ≡ true) name-is (back-home i k n (core_loan l) h loan)

  lead-stays : (not (is_lent (lead_name k) (end_loan n k.loans)) && not (is_named (lead_name k) k.lost)) ≡ at_home k (lead_name k)
  lead-stays =
      other-home k n (lead_name k) (core_loan l) loan.found
      (and_right (nat_eq k.generation n.generation) (nat_eq k.last n.region && not n.normal) (and_right (nat_eq k.last n.region) (not n.normal) (ap not normal)))

  ran-normal : (t : CoreTrack MachineState) → find_normal n.region k.regions ≡ Some t → TrackStands i.input.value i.settings.budget x true (run_on (machine_of (view_of_board i)) t (slice (machine_of (view_of_board i)) i.settings t))
  ran-normal t found = ran t (original-of.1.track ∙ sym original-of.1.original ∙ found)

  -- the region's node in the queue
  module _ (key : Key) (r : Region) (found : get i.regions key ≡ Some r) (number : r.number ≡ n.region) where
    abbrev pub node : FoundNode i.regions.nodes key r
    node = found-node i.regions.nodes key r found

    node-number : node.node.value.number ≡ n.region
    node-number = ap (λ (s : Region). s.number) node.value ∙ number

    -- how many instructions it took
    pub normal-count : (view_of x).own ≡ away_own r.normal + normal_slice
    normal-count =
        let at = region-at i.input.value i.settings.budget (home_at k) 0 k.last i.regions.nodes k.regions node.place node.node (stands-sound i k h).named.rising h.fields.regions node.at in
        let is : at.region.number ≡ n.region = sym at.stands.number ∙ node-number in
        let track : Some at.region.normal ≡ Some original-of.0 = sym at.found ∙ ap (λ a. find_normal a k.regions) is ∙ original-of.1.original in
        let same : at.region.normal ≡ original-of.0 = same_Some at.region.normal original-of.0 track in
        let away : home_at k at.region.number ≡ false
        = ap (home_at k) is ∙ subst (λ (y : Name). at_home k y ≡ false) name-is (lent-away k n (core_loan l) loan.found loan.undropped) in
        let slot : SlotStands i.input.value i.settings.budget r.normal (home_at k at.region.number) at.region.normal
        = subst (λ (s : Region). SlotStands i.input.value i.settings.budget s.normal (home_at k at.region.number) at.region.normal) node.value at.stands.normal in
        let before : away_own r.normal ≡ original-of.0.own
        = away-count i.input.value i.settings.budget r.normal (home_at k at.region.number) at.region.normal slot away ∙ ap (λ (t : CoreTrack MachineState). t.own) same in
        let now : original-of.0.own + normal_slice ≡ (view_of x).own
        = own-home i.input.value i.settings.budget x true (run_on (machine_of (view_of_board i)) original-of.0 normal_slice) (ran original-of.0 original-of.1.track) in
        sym now ∙ ap (λ a. a + normal_slice) (sym before)

    -- the fields after the original came home
    module _ (j : Inside) (e : EndsLoan i j n l) (sound : IsSound i.regions) (put : j.regions ≡ with_value i.regions key (record r { normal = Home x })) where
      nodes-are : j.regions.nodes ≡ set i.regions.nodes node.place (record node.node { value = record node.node.value { normal = Home x } })
      nodes-are =
          ap (λ (q : Listing Region). q.nodes) put
          ∙ ap (λ (a : Key). (with_value i.regions a (record r { normal = Home x })).nodes) (sym node.key_is)
          ∙ with_value-of_place i.regions sound node.place node.node node.at (record r { normal = Home x })
          ∙ ap (λ (s : Region). set i.regions.nodes node.place (record node.node { value = record s { normal = Home x } })) (sym node.value)

      pub normal-stands : j.entries.items ≡ i.entries.items ++ (E.Back n normal_slice ∷ []) → StandsFor (record i { regions = j.regions; loans = j.loans; entries = j.entries }) normal_back
      normal-stands items = record {
        limits = h.limits;
        guest = h.guest;
        legal = ap (λ (xs : List Entry). run_of (record (view_of_board i) { entries = xs })) items ∙ legal-more (view_of_board i) (E.Back n normal_slice) k normal_back h.legal event-normal;
        fields = record {
          base = h.fields.base;
          ready = h.fields.ready;
          rows = h.fields.rows;
          generation = h.fields.generation;
          last = h.fields.last;
          regions = subst (λ (ns : List (LiveNode Region)). RegionsStand i.input.value i.settings.budget (home_at normal_back) ns normal_back.regions) (sym nodes-are)
              (regions-back i.input.value i.settings.budget (machine_of (view_of_board i)) i.settings (home_at k) (home_at normal_back) n.region x others-home this-home
              0 k.last i.regions.nodes k.regions node.place node.node (stands-sound i k h).named.rising h.fields.regions node.at node-number ran-normal);
          lead = subst (λ (t : Bool). SlotStands i.input.value i.settings.budget i.lead t k.lead) (sym lead-stays) h.fields.lead;
          loans = loans-core i j k n l h e;
          keys = loans-kept i.regions j.regions (keeps-changed i.regions j.regions node.place node.node (record node.node.value { normal = Home x }) node.at refl nodes-are) j.loans.items (keys-after i j k n l h e);
          finish = h.fields.finish;
          halted = h.fields.halted;
        };
        room = record {
          entries = (let before = h.room.entries in let fewer = e.fewer in let more = e.more in let same = e.capacity in omega arith);
          names =
              let made : j.regions.made ≡ i.regions.made = ap (λ (q : Listing Region). q.made) put in
              let count : length j.regions.nodes ≡ length i.regions.nodes = ap length nodes-are ∙ length-set i.regions.nodes node.place (record node.node { value = record node.node.value { normal = Home x } }) in
              let before = h.room.names in omega arith;
        };
      }

-- the region that the key of a loan finds
pub record LoanRegion (i : Inside) (key : Key) (n : Name) : Type 0 where
  pub region : Region
  pub found : get i.regions key ≡ Some region
  pub number : region.number ≡ n.region

pub loan-region : (i : Inside) (k : Option Key) (key : Key) (n : Name) → KeyFinds i.regions k n.region → k ≡ Some key → LoanRegion i key n
loan-region i k key n finds is =
    let same : finds.key ≡ key = same_Some finds.key key (sym finds.given ∙ is) in
    record { region = finds.region; found = ap (get i.regions) (sym same) ∙ finds.found; number = finds.is }
