-- The fields of a board that has lent a track.
use Rattle.std.proofs.Common.{◌≡◌, ℕ, zero, suc, ◌+◌, ◌<◌, ◌≤◌, Bool, true, false, not, ◌&&◌, if◌then◌else◌, List, [], ◌∷◌, ◌++◌, Option, Some, None, option_map, is_none, length, set, slice_get, All, nat_eq, vec_len, vec_capacity, refl, sym, ap, ap₂, ◌∙◌, subst, eqb-true, eq-eqb, ne_eqb, arith, Result, Ok, Err, MatchResult}
use Rattle.std.proofs.lemmas.Option.{none-some, same_Some}
use Rattle.std.proofs.lemmas.List.{map-append, length-set}
use Rattle.std.proofs.lemmas.List.Elements.{All-append, All-nil, All-cons}
use Rattle.speculation.specs.declared.tracks.Name.{Name}
use Rattle.speculation.specs.declared.tracks.OpenLoan.{OpenLoan}
use Rattle.speculation.specs.declared.history.Entry.TheVariants as E
use Rattle.speculation.specs.Core.{Track as CoreTrack, Region as CoreRegion, over, name_eq, lead_name, is_lent, is_named, at_home, lead_home, find_loan, find_normal, find_track}
use Rattle.speculation.specs.Events.{event, lendable}
use Rattle.speculation_law.specs.Naming.{Rising}
use Rattle.speculation_law.specs.Sound.{one_if}
use Rattle.speculation_law.proofs.Names.{FoundTrack, Original, Lead, find_track-found, name_eq-true, name_eq-refl, home-lent}
use Rattle.speculation_law.proofs.Naming.{find_loan-home}
use Rattle.speculation_law.proofs.FindLoan.{find_loan-new}
use Rattle.speculation_law.proofs.Happens.{lent_core}
use Rattle.speculation_law.proofs.Lending.{Lendable}
use Rattle.speculation_law.proofs.SerialSteps.{event-lend, first_lendable-true}
use Rattle.guest_model.specs.MachineState.{MachineState}
use Rattle.guest_model.specs.Rv32.{rv32}
use Rattle.seniority_queue.specs.Listing.{LiveNode, Listing, get, with_value, IsSound}
use Rattle.seniority_queue.specs.declared.key.Key.{Key}
use Rattle.seniority_queue.proofs.KeyLemmas.{get-of_place, with_value-of_place}
use Rattle.track_state.specs.Views.{view_of}
use Rattle.track_state.specs.declared.track.Track.{Track}
use Rattle.track_board.specs.declared.board.Board.TheInside.{Inside}
use Rattle.track_board.specs.declared.loan.Lent.{Lent}
use Rattle.track_board.specs.declared.loan.Loan.{Loan}
use Rattle.track_board.specs.declared.region.Region.{Region}
use Rattle.track_board.specs.declared.slot.Slot.{Slot}
use Rattle.track_board.specs.declared.slot.Slot.TheVariants.{Home, Away}
use Rattle.track_board.specs.Value.{Posted, GuestCore, machine_of, core_of, posted}
use Rattle.track_board.specs.Parts.{TrackStands, SlotStands, RegionStands, RegionsStand, core_loan, core_loans, LoanFinds}
use Rattle.track_board.specs.Loans.{may_lend, oldest_lendable, IsLoanOf, IsLent, LendIs, LendNamedIs}
use Rattle.track_board.specs.Invariant.{view_of_board, home_at, StandsFor}
use Rattle.track_board.specs.LendTests.{numbered}
use Rattle.track_board.specs.Lends.{IsHome, HasNormalHome, IsAtHome, IsNormalOut, IsOut}
use Rattle.track_board.proofs.Foundation.{core-stood, stands-sound, own-home}
use Rattle.track_board.proofs.Finishes.{IsPushed, pushed-view, pushed-legal}
use Rattle.track_board.proofs.LendTests.{lend-seen}
use Rattle.track_board.proofs.Queues.{KeepsNumbers, loans-kept, keeps-changed}
use Rattle.track_board.proofs.Walks.{numbered-at, NumberedBy, numbered-by}

-- ---- who is at home while one more track is lent

lent-other : (x n : Name) (seat : ℕ) (ls : List OpenLoan) → name_eq x n ≡ false → is_lent x (ls ++ (record { seat = seat; name = n; dropped = None } ∷ [])) ≡ is_lent x ls
lent-other x n seat [] apart = ap (λ (t : Bool). if t && true then true else false) apart
lent-other x n seat (l ∷ ls) apart = ap (λ (t : Bool). if name_eq x l.name && is_none l.dropped then true else t) (lent-other x n seat ls apart)

lent-same : (n : Name) (seat : ℕ) (ls : List OpenLoan) → is_lent n (ls ++ (record { seat = seat; name = n; dropped = None } ∷ [])) ≡ true
lent-same n seat [] = ap (λ (t : Bool). if t && true then true else false) (name_eq-refl n)
lent-same n seat (l ∷ ls) = by-test (name_eq n l.name && is_none l.dropped) (lent-same n seat ls)
  where
    by-test : (t : Bool) → is_lent n (ls ++ (record { seat = seat; name = n; dropped = None } ∷ [])) ≡ true → (if t then true else is_lent n (ls ++ (record { seat = seat; name = n; dropped = None } ∷ []))) ≡ true
    by-test true h = refl
    by-test false h = h

home-other : (k : GuestCore) (seat : ℕ) (n x : Name) → name_eq x n ≡ false → at_home k x ≡ at_home (lent_core k seat n) x
home-other k seat n x apart = ap (λ (t : Bool). not t && not (is_named x k.lost)) (sym (lent-other x n seat k.loans apart))

home-same : (k : GuestCore) (seat : ℕ) (n : Name) → at_home (lent_core k seat n) n ≡ false
home-same k seat n = ap (λ (t : Bool). not t && not (is_named n k.lost)) (lent-same n seat k.loans)

both-same : (c d : Bool) → c ≡ d → (if c then d else not d) ≡ true
both-same true true h = refl
both-same true false h = absurd (cc)
both-same false true h = absurd (cc)
both-same false false h = refl

-- names of different kinds, and those of different originals
kind-apart : (x n : Name) (a b : Bool) → x.normal ≡ a → n.normal ≡ b → (if a then b else not b) ≡ false → name_eq x n ≡ false
kind-apart x n a b p q differ = by-test (name_eq x n) refl
  where
    by-test : (t : Bool) → name_eq x n ≡ t → t ≡ false
    by-test false is = refl
    by-test true is = absurd (let same : x.normal ≡ n.normal = ap (λ (y : Name). y.normal) (name_eq-true x n is) in let both : a ≡ b = sym p ∙ (same ∙ q) in let one = both-same a b both in cc)

region-apart : (x n : Name) → nat_eq x.region n.region ≡ false → name_eq x n ≡ false
region-apart x n differ = by-test (name_eq x n) refl
  where
    by-test : (t : Bool) → name_eq x n ≡ t → t ≡ false
    by-test false is = refl
    by-test true is = absurd (let same : nat_eq x.region n.region ≡ true = eq-eqb x.region n.region (ap (λ (y : Name). y.region) (name_eq-true x n is)) in cc)

-- ---- regions

module _ (input : List ℕ) (limit : ℕ) where
  -- the regions where other originals are at home
  regions-home : (home home2 : ℕ → Bool) (low high : ℕ) (ns : List (LiveNode Region)) (rs : List (CoreRegion MachineState)) → Rising low high rs
      → ((number : ℕ) → low < number → home number ≡ home2 number) → RegionsStand input limit home ns rs → RegionsStand input limit home2 ns rs
  regions-home home home2 low high [] [] rising same h = tt
  regions-home home home2 low high [] (r ∷ rs) rising same h = absurd h
  regions-home home home2 low high (n ∷ ns) [] rising same h = absurd h
  regions-home home home2 low high (n ∷ ns) (r ∷ rs) rising same h = (
    record {
      number = h.0.number;
      normal = subst (λ (t : Bool). SlotStands input limit n.value.normal t r.normal) (same r.number rising.0) h.0.normal;
      fast = h.0.fast;
      keeps = h.0.keeps;
      segment = h.0.segment;
    },
    regions-home home home2 r.number high ns rs rising.1 (λ number above. same number (omega (arith, rising.0))) h.1,
  )

  number-above : (home : ℕ → Bool) (low high place : ℕ) (n : LiveNode Region) (ns : List (LiveNode Region)) (rs : List (CoreRegion MachineState)) → Rising low high rs → RegionsStand input limit home ns rs
      → slice_get ns place ≡ Some n → low < n.value.number
  number-above home low high place n [] rs rising h at = absurd (none-some n at)
  number-above home low high place n (m ∷ ns) [] rising h at = absurd h
  number-above home low high zero n (m ∷ ns) (r ∷ rs) rising h at =
      let number : n.value.number ≡ r.number = ap (λ (x : LiveNode Region). x.value.number) (sym (same_Some m n at)) ∙ h.0.number in omega (arith, rising.0)
  number-above home low high (suc place) n (m ∷ ns) (r ∷ rs) rising h at =
      let above = number-above home r.number high place n ns rs rising.1 h.1 at in omega (arith, rising.0)

  away-slot : (x : Track) (s : Slot) (home : Bool) (t : CoreTrack MachineState) → s ≡ Home x → SlotStands input limit s home t → (view_of x).own ≡ t.own
  away-slot x s home t is h = sym (own-home input limit x home t (subst (λ (u : Slot). SlotStands input limit u home t) is h))

  -- one original is taken out
  regions-away : (home home2 : ℕ → Bool) (x : Track) (low high place : ℕ) (n : LiveNode Region) (ns : List (LiveNode Region)) (rs : List (CoreRegion MachineState)) → Rising low high rs
      → slice_get ns place ≡ Some n → n.value.normal ≡ Home x → home2 n.value.number ≡ false → ((number : ℕ) → nat_eq number n.value.number ≡ false → home number ≡ home2 number)
      → RegionsStand input limit home ns rs → RegionsStand input limit home2 (set ns place (record n { value = record n.value { normal = Away (view_of x).own } })) rs
  regions-away home home2 x low high place n [] rs rising at was away others h = absurd (none-some n at)
  regions-away home home2 x low high place n (m ∷ ns) [] rising at was away others h = absurd h
  regions-away home home2 x low high zero n (m ∷ ns) (r ∷ rs) rising at was away others h =
      let same : m ≡ n = same_Some m n at in
      let stands : RegionStands input limit (home r.number) n.value r = subst (λ (y : LiveNode Region). RegionStands input limit (home r.number) y.value r) same h.0 in (
        record {
          number = stands.number;
          normal = record { away = ap home2 (sym stands.number) ∙ away; count = away-slot x n.value.normal (home r.number) r.normal was stands.normal };
          fast = stands.fast;
          keeps = stands.keeps;
          segment = stands.segment;
        },
        regions-home home home2 r.number high ns rs rising.1
            (λ number above. others number (ne_eqb number n.value.number (λ is. absurd (let here = stands.number in omega arith)))) h.1,
      )
  regions-away home home2 x low high (suc place) n (m ∷ ns) (r ∷ rs) rising at was away others h =
      let above = number-above home r.number high place n ns rs rising.1 h.1 at in
      let apart : nat_eq r.number n.value.number ≡ false = ne_eqb r.number n.value.number (λ is. absurd (omega (arith, above))) in (
        record {
          number = h.0.number;
          normal = subst (λ (t : Bool). SlotStands input limit m.value.normal t r.normal) (others r.number apart) h.0.normal;
          fast = h.0.fast;
          keeps = h.0.keeps;
          segment = h.0.segment;
        },
        regions-away home home2 x r.number high place n ns rs rising.1 at was away others h.1,
      )

  -- the region that stands for the core's region of a number
  record StandsNumbered (home : ℕ → Bool) (number : ℕ) (ns : List (LiveNode Region)) (t : CoreTrack MachineState) : Type 0 where
    pub node : LiveNode Region
    pub found : numbered number ns ≡ Some node
    pub stands : SlotStands input limit node.value.normal (home number) t

  stands-numbered : (home : ℕ → Bool) (number : ℕ) (ns : List (LiveNode Region)) (rs : List (CoreRegion MachineState)) (t : CoreTrack MachineState) → RegionsStand input limit home ns rs → find_normal number rs ≡ Some t
      → StandsNumbered home number ns t
  stands-numbered home number [] [] t h found = absurd (none-some t found)
  stands-numbered home number [] (r ∷ rs) t h found = absurd h
  stands-numbered home number (n ∷ ns) [] t h found = absurd h
  stands-numbered home number (n ∷ ns) (r ∷ rs) t h found = by-test (nat_eq number r.number) refl found (stands-numbered home number ns rs t h.1)
    where
      by-test : (u : Bool) → nat_eq number r.number ≡ u → (if u then Some r.normal else find_normal number rs) ≡ Some t → (find_normal number rs ≡ Some t → StandsNumbered home number ns t)
          → StandsNumbered home number (n ∷ ns) t
      by-test true is same later = record {
        node = n;
        found = ap (λ (u : Bool). if u then Some n else numbered number ns) (ap (nat_eq number) h.0.number ∙ is);
        stands =
            subst (λ (x : CoreTrack MachineState). SlotStands input limit n.value.normal (home number) x) (same_Some r.normal t same)
            (subst (λ (other : ℕ). SlotStands input limit n.value.normal (home other) r.normal) (sym (eqb-true number r.number is)) h.0.normal);
      }
      by-test false is behind later =
          let rest = later behind in
          record { node = rest.node; found = ap (λ (u : Bool). if u then Some n else numbered number ns) (ap (nat_eq number) h.0.number ∙ is) ∙ rest.found; stands = rest.stands }

  home-slot : (s : Slot) (home : Bool) (t : CoreTrack MachineState) → SlotStands input limit s home t → home ≡ true → IsHome s
  home-slot (Home x) home t h here = (x, refl)
  home-slot (Away own) home t h here = absurd (let away = h.away in cc)

  home-track : (s : Slot) (x : Track) (home : Bool) (t : CoreTrack MachineState) → s ≡ Home x → SlotStands input limit s home t → TrackStands input limit x true t
  home-track s x home t is h =
      let stands : TrackStands input limit x home t = subst (λ (u : Slot). SlotStands input limit u home t) is h in
      subst (λ (u : Bool). TrackStands input limit x u t) stands.here stands

-- ---- a board

-- what a loan needs: the fields `j` hold what the calls left
pub record IsLending (i j : Inside) (seat : ℕ) (n : Name) (x : Track) (key : Option Key) : Type 0 where
  pub out : IsOut n.normal n.region i.regions j.regions i.lead j.lead x key
  pub loans : j.loans.items ≡ i.loans.items ++ (record { seat = seat; name = n; key = key; dropped = None } ∷ [])
  pub count : vec_len j.loans ≡ vec_len i.loans + 1
  pub pushed : IsPushed i j (E.Lend seat n)
  pub room : vec_len i.entries + (vec_len i.loans + 3) ≤ vec_capacity j.entries

module _ (i : Inside) (k : GuestCore) (n : Name) (t : CoreTrack MachineState) (h : StandsFor i k) (can : Lendable (rv32 i.input.value) i.settings k n t) where
  stands-found : FoundTrack k n t
  stands-found = find_track-found k n t can.found

  present-home : n.generation ≡ k.generation → n.normal ≡ true → home_at k n.region ≡ true
  present-home generation normal =
      ap (λ (g : ℕ). at_home k (record { generation = g; region = n.region; normal = true })) (sym generation)
      ∙ ap (λ (o : Bool). at_home k (record { generation = n.generation; region = n.region; normal = o })) (sym normal) ∙ can.home

  -- the track is at home
  at-home : FoundTrack k n t → IsAtHome n.normal n.region i.regions.nodes i.lead
  at-home (Original generation normal found) =
      let s = stands-numbered i.input.value i.settings.budget (home_at k) n.region i.regions.nodes k.regions t h.fields.regions found in
      subst (λ (o : Bool). IsAtHome o n.region i.regions.nodes i.lead) (sym normal)
      (s.node, s.found, home-slot i.input.value i.settings.budget s.node.value.normal (home_at k n.region) t s.stands (present-home generation normal))
  at-home (Lead normal named lead) =
      subst (λ (o : Bool). IsAtHome o n.region i.regions.nodes i.lead) (sym normal)
      (home-slot i.input.value i.settings.budget i.lead (lead_home k) k.lead h.fields.lead (ap (at_home k) (sym named) ∙ can.home))

  pub lend-home : IsAtHome n.normal n.region i.regions.nodes i.lead
  lend-home = at-home stands-found

  module _ (j : Inside) (seat : ℕ) (x : Track) (key : Option Key) (l : IsLending i j seat n x key) where
    -- what holds of the regions, the lead and the keys afterwards, and of the track that is out
    record IsOutNow : Type 0 where
      regions : RegionsStand i.input.value i.settings.budget (home_at (lent_core k seat n)) j.regions.nodes k.regions
      lead : SlotStands i.input.value i.settings.budget j.lead (lead_home (lent_core k seat n)) k.lead
      numbers : KeepsNumbers i.regions j.regions
      finds : LoanFinds j.regions (record { seat = seat; name = n; key = key; dropped = None })
      made : j.regions.made ≡ i.regions.made
      count : length j.regions.nodes ≡ length i.regions.nodes
      track : TrackStands i.input.value i.settings.budget x true t

    normal-out : n.generation ≡ k.generation → n.normal ≡ true → find_normal n.region k.regions ≡ Some t → IsOut true n.region i.regions j.regions i.lead j.lead x key → IsOutNow
    normal-out generation normal found (same_lead, rest) =
        let at = rest.0 in
        let is_key = rest.1 in
        let out = rest.2 in
        let input = i.input.value in
        let limit = i.settings.budget in
        let s = stands-numbered input limit (home_at k) n.region i.regions.nodes k.regions t h.fields.regions found in
        let node : s.node ≡ out.node = same_Some s.node out.node (sym s.found ∙ out.found) in
        let place = numbered-at n.region i.regions.nodes out.node out.found in
        let number : n.region ≡ out.node.value.number = eqb-true n.region out.node.value.number place.has in
        let away : Region = record out.node.value { normal = Away (view_of x).own } in
        let put : j.regions ≡ with_value i.regions out.node.key away = out.put ∙ ap (λ (y : Key). with_value i.regions y away) out.own_key in
        let nodes : j.regions.nodes ≡ set i.regions.nodes place.place (record out.node { value = away }) =
        ap (λ (q : Listing Region). q.nodes) put ∙ with_value-of_place i.regions out.sound place.place out.node place.at away in
        let numbers : KeepsNumbers i.regions j.regions = keeps-changed i.regions j.regions place.place out.node away place.at refl nodes in
        let got : get i.regions at ≡ Some out.node.value = ap (get i.regions) out.own_key ∙ get-of_place i.regions out.sound place.place out.node place.at in
        let now = numbers.at at out.node.value got in
        let home2 : ℕ → Bool = home_at (lent_core k seat n) in
        let self : record { generation = k.generation; region = out.node.value.number; normal = true } ≡ n =
        λ z. record { generation = sym generation z; region = sym number z; normal = sym normal z } in
        let lead_apart : name_eq (lead_name k) n ≡ false = kind-apart (lead_name k) n false true refl normal refl in
        record {
          regions =
              subst (λ (ns : List (LiveNode Region)). RegionsStand input limit home2 ns k.regions) (sym nodes)
              (regions-away input limit (home_at k) home2 x 0 k.last place.place out.node i.regions.nodes k.regions (stands-sound i k h).named.rising place.at out.was
              (ap (at_home (lent_core k seat n)) self ∙ home-same k seat n)
              (λ other apart. home-other k seat n (record { generation = k.generation; region = other; normal = true })
              (region-apart (record { generation = k.generation; region = other; normal = true }) n (ap (nat_eq other) number ∙ apart)))
              h.fields.regions);
          lead =
              subst (λ (y : Slot). SlotStands input limit y (lead_home (lent_core k seat n)) k.lead) (sym same_lead)
              (subst (λ (o : Bool). SlotStands input limit i.lead o k.lead) (home-other k seat n (lead_name k) lead_apart) h.fields.lead);
          numbers = numbers;
          finds = λ live original. record { key = at; given = is_key; region = now.0; found = now.1; is = now.2 ∙ sym number };
          made = ap (λ (q : Listing Region). q.made) put;
          count = ap length nodes ∙ length-set i.regions.nodes place.place (record out.node { value = away });
          track = home-track input limit s.node.value.normal x (home_at k n.region) t (ap (λ (y : LiveNode Region). y.value.normal) node ∙ out.was) s.stands;
        }

    lead-out : n.normal ≡ false → n ≡ lead_name k → k.lead ≡ t → IsOut false n.region i.regions j.regions i.lead j.lead x key → IsOutNow
    lead-out normal named lead (same, was, now) =
        let input = i.input.value in
        let limit = i.settings.budget in
        let home2 : ℕ → Bool = home_at (lent_core k seat n) in
        let nodes : j.regions.nodes ≡ i.regions.nodes = ap (λ (q : Listing Region). q.nodes) same in
        let stands : SlotStands input limit (Home x) (lead_home k) k.lead = subst (λ (y : Slot). SlotStands input limit y (lead_home k) k.lead) was h.fields.lead in
        record {
          regions =
              subst (λ (ns : List (LiveNode Region)). RegionsStand input limit home2 ns k.regions) (sym nodes)
              (regions-home input limit (home_at k) home2 0 k.last i.regions.nodes k.regions (stands-sound i k h).named.rising
              (λ other above. home-other k seat n (record { generation = k.generation; region = other; normal = true })
              (kind-apart (record { generation = k.generation; region = other; normal = true }) n true false refl normal refl))
              h.fields.regions);
          lead =
              subst (λ (y : Slot). SlotStands input limit y (lead_home (lent_core k seat n)) k.lead) (sym now)
              (record { away = ap (at_home (lent_core k seat n)) (sym named) ∙ home-same k seat n; count = sym (own-home input limit x (lead_home k) k.lead stands) });
          numbers = record { at = λ y r found. (r, ap (λ (q : Listing Region). get q y) same ∙ found, refl) };
          finds = λ live original. absurd (cc);
          made = ap (λ (q : Listing Region). q.made) same;
          count = ap length nodes;
          track = subst (λ (y : CoreTrack MachineState). TrackStands input limit x true y) lead (home-track input limit i.lead x (lead_home k) k.lead was h.fields.lead);
        }

    out-now : FoundTrack k n t → IsOutNow
    out-now (Original generation normal found) = normal-out generation normal found (subst (λ (o : Bool). IsOut o n.region i.regions j.regions i.lead j.lead x key) normal l.out)
    out-now (Lead normal named lead) = lead-out normal named lead (subst (λ (o : Bool). IsOut o n.region i.regions j.regions i.lead j.lead x key) normal l.out)

    now-out : IsOutNow
    now-out = out-now stands-found

    pub lent-can : lendable (rv32 i.input.value) i.settings k n ≡ true → event (machine_of (view_of_board i)) i.settings k (E.Lend seat n) ≡ Some (lent_core k seat n)
    lent-can may = event-lend (rv32 i.input.value) i.settings k seat n may

    loans-now : core_loans j.loans.items ≡ k.loans ++ (record { seat = seat; name = n; dropped = None } ∷ [])
    loans-now =
        ap core_loans l.loans ∙ map-append core_loan i.loans.items (record { seat = seat; name = n; key = key; dropped = None } ∷ [])
        ∙ ap (λ (ls : List OpenLoan). ls ++ (record { seat = seat; name = n; dropped = None } ∷ [])) h.fields.loans

    one-at-most : (o : Bool) → one_if (not o) ≤ 1
    one-at-most true = omega arith
    one-at-most false = omega arith

    pub lent-stands : lendable (rv32 i.input.value) i.settings k n ≡ true → StandsFor (record i { regions = j.regions; lead = j.lead; loans = j.loans; entries = j.entries }) (lent_core k seat n)
    lent-stands may =
        let o = now-out in
        let new : Lent = record { seat = seat; name = n; key = key; dropped = None } in
        record {
          limits = h.limits;
          guest = h.guest;
          legal = pushed-legal i j (E.Lend seat n) k (lent_core k seat n) l.pushed h.legal (lent-can may);
          fields = record {
            base = h.fields.base;
            ready = h.fields.ready;
            rows = h.fields.rows;
            generation = h.fields.generation;
            last = h.fields.last;
            regions = o.regions;
            lead = o.lead;
            loans = loans-now;
            keys =
                subst (λ (ls : List Lent). All (LoanFinds j.regions) ls) (sym l.loans)
                (All-append (LoanFinds j.regions) i.loans.items (new ∷ []) (loans-kept i.regions j.regions o.numbers i.loans.items h.fields.keys) (All-cons (LoanFinds j.regions) new [] o.finds (All-nil (LoanFinds j.regions))));
            finish = h.fields.finish;
            halted = h.fields.halted;
          };
          room = record {
            entries =
                (let len = l.pushed.len in
                let count = l.count in
                let room = l.room in
                let one = one-at-most (over k) in
                omega arith);
            names = (let names = h.room.names in let made = o.made in let count = o.count in omega arith);
          };
        }

    pub lent-view : (v : Posted) → view_of_board i ≡ v → view_of_board (record i { regions = j.regions; lead = j.lead; loans = j.loans; entries = j.entries }) ≡ posted v (E.Lend seat n)
    lent-view v seen = pushed-view i j (E.Lend seat n) l.pushed ∙ ap (λ (u : Posted). posted u (E.Lend seat n)) seen

    pub lent-is : (v : Posted) (loan : Loan) → view_of_board i ≡ v → lendable (rv32 i.input.value) i.settings k n ≡ true → loan.name ≡ n → loan.track ≡ x → loan.input ≡ i.input.value → (view_of x).own ≤ (view_of x).budget
        → IsLent v (view_of_board (record i { regions = j.regions; lead = j.lead; loans = j.loans; entries = j.entries })) seat loan
    lent-is v loan seen may name track input within =
        subst (λ (m : Name). ((view : Posted) → view_of_board i ≡ view → IsLent view w seat (record loan { name = m }))) (sym name) (λ view is. here view is) v seen
      where
        w : Posted
        w = view_of_board (record i { regions = j.regions; lead = j.lead; loans = j.loans; entries = j.entries })

        core-now : core_of w ≡ lent_core k seat n
        core-now = core-stood (record i { regions = j.regions; lead = j.lead; loans = j.loans; entries = j.entries }) (lent_core k seat n) (lent-stands may)

        lent-to : IsLoanOf w seat n
        lent-to = (
          record { seat = seat; name = n; dropped = None },
          ap (λ (c : GuestCore). find_loan n c.loans) core-now
              ∙ find_loan-new k.loans (record { seat = seat; name = n; dropped = None }) (find_loan-home k n (stands-sound i k h).named (t, can.found) (home-lent k n can.home)),
          refl,
        )

        here : (view : Posted) → view_of_board i ≡ view → IsLent view w seat (record loan { name = n })
        here view is = record {
          can = sym (lend-seen i k view h is n) ∙ may;
          entry = lent-view view is;
          live = t;
          found = ap (λ (c : GuestCore). find_track c n) (ap core_of (sym is) ∙ core-stood i k h) ∙ can.found;
          track =
              subst (λ (u : Posted). TrackStands u.input u.settings.budget loan.track true t) is
              (subst (λ (y : Track). TrackStands i.input.value i.settings.budget y true t) (sym track) now-out.track);
          input = input ∙ ap (λ (u : Posted). u.input) is;
          own =
              subst (λ (u : Posted). (view_of loan.track).own ≤ u.settings.budget) is
              (subst (λ (y : Track). (view_of y).own ≤ i.settings.budget) (sym track) (let budget = now-out.track.budget in omega (arith, within)));
          loan_of = lent-to;
          still = ap (λ (c : GuestCore). find_track c n) core-now ∙ can.found;
        }

-- ---- the original that is taken out

-- the region that has the key of its number
module _ (q : Listing Region) (number : ℕ) (key : Key) (r : Region) (sound : IsSound q) (is : Some key ≡ option_map (λ n. n.key) (numbered number q.nodes)) (got : Some r ≡ get q key) where
  the-node : NumberedBy number q key
  the-node = numbered-by number q key sound is

  the-region : the-node.node.value ≡ r
  the-region = (let same : Some the-node.node.value ≡ Some r = sym the-node.got ∙ sym got in same_Some the-node.node.value r same)

  pub normal-home : HasNormalHome number q.nodes → IsHome r.normal
  normal-home (n, found, home) =
      let node : n ≡ the-node.node = same_Some n the-node.node (sym found ∙ the-node.found) in
      (home.0, ap (λ (y : Region). y.normal) (sym the-region) ∙ ap (λ (y : LiveNode Region). y.value.normal) (sym node) ∙ home.1)

  pub normal-is_out : (x : Track) (s : Slot) → r.normal ≡ Home x → s ≡ Away (view_of x).own → IsNormalOut q (with_value q key (record r { normal = s })) number x key
  normal-is_out x s was away = record {
    sound = sound;
    node = the-node.node;
    found = the-node.found;
    own_key = the-node.key_is;
    was = ap (λ (y : Region). y.normal) the-region ∙ was;
    put = ap₂ (λ (y : Region) (t : Slot). with_value q key (record y { normal = t })) (sym the-region) away;
  }

-- ---- the oldest

oldest-can : (v : Posted) (n : Name) → oldest_lendable v ≡ Some n → may_lend v n ≡ true
oldest-can v n is = first_lendable-true (machine_of v) v.settings (core_of v) n (core_of v).regions is

-- the loan of the oldest lendable name
pub lend-oldest : {F : Type 0} (v w : Posted) (seat : ℕ) (n : Name) (r : Result (Option Loan) F) → Some n ≡ oldest_lendable v
    → MatchResult r (LendNamedIs v w seat n) (λ _. w ≡ v) → MatchResult r (LendIs v w seat) (λ _. w ≡ v)
lend-oldest v w seat n (Err e) is h = h
lend-oldest v w seat n (Ok None) is h = absurd (let can = oldest-can v n (sym is) in let cannot = h.1 in cc)
lend-oldest v w seat n (Ok (Some loan)) is h = (h.0, sym is ∙ ap (λ (m : Name). Some m) (sym h.1))
