-- The track of a name that is lent stays the same under whatever does not concern it.
use Rattle.std.proofs.Common.{◌≡◌, ℕ, suc, ◌<◌, ◌≤◌, Bool, true, false, not, if◌then◌else◌, List, [], ◌∷◌, Option, Some, None, nat_eq, refl, sym, ap, ◌∙◌, subst, eq-eqb, ne_eqb, eqb-true, arith}
use Rattle.std.proofs.lemmas.Bool.{and_parts, not-true}
use Rattle.speculation.specs.declared.tracks.Name.{Name}
use Rattle.speculation.specs.declared.history.Settings.{Settings}
use Rattle.speculation.specs.Machine.{Machine}
use Rattle.speculation.specs.Run.{Mark}
use Rattle.speculation.specs.Core.{Core, Track, Between, Region, name_eq, lead_name, normal_name, is_lent, is_named, at_home, track_point, find_normal, track_by, find_track, front_name, front_home}
use Rattle.speculation.specs.Effects.{region_of, crossed, forked, crossed_core, forked_core}
use Rattle.speculation.specs.Events.{run_on, slice, back_normals, back_regions, back_lead, left_over, released_regions, released_lead, released_by}
use Rattle.speculation_law.specs.Naming.{Rising}
use Rattle.speculation_law.proofs.Names.{FoundTrack, Original, Lead, name_eq-true, name_eq-same}
use Rattle.speculation_law.proofs.Happens.{back_core}

module _ {S : Type 0} where
  -- the track of a name by its parts: the original counts only for a present original's name, and the lead only for its own
  pub track_by-found : (p x l : Bool) (o o2 : Option (Track S)) (lead : Track S) → (p ≡ true → x ≡ true → o ≡ o2) → track_by p x l o lead ≡ track_by p x l o2 lead
  track_by-found false x l o o2 lead h = refl
  track_by-found true true l o o2 lead h = h refl refl
  track_by-found true false true o o2 lead h = refl
  track_by-found true false false o o2 lead h = refl

  pub track_by-lead : (p x l : Bool) (o : Option (Track S)) (lead lead2 : Track S) → (p ≡ true → x ≡ false → l ≡ true → ⊥) → track_by p x l o lead ≡ track_by p x l o lead2
  track_by-lead false x l o lead lead2 h = refl
  track_by-lead true true l o lead lead2 h = refl
  track_by-lead true false true o lead lead2 h = absurd (h refl refl refl)
  track_by-lead true false false o lead lead2 h = refl

  -- The originals of the regions

  found-other : (number : ℕ) (r : Region S) (rs rs2 : List (Region S)) → find_normal number rs ≡ find_normal number rs2 → find_normal number (r ∷ rs) ≡ find_normal number (r ∷ rs2)
  found-other number r rs rs2 h = ap (λ o. if nat_eq number r.number then Some r.normal else o) h

  pub find_normal-crossed : (number : ℕ) (rs : List (Region S)) (k : ℕ) (s : S) → find_normal number (crossed rs k s) ≡ find_normal number rs
  find_normal-crossed number [] k s = refl
  find_normal-crossed number (r ∷ []) k s = refl
  find_normal-crossed number (r ∷ (r2 ∷ rs)) k s = found-other number r (crossed (r2 ∷ rs) k s) (r2 ∷ rs) (find_normal-crossed number (r2 ∷ rs) k s)

  pub find_normal-forked : (number : ℕ) (rs : List (Region S)) (g : Between) (new : Region S) → nat_eq number new.number ≡ false → find_normal number (forked rs g new) ≡ find_normal number rs
  find_normal-forked number [] g new h = ap (λ t. if t then Some new.normal else None) h
  find_normal-forked number (r ∷ []) g new h = ap (λ o. if nat_eq number r.number then Some r.normal else o) (ap (λ t. if t then Some new.normal else None) h)
  find_normal-forked number (r ∷ (r2 ∷ rs)) g new h = found-other number r (forked (r2 ∷ rs) g new) (r2 ∷ rs) (find_normal-forked number (r2 ∷ rs) g new h)

  pub find_normal-released : (number limit : ℕ) (r : Region S) (rs : List (Region S)) → nat_eq number r.number ≡ false → find_normal number (released_regions limit (r ∷ rs)) ≡ find_normal number (r ∷ rs)
  find_normal-released number limit r rs h =
      ap (λ t. if t then Some (record r.normal { held = left_over limit r.normal.held }) else find_normal number rs) h
      ∙ sym (ap (λ t. if t then Some r.normal else find_normal number rs) h)

  pub find_normal-rest : (number : ℕ) (r : Region S) (rs : List (Region S)) → nat_eq number r.number ≡ false → find_normal number rs ≡ find_normal number (r ∷ rs)
  find_normal-rest number r rs h = sym (ap (λ t. if t then Some r.normal else find_normal number rs) h)

  number-by : (number low high : ℕ) (r : Region S) (rs : List (Region S)) (t : Track S) (u : Bool) → nat_eq number r.number ≡ u → low < r.number → (r.number ≤ high)
      → (if u then Some r.normal else find_normal number rs) ≡ Some t → (find_normal number rs ≡ Some t → number ≤ high) → number ≤ high
  number-by number low high r rs t true is above below h rest = (let same = eqb-true number r.number is in omega arith)
  number-by number low high r rs t false is above below h rest = rest h

  pub rising-high : (low high : ℕ) (rs : List (Region S)) → Rising low high rs → low ≤ high
  rising-high low high [] h = h
  rising-high low high (r ∷ rs) h = (let rest = rising-high r.number high rs h.1 in omega (arith, h.0))

  -- an open region's number is at most the last
  pub number-high : (number low high : ℕ) (rs : List (Region S)) (t : Track S) → Rising low high rs → find_normal number rs ≡ Some t → number ≤ high
  number-high number low high [] t h found = absurd (cc)
  number-high number low high (r ∷ rs) t h found =
      number-by number low high r rs t (nat_eq number r.number) refl h.0 (rising-high r.number high rs h.1) found (number-high number r.number high rs t h.1)

  pub rising-lower : (low low2 high : ℕ) (rs : List (Region S)) → low2 ≤ low → Rising low high rs → Rising low2 high rs
  rising-lower low low2 high [] le h = omega arith
  rising-lower low low2 high (r ∷ rs) le h = (omega (arith, h.0), h.1)

  pub rising-crossed : (low high : ℕ) (rs : List (Region S)) (k : ℕ) (s : S) → Rising low high rs → Rising low high (crossed rs k s)
  rising-crossed low high [] k s h = h
  rising-crossed low high (r ∷ []) k s h = h
  rising-crossed low high (r ∷ (r2 ∷ rs)) k s h = (h.0, rising-crossed r.number high (r2 ∷ rs) k s h.1)

  pub rising-forked : (low high : ℕ) (rs : List (Region S)) (g : Between) (s : S) → Rising low high rs → Rising low (suc high) (forked rs g (region_of (suc high) s))
  rising-forked low high [] g s h = (omega arith, omega arith)
  rising-forked low high (r ∷ []) g s h = (h.0, ((let below : r.number ≤ high = h.1 in omega arith), omega arith))
  rising-forked low high (r ∷ (r2 ∷ rs)) g s h = (h.0, rising-forked r.number high (r2 ∷ rs) g s h.1)

  pub rising-released : (low high limit : ℕ) (rs : List (Region S)) → Rising low high rs → Rising low high (released_regions limit rs)
  rising-released low high limit [] h = h
  rising-released low high limit (r ∷ rs) h = h

module _ {S E D : Type 0} (m : Machine S E D) (b : Settings) where
  back-other_by : (number other : ℕ) (r : Region S) (rs : List (Region S)) (u : Bool) → nat_eq other r.number ≡ u → nat_eq other number ≡ false
      → find_normal number (back_normals m b other rs) ≡ find_normal number rs
      → find_normal number (if u then (record r { normal = run_on m r.normal (slice m b r.normal) }) ∷ rs else r ∷ back_normals m b other rs) ≡ find_normal number (r ∷ rs)
  back-other_by number other r rs false is apart h = found-other number r (back_normals m b other rs) rs h
  back-other_by number other r rs true is apart h =
      let differ : nat_eq number r.number ≡ false = ne_eqb number r.number (λ same. (let one = eqb-true other r.number is in let two : nat_eq other number ≡ true = eq-eqb other number (one ∙ sym same) in cc)) in
      ap (λ t. if t then Some (run_on m r.normal (slice m b r.normal)) else find_normal number rs) differ ∙ sym (ap (λ t. if t then Some r.normal else find_normal number rs) differ)

  pub find_normal-back : (number other : ℕ) (rs : List (Region S)) → nat_eq other number ≡ false → find_normal number (back_normals m b other rs) ≡ find_normal number rs
  find_normal-back number other [] h = refl
  find_normal-back number other (r ∷ rs) h = back-other_by number other r rs (nat_eq other r.number) refl h (find_normal-back number other rs h)

  rising-back_by : (low high other : ℕ) (r : Region S) (rs : List (Region S)) (u : Bool) → Rising low high (r ∷ rs) → Rising r.number high (back_normals m b other rs)
      → Rising low high (if u then (record r { normal = run_on m r.normal (slice m b r.normal) }) ∷ rs else r ∷ back_normals m b other rs)
  rising-back_by low high other r rs true h rest = h
  rising-back_by low high other r rs false h rest = (h.0, rest)

  rising-back_normals : (low high other : ℕ) (rs : List (Region S)) → Rising low high rs → Rising low high (back_normals m b other rs)
  rising-back_normals low high other [] h = h
  rising-back_normals low high other (r ∷ rs) h = rising-back_by low high other r rs (nat_eq other r.number) h (rising-back_normals r.number high other rs h.1)

  pub rising-back : (low high other : ℕ) (normal : Bool) (rs : List (Region S)) → Rising low high rs → Rising low high (back_regions m b normal other rs)
  rising-back low high other true rs h = rising-back_normals low high other rs h
  rising-back low high other false rs h = h

  -- Names apart

  lead-apart : (c : Core S E D) (n : Name) → name_eq (lead_name c) n ≡ false → nat_eq n.generation c.generation ≡ true → n.normal ≡ false → nat_eq n.region c.last ≡ true → ⊥
  lead-apart c n apart p x l =
      let generation : n.generation ≡ c.generation = eqb-true n.generation c.generation p in
      let region : n.region ≡ c.last = eqb-true n.region c.last l in
      let same : lead_name c ≡ n = λ i. record { generation = sym generation i; region = sym region i; normal = sym x i } in
      let both : name_eq (lead_name c) n ≡ true = name_eq-same (lead_name c) n same in cc

  region-apart : (c : Core S E D) (n k : Name) → name_eq k n ≡ false → k.generation ≡ c.generation → k.normal ≡ true → nat_eq n.generation c.generation ≡ true → n.normal ≡ true → nat_eq k.region n.region ≡ false
  region-apart c n k apart generation normal p x =
      ne_eqb k.region n.region (λ region. (let present : n.generation ≡ c.generation = eqb-true n.generation c.generation p in
      let one : k.generation ≡ n.generation = generation ∙ sym present in let two : k.normal ≡ n.normal = normal ∙ sym x in
      let same : k ≡ n = λ i. record { generation = one i; region = region i; normal = two i } in
      let both : name_eq k n ≡ true = name_eq-same k n same in cc))

  flip : (x y : ℕ) → nat_eq x y ≡ false → nat_eq y x ≡ false
  flip x y h = ne_eqb y x (λ same. (let both : nat_eq x y ≡ true = eq-eqb x y (sym same) in cc))

  -- a track of another name came back
  pub find_track-back : (c : Core S E D) (n k : Name) (t : Track S) → FoundTrack c k t → name_eq k n ≡ false → find_track (back_core m b c k) n ≡ find_track c n
  find_track-back c n k t (Original generation normal found) apart =
      subst (λ x. track_by (nat_eq n.generation c.generation) n.normal (nat_eq n.region c.last) (find_normal n.region (back_regions m b x k.region c.regions)) (back_lead m b x c.lead) ≡ find_track c n) (sym normal)
      (track_by-found (nat_eq n.generation c.generation) n.normal (nat_eq n.region c.last) (find_normal n.region (back_normals m b k.region c.regions)) (find_normal n.region c.regions) c.lead
      (λ p x. find_normal-back n.region k.region c.regions (region-apart c n k apart generation normal p x)))
  find_track-back c n k t (Lead normal named lead) apart =
      subst (λ x. track_by (nat_eq n.generation c.generation) n.normal (nat_eq n.region c.last) (find_normal n.region (back_regions m b x k.region c.regions)) (back_lead m b x c.lead) ≡ find_track c n) (sym normal)
      (track_by-lead (nat_eq n.generation c.generation) n.normal (nat_eq n.region c.last) (find_normal n.region c.regions) (run_on m c.lead (slice m b c.lead)) c.lead
      (lead-apart c n (subst (λ (x : Name). name_eq x n ≡ false) named apart)))

  -- a name that is lent is not the name of what is at home
  pub home-apart : (c : Core S E D) (n k : Name) → is_lent n c.loans ≡ true → at_home c k ≡ true → name_eq k n ≡ false
  home-apart c n k lent home = apart-by (name_eq k n) refl
    where
      apart-by : (t : Bool) → name_eq k n ≡ t → t ≡ false
      apart-by true is = absurd (let same : k ≡ n = name_eq-true k n is in
          let none : is_lent k c.loans ≡ false = not-true (is_lent k c.loans) (and_parts (not (is_lent k c.loans)) (not (is_named k c.lost)) home).0 in
          let other : is_lent n c.loans ≡ false = subst (λ (x : Name). is_lent x c.loans ≡ false) same none in cc)
      apart-by false is = refl

  -- the lead closed its region
  pub find_track-crossed : (c : Core S E D) (n : Name) → name_eq (lead_name c) n ≡ false → find_track (crossed_core m c) n ≡ find_track c n
  find_track-crossed c n apart =
      track_by-found (nat_eq n.generation c.generation) n.normal (nat_eq n.region c.last) (find_normal n.region (crossed_core m c).regions) (find_normal n.region c.regions) (crossed_core m c).lead
      (λ p x. find_normal-crossed n.region c.regions c.lead.own (track_point m c.lead).state)
      ∙ track_by-lead (nat_eq n.generation c.generation) n.normal (nat_eq n.region c.last) (find_normal n.region c.regions) (crossed_core m c).lead c.lead (lead-apart c n apart)

  track_by-last : (p l l2 : Bool) (x : Bool) (o : Option (Track S)) (lead lead2 : Track S) → x ≡ true → track_by p x l o lead ≡ track_by p x l2 o lead2
  track_by-last false l l2 x o lead lead2 h = refl
  track_by-last true l l2 true o lead lead2 h = refl
  track_by-last true l l2 false o lead lead2 h = absurd (cc)

  -- a region opened
  pub find_track-forked : (c : Core S E D) (n : Name) (t : Track S) → Rising 0 c.last c.regions → FoundTrack c n t → name_eq (lead_name c) n ≡ false → find_track (forked_core m c) n ≡ find_track c n
  find_track-forked c n t rising (Lead normal named lead) apart = absurd (let same : name_eq (lead_name c) n ≡ true = name_eq-same (lead_name c) n (sym named) in cc)
  find_track-forked c n t rising (Original generation normal found) apart =
      let below : n.region ≤ c.last = number-high n.region 0 c.last c.regions t rising found in
      let differ : nat_eq n.region (suc c.last) ≡ false = ne_eqb n.region (suc c.last) (λ same. absurd (omega arith)) in
      track_by-found (nat_eq n.generation c.generation) n.normal (nat_eq n.region (suc c.last)) (find_normal n.region (forked_core m c).regions) (find_normal n.region c.regions) (forked_core m c).lead
      (λ p x. find_normal-forked n.region c.regions (record { steps = c.lead.own; pieces = c.lead.held }) (region_of (suc c.last) (track_point m c.lead).state) differ)
      ∙ track_by-last (nat_eq n.generation c.generation) (nat_eq n.region (suc c.last)) (nat_eq n.region c.last) n.normal (find_normal n.region c.regions) (forked_core m c).lead c.lead normal

  -- the oldest region is taken off
  pub find_track-kept : (c : Core S E D) (n : Name) (r : Region S) (rs : List (Region S)) → name_eq (normal_name c r) n ≡ false
      → track_by (nat_eq n.generation c.generation) n.normal (nat_eq n.region c.last) (find_normal n.region rs) c.lead ≡ find_track (record c { regions = r ∷ rs }) n
  find_track-kept c n r rs apart =
      track_by-found (nat_eq n.generation c.generation) n.normal (nat_eq n.region c.last) (find_normal n.region rs) (find_normal n.region (r ∷ rs)) c.lead
      (λ p x. find_normal-rest n.region r rs (flip r.number n.region (region-apart c n (normal_name c r) apart refl refl p x)))

  released-track : (c : Core S E D) (n : Name) (limit : ℕ) (rs : List (Region S)) → name_eq (front_name c rs) n ≡ false
      → track_by (nat_eq n.generation c.generation) n.normal (nat_eq n.region c.last) (find_normal n.region (released_regions limit rs)) (released_lead limit rs c.lead)
      ≡ track_by (nat_eq n.generation c.generation) n.normal (nat_eq n.region c.last) (find_normal n.region rs) c.lead
  released-track c n limit [] apart =
      track_by-lead (nat_eq n.generation c.generation) n.normal (nat_eq n.region c.last) None (released_lead limit [] c.lead) c.lead (lead-apart c n apart)
  released-track c n limit (r ∷ rs) apart =
      track_by-found (nat_eq n.generation c.generation) n.normal (nat_eq n.region c.last) (find_normal n.region (released_regions limit (r ∷ rs))) (find_normal n.region (r ∷ rs)) c.lead
      (λ p x. find_normal-released n.region limit r rs (flip r.number n.region (region-apart c n (normal_name c r) apart refl refl p x)))

  -- verified bytes were given out
  pub find_track-released : (c : Core S E D) (n : Name) (home : Bool) (limit : ℕ) (bytes : List Mark) → front_home c ≡ home → is_lent n c.loans ≡ true → find_track (released_by home limit c bytes) n ≡ find_track c n
  find_track-released c n true limit bytes is lent = released-track c n limit c.regions (home-apart c n (front_name c c.regions) lent is)
  find_track-released c n false limit bytes is lent = refl
