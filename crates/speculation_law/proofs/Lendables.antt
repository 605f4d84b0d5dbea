-- Where there is no first lendable name, no name is lendable.
use Rattle.std.proofs.Common.{◌≡◌, ℕ, Bool, true, false, not, if◌then◌else◌, List, [], ◌∷◌, Option, Some, None, nat_eq, refl, ap, ◌∙◌, eqb-true}
use Rattle.std.proofs.lemmas.Bool.{and_right}
use Rattle.speculation.specs.declared.tracks.Name.{Name}
use Rattle.speculation.specs.declared.history.Settings.{Settings}
use Rattle.speculation.specs.Machine.{Machine}
use Rattle.speculation.specs.Core.{Core, Track, Region, over, lead_name, normal_name, find_normal, find_track}
use Rattle.speculation.specs.Events.{is_ready, lendable}
use Rattle.speculation.specs.Serial.{first_lendable}
use Rattle.speculation_law.proofs.Names.{FoundTrack, Original, Lead, find_track-found}

-- the first name isn't lendable
pub unlendable-here : (k : Name) (rest : Option Name) (t : Bool) → (if t then Some k else rest) ≡ None → t ≡ false
unlendable-here k rest true h = absurd (cc)
unlendable-here k rest false h = refl

-- nor is one behind it
pub unlendable-later : (k : Name) (rest : Option Name) (t : Bool) → (if t then Some k else rest) ≡ None → rest ≡ None
unlendable-later k rest true h = absurd (cc)
unlendable-later k rest false h = h

module _ {S E D : Type 0} (m : Machine S E D) (b : Settings) where
  pub lead-unlendable : (c : Core S E D) (rs : List (Region S)) → first_lendable m b c rs ≡ None → lendable m b c (lead_name c) ≡ false
  lead-unlendable c [] h = unlendable-here (lead_name c) None (lendable m b c (lead_name c)) h
  lead-unlendable c (r ∷ rs) h = lead-unlendable c rs (unlendable-later (normal_name c r) (first_lendable m b c rs) (lendable m b c (normal_name c r)) h)

  original-by : (c : Core S E D) (number : ℕ) (r : Region S) (rs : List (Region S)) (t : Track S) (u : Bool) → nat_eq number r.number ≡ u → (if u then Some r.normal else find_normal number rs) ≡ Some t
      → first_lendable m b c (r ∷ rs) ≡ None → (find_normal number rs ≡ Some t → first_lendable m b c rs ≡ None → lendable m b c (record { generation = c.generation; region = number; normal = true }) ≡ false)
      → lendable m b c (record { generation = c.generation; region = number; normal = true }) ≡ false
  original-by c number r rs t true is found h rest =
      let same : number ≡ r.number = eqb-true number r.number is in
      ap (λ k. lendable m b c (record { generation = c.generation; region = k; normal = true })) same
      ∙ unlendable-here (normal_name c r) (first_lendable m b c rs) (lendable m b c (normal_name c r)) h
  original-by c number r rs t false is found h rest = rest found (unlendable-later (normal_name c r) (first_lendable m b c rs) (lendable m b c (normal_name c r)) h)

  original-unlendable : (c : Core S E D) (number : ℕ) (rs : List (Region S)) (t : Track S) → find_normal number rs ≡ Some t → first_lendable m b c rs ≡ None
      → lendable m b c (record { generation = c.generation; region = number; normal = true }) ≡ false
  original-unlendable c number [] t found h = absurd (cc)
  original-unlendable c number (r ∷ rs) t found h = original-by c number r rs t (nat_eq number r.number) refl found h (original-unlendable c number rs t)

  live-unlendable : (c : Core S E D) (n : Name) (t : Track S) → first_lendable m b c c.regions ≡ None → FoundTrack c n t → lendable m b c n ≡ false
  live-unlendable c n t h (Original generation normal found) =
      let same : n ≡ record { generation = c.generation; region = n.region; normal = true } = λ i. record { generation = generation i; region = n.region; normal = normal i } in
      ap (lendable m b c) same ∙ original-unlendable c n.region c.regions t found h
  live-unlendable c n t h (Lead normal named lead) = ap (lendable m b c) named ∙ lead-unlendable c c.regions h

  unlendable-by : (c : Core S E D) (n : Name) (o : Option (Track S)) → find_track c n ≡ o → first_lendable m b c c.regions ≡ None → lendable m b c n ≡ false
  unlendable-by c n None is h = and_right (not (over c)) (is_ready m b c n (find_track c n)) (ap (is_ready m b c n) is)
  unlendable-by c n (Some t) is h = live-unlendable c n t h (find_track-found c n t is)

  -- no name is lendable
  pub first_lendable-none : (c : Core S E D) (n : Name) → first_lendable m b c c.regions ≡ None → lendable m b c n ≡ false
  first_lendable-none c n h = unlendable-by c n (find_track c n) refl h
