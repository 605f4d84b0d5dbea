-- What comes next in the serial history is allowed, and what its first rounds are.
use Rattle.std.proofs.Common.{◌≡◌, ℕ, zero, suc, Bool, true, false, not, ◌&&◌, if◌then◌else◌, List, [], ◌∷◌, ◌++◌, Option, Some, None, option_map, unwrap_or, length, is_none, nat_eq, nat_lt, refl, sym, ap, ap₂, ◌∙◌, subst, eq-eqb}
use Rattle.std.proofs.lemmas.Bool.{and_from}
use Rattle.speculation.specs.declared.tracks.Name.{Name}
use Rattle.speculation.specs.declared.tracks.OpenLoan.{OpenLoan}
use Rattle.speculation.specs.declared.history.Settings.{Settings}
use Rattle.speculation.specs.declared.history.Entry.{Entry}
use Rattle.speculation.specs.declared.history.Entry.TheVariants.{Lend, Back, Fork, Cross, Keep, Discard, Release, Finish}
use Rattle.speculation.specs.Machine.{Machine}
use Rattle.speculation.specs.Verdicts.{is_kept}
use Rattle.speculation.specs.Core.{Core, Track, Region, over, lead_name, normal_name, find_loan, find_track, verified}
use Rattle.speculation.specs.Due.{Judgement, Due, Finishing, Crossing, Judging, Forking, due}
use Rattle.speculation.specs.Effects.{effect}
use Rattle.speculation.specs.Events.{some_if, slice, lendable, back_of, released_core, is_row_entry, is_entry_of, due_done, event, core_run}
use Rattle.speculation.specs.Serial.{row_entry, entry_of, first_lendable, slice_of, serial_by, serial_next, with_next, serial}
use Rattle.speculation_law.specs.Naming.{Named}
use Rattle.speculation_law.proofs.Names.{name_eq-refl, home-lent}
use Rattle.speculation_law.proofs.FindLoan.{find_loan-new}
use Rattle.speculation_law.proofs.Lending.{Lendable, SomeLendable, lendable-true}
use Rattle.speculation_law.proofs.Happens.{lent_core, back_core}
use Rattle.speculation_law.proofs.Naming.{find_loan-home}
use Rattle.speculation_law.proofs.Soundness.{core_run-append}

some_if-true : {A : Type 0} (t : Bool) (a : A) → t ≡ true → some_if t a ≡ Some a
some_if-true true a h = refl
some_if-true false a h = absurd (cc)

-- these entries are allowed from c on, and lead to `new`
pub record Allowed {S E D : Type 0} (m : Machine S E D) (b : Settings) (c : Core S E D) (xs : List Entry) : Type 0 where
  pub new : Core S E D
  pub leads : core_run m b (Some c) xs ≡ Some new

module _ {S E D : Type 0} (m : Machine S E D) (b : Settings) where
  done-true : (c : Core S E D) (x : Entry) (d : Due S E D) (o : Option (Due S E D)) → o ≡ Some d → is_entry_of c d x ≡ true → due_done m b c x o ≡ Some (effect m b c d)
  done-true c x d o is entry = ap (due_done m b c x) is ∙ some_if-true (is_entry_of c d x) (effect m b c d) entry

  row-entry : (c : Core S E D) (v : Judgement S D) (t : Bool) → is_kept v.judged.verdict ≡ t → due m b c ≡ Some (Judging v) → event m b c (row_entry t (length c.rows)) ≡ Some (effect m b c (Judging v))
  unfolding event
  row-entry c v true kept h =
      done-true c (Keep (length c.rows)) (Judging v) (due m b c) h (ap (is_row_entry (length c.rows) (Keep (length c.rows))) kept ∙ eq-eqb (length c.rows) (length c.rows) refl)
  row-entry c v false kept h =
      done-true c (Discard (length c.rows)) (Judging v) (due m b c) h (ap (is_row_entry (length c.rows) (Discard (length c.rows))) kept ∙ eq-eqb (length c.rows) (length c.rows) refl)

  -- the entry of a due event does it
  pub event-entry_of : (c : Core S E D) (d : Due S E D) → due m b c ≡ Some d → event m b c (entry_of c d) ≡ Some (effect m b c d)
  unfolding event
  event-entry_of c (Finishing f) h = done-true c Finish (Finishing f) (due m b c) h refl
  event-entry_of c Crossing h = done-true c (Cross (lead_name c)) Crossing (due m b c) h (name_eq-refl (lead_name c))
  event-entry_of c (Judging v) h = row-entry c v (is_kept v.judged.verdict) refl h
  event-entry_of c Forking h =
      done-true c (Fork (record { generation = c.generation; region = suc c.last; normal = false })) Forking (due m b c) h (name_eq-refl (record { generation = c.generation; region = suc c.last; normal = false }))

  run-one : (c new : Core S E D) (x : Entry) → event m b c x ≡ Some new → core_run m b (Some c) (x ∷ []) ≡ Some new
  unfolding core_run
  run-one c new x h = h

  run-two : (c mid new : Core S E D) (x y : Entry) → event m b c x ≡ Some mid → event m b mid y ≡ Some new → core_run m b (Some c) (x ∷ (y ∷ [])) ≡ Some new
  unfolding core_run
  run-two c mid new x y h k = ap (λ o. core_run m b o (y ∷ [])) h ∙ k

  event-release : (c : Core S E D) → nat_lt 0 (length (verified b c)) ≡ true → event m b c (Release (length (verified b c))) ≡ Some (released_core b c)
  unfolding event
  event-release c h = some_if-true (nat_lt 0 (length (verified b c)) && nat_eq (length (verified b c)) (length (verified b c))) (released_core b c)
      (and_from (nat_lt 0 (length (verified b c))) (nat_eq (length (verified b c)) (length (verified b c))) h (eq-eqb (length (verified b c)) (length (verified b c)) refl))

  pub event-lend : (c : Core S E D) (seat : ℕ) (n : Name) → lendable m b c n ≡ true → event m b c (Lend seat n) ≡ Some (lent_core c seat n)
  unfolding event
  event-lend c seat n h = some_if-true (lendable m b c n) (lent_core c seat n) h

  -- a track that was just lent comes back
  event-back : (c : Core S E D) (seat : ℕ) (n : Name) (t : Track S) → Named c → Lendable m b c n t → event m b (lent_core c seat n) (Back n (slice m b t)) ≡ Some (back_core m b (lent_core c seat n) n)
  unfolding event
  event-back c seat n t named can =
      let loan : OpenLoan = record { seat = seat; name = n; dropped = None } in
      let lent : find_loan n (lent_core c seat n).loans ≡ Some loan = find_loan-new c.loans loan (find_loan-home c n named (t, can.found) (home-lent c n can.home)) in
      ap₂ (λ (l : Option OpenLoan) (o : Option (Track S)). back_of m b (lent_core c seat n) n (slice m b t) l o) lent can.found
      ∙ some_if-true (is_none {T = ℕ} None && (not (over c) && nat_eq (slice m b t) (slice m b t))) (back_core m b (lent_core c seat n) n)
      (and_from (not (over c)) (nat_eq (slice m b t) (slice m b t)) (ap not can.live) (eq-eqb (slice m b t) (slice m b t) refl))

  first-by : (c : Core S E D) (n k : Name) (rest : Option Name) (t : Bool) → lendable m b c k ≡ t → (if t then Some k else rest) ≡ Some n → (rest ≡ Some n → lendable m b c n ≡ true) → lendable m b c n ≡ true
  first-by c n k rest true is h f = (let same : k ≡ n = cc in subst (λ (x : Name). lendable m b c x ≡ true) same is)
  first-by c n k rest false is h f = f h

  -- the first lendable name is lendable
  pub first_lendable-true : (c : Core S E D) (n : Name) (rs : List (Region S)) → first_lendable m b c rs ≡ Some n → lendable m b c n ≡ true
  first_lendable-true c n [] h = first-by c n (lead_name c) None (lendable m b c (lead_name c)) refl h (λ none. absurd (cc))
  first_lendable-true c n (r ∷ rs) h = first-by c n (normal_name c r) (first_lendable m b c rs) (lendable m b c (normal_name c r)) refl h (first_lendable-true c n rs)

  -- what a round of the serial history does
  pub data Round (c : Core S E D) (xs : List Entry) : Type 0 where
    DueRound : (d : Due S E D) → due m b c ≡ Some d → core_run m b (Some c) xs ≡ Some (effect m b c d) → Round c xs
    ReleaseRound : nat_lt 0 (length (verified b c)) ≡ true → core_run m b (Some c) xs ≡ Some (released_core b c) → Round c xs
    LendRound : (n : Name) (t : Track S) → Lendable m b c n t → core_run m b (Some c) xs ≡ Some (back_core m b (lent_core c 0 n) n) → Round c xs

  lend-and-back : (c : Core S E D) (n : Name) → Named c → SomeLendable m b c n → lendable m b c n ≡ true → Round c (Lend 0 n ∷ (Back n (slice_of m b (find_track c n)) ∷ []))
  lend-and-back c n named can lends =
      let count : slice_of m b (find_track c n) ≡ slice m b can.track = ap (slice_of m b) can.is.found in
      LendRound n can.track can.is (ap (λ k. core_run m b (Some c) (Lend 0 n ∷ (Back n k ∷ []))) count
      ∙ run-two c (lent_core c 0 n) (back_core m b (lent_core c 0 n) n) (Lend 0 n) (Back n (slice m b can.track)) (event-lend c 0 n lends) (event-back c 0 n can.track named can.is))

  round-by : (c : Core S E D) (xs : List Entry) (d : Option (Due S E D)) (some : Bool) (o : Option Name) → Named c → due m b c ≡ d → nat_lt 0 (length (verified b c)) ≡ some → first_lendable m b c c.regions ≡ o
      → serial_by m b c d some o ≡ Some xs → Round c xs
  round-by c xs (Some d) some o named is shown first h =
      let same : entry_of c d ∷ [] ≡ xs = cc in
      subst (λ ys. Round c ys) same (DueRound d is (run-one c (effect m b c d) (entry_of c d) (event-entry_of c d is)))
  round-by c xs None true o named is shown first h =
      let same : Release (length (verified b c)) ∷ [] ≡ xs = cc in
      subst (λ ys. Round c ys) same (ReleaseRound shown (run-one c (released_core b c) (Release (length (verified b c))) (event-release c shown)))
  round-by c xs None false (Some n) named is shown first h =
      let lends = first_lendable-true c n c.regions first in
      let same : Lend 0 n ∷ (Back n (slice_of m b (find_track c n)) ∷ []) ≡ xs = cc in
      subst (λ ys. Round c ys) same (lend-and-back c n named (lendable-true m b c n lends) lends)
  round-by c xs None false None named is shown first h = absurd (cc)

  -- what comes next is a round
  pub serial_next-round : (c : Core S E D) (xs : List Entry) → Named c → serial_next m b c ≡ Some xs → Round c xs
  serial_next-round c xs named h =
      round-by c xs (due m b c) (nat_lt 0 (length (verified b c))) (first_lendable m b c c.regions) named refl refl refl h

  round-allowed : (c : Core S E D) (xs : List Entry) → Round c xs → Allowed m b c xs
  round-allowed c xs (DueRound d is leads) = record { new = effect m b c d; leads = leads }
  round-allowed c xs (ReleaseRound shown leads) = record { new = released_core b c; leads = leads }
  round-allowed c xs (LendRound n t can leads) = record { new = back_core m b (lent_core c 0 n) n; leads = leads }

  -- what comes next is allowed
  pub serial_next-allowed : (c : Core S E D) (xs : List Entry) → Named c → serial_next m b c ≡ Some xs → Allowed m b c xs
  serial_next-allowed c xs named h = round-allowed c xs (serial_next-round c xs named h)

  -- The first rounds of the serial history

  -- none from a core after which nothing comes
  pub serial-none : (k : ℕ) (c : Core S E D) → serial_next m b c ≡ None → serial m b k c ≡ []
  unfolding serial
  serial-none zero c h = refl
  serial-none (suc k) c h = ap (with_next m b c (λ d. serial m b k d)) h

  -- and else what comes next, and then those from the core that it leads to
  pub serial-some : (k : ℕ) (c mid : Core S E D) (xs : List Entry) → serial_next m b c ≡ Some xs → core_run m b (Some c) xs ≡ Some mid → serial m b (suc k) c ≡ xs ++ serial m b k mid
  unfolding serial
  serial-some k c mid xs next leads =
      ap (with_next m b c (λ d. serial m b k d)) next ∙ ap (λ o. xs ++ unwrap_or (option_map (λ d. serial m b k d) o) []) leads

  -- which lead on from there
  pub serial-rest : (start : S) (k : ℕ) (c mid last : Core S E D) (xs : List Entry) → serial_next m b c ≡ Some xs → core_run m b (Some c) xs ≡ Some mid
      → core_run m b (Some c) (serial m b (suc k) c) ≡ Some last → core_run m b (Some mid) (serial m b k mid) ≡ Some last
  serial-rest start k c mid last xs next leads led =
      sym (ap (core_run m b (Some c)) (serial-some k c mid xs next leads) ∙ core_run-append m b start xs (serial m b k mid) (Some c) ∙ ap (λ o. core_run m b o (serial m b k mid)) leads) ∙ led

  pub run-none : (c : Core S E D) → core_run m b (Some c) [] ≡ Some c
  unfolding core_run
  run-none c = refl

  -- entries of no round lead nowhere else
  pub serial-still : (k : ℕ) (c last : Core S E D) → serial m b k c ≡ [] → core_run m b (Some c) (serial m b k c) ≡ Some last → c ≡ last
  serial-still k c last none led = (let same : Some c ≡ Some last = sym (ap (core_run m b (Some c)) none ∙ run-none c) ∙ led in cc)
