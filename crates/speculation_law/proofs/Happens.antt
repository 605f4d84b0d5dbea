-- What an allowed entry of a history says of the core before and after it.
use Rattle.std.proofs.Common.{◌≡◌, ℕ, ◌<◌, true, false, not, ◌&&◌, [], ◌∷◌, ◌++◌, Option, Some, None, is_none, length, nat_eq, nat_lt, refl, ltb-true, eqb-true}
use Rattle.std.proofs.lemmas.Bool.{and_parts, not-true}
use Rattle.speculation.specs.declared.tracks.Name.{Name}
use Rattle.speculation.specs.declared.tracks.OpenLoan.{OpenLoan}
use Rattle.speculation.specs.declared.history.Settings.{Settings}
use Rattle.speculation.specs.declared.history.Entry.{Entry}
use Rattle.speculation.specs.declared.history.Entry.TheVariants.{Lend, Back, Gone, Fork, Cross, Keep, Discard, Release, Finish, Halt}
use Rattle.speculation.specs.Machine.{Machine}
use Rattle.speculation.specs.Core.{Core, Track, over, find_loan, find_track, verified}
use Rattle.speculation.specs.Due.{Due, due}
use Rattle.speculation.specs.Effects.{effect}
use Rattle.speculation.specs.Events.{slice, lendable, back_regions, back_lead, end_loan, back_of, gone_of, gone_live, released_core, is_entry_of, due_done, event}
use Rattle.speculation_law.proofs.Options.{some_if-some, is_none-none}
use Rattle.speculation_law.proofs.Lending.{Lendable, lendable-true}

-- the core with a loan added
abbrev pub lent_core : {S E D : Type 0} → Core S E D → ℕ → Name → Core S E D
lent_core c seat n = record c { loans = c.loans ++ (record { seat = seat; name = n; dropped = None } ∷ []) }

-- the core after a track came back
abbrev pub back_core : {S E D : Type 0} → Machine S E D → Settings → Core S E D → Name → Core S E D
back_core m b c n = record c { regions = back_regions m b n.normal n.region c.regions; lead = back_lead m b n.normal c.lead; loans = end_loan n c.loans }

pub data Happens {S E D : Type 0} (m : Machine S E D) (b : Settings) (c new : Core S E D) (x : Entry) : Type 0 where
  Lends : (seat : ℕ) (n : Name) (t : Track S) → x ≡ Lend seat n → Lendable m b c n t → lent_core c seat n ≡ new → Happens m b c new x
  Returns : (n : Name) (count : ℕ) (l : OpenLoan) (t : Track S) → x ≡ Back n count → over c ≡ false → find_loan n c.loans ≡ Some l → l.dropped ≡ None
      → find_track c n ≡ Some t → count ≡ slice m b t → back_core m b c n ≡ new → Happens m b c new x
  Vanishes : (n : Name) (l : OpenLoan) → x ≡ Gone n → find_loan n c.loans ≡ Some l → gone_live c n l.dropped ≡ new → Happens m b c new x
  Releases : (count : ℕ) → x ≡ Release count → 0 < count → count ≡ length (verified b c) → released_core b c ≡ new → Happens m b c new x
  Halts : (seat : ℕ) → x ≡ Halt seat → over c ≡ false → record c { halted = true } ≡ new → Happens m b c new x
  Does : (d : Due S E D) → due m b c ≡ Some d → is_entry_of c d x ≡ true → effect m b c d ≡ new → Happens m b c new x

module _ {S E D : Type 0} (m : Machine S E D) (b : Settings) where
  does-by : (c new : Core S E D) (x : Entry) (o : Option (Due S E D)) → due m b c ≡ o → due_done m b c x o ≡ Some new → Happens m b c new x
  does-by c new x None is h = absurd (cc)
  does-by c new x (Some d) is h = (let passed = some_if-some (is_entry_of c d x) (effect m b c d) new h in Does d is passed.passes passed.is)

  returns-by : (c new : Core S E D) (n : Name) (count : ℕ) (l : Option OpenLoan) (t : Option (Track S)) → find_loan n c.loans ≡ l → find_track c n ≡ t
      → back_of m b c n count l t ≡ Some new → Happens m b c new (Back n count)
  returns-by c new n count None t loan found h = absurd (cc)
  returns-by c new n count (Some l) None loan found h = absurd (cc)
  returns-by c new n count (Some l) (Some t) loan found h =
      let passed = some_if-some (is_none l.dropped && (not (over c) && nat_eq count (slice m b t))) (back_core m b c n) new h in
      let first = and_parts (is_none l.dropped) (not (over c) && nat_eq count (slice m b t)) passed.passes in
      let second = and_parts (not (over c)) (nat_eq count (slice m b t)) first.1 in
      Returns n count l t refl (not-true (over c) second.0) loan (is_none-none l.dropped first.0) found (eqb-true count (slice m b t) second.1) passed.is

  vanishes-by : (c new : Core S E D) (n : Name) (l : Option OpenLoan) → find_loan n c.loans ≡ l → gone_of c n l ≡ Some new → Happens m b c new (Gone n)
  vanishes-by c new n None loan h = absurd (cc)
  vanishes-by c new n (Some l) loan h = Vanishes n l refl loan (cc)

  pub event-happens : (c new : Core S E D) (x : Entry) → event m b c x ≡ Some new → Happens m b c new x
  unfolding event
  event-happens c new (Lend seat n) h =
      let passed = some_if-some (lendable m b c n) (lent_core c seat n) new h in
      let can = lendable-true m b c n passed.passes in
      Lends seat n can.track refl can.is passed.is
  event-happens c new (Back n count) h = returns-by c new n count (find_loan n c.loans) (find_track c n) refl refl h
  event-happens c new (Gone n) h = vanishes-by c new n (find_loan n c.loans) refl h
  event-happens c new (Fork n) h = does-by c new (Fork n) (due m b c) refl h
  event-happens c new (Cross n) h = does-by c new (Cross n) (due m b c) refl h
  event-happens c new (Keep row) h = does-by c new (Keep row) (due m b c) refl h
  event-happens c new (Discard row) h = does-by c new (Discard row) (due m b c) refl h
  event-happens c new (Release count) h =
      let passed = some_if-some (nat_lt 0 count && nat_eq count (length (verified b c))) (released_core b c) new h in
      let both = and_parts (nat_lt 0 count) (nat_eq count (length (verified b c))) passed.passes in
      Releases count refl (ltb-true 0 count both.0) (eqb-true count (length (verified b c)) both.1) passed.is
  event-happens c new Finish h = does-by c new Finish (due m b c) refl h
  event-happens c new (Halt seat) h =
      let passed = some_if-some (not (over c)) (record c { halted = true }) new h in
      Halts seat refl (not-true (over c) passed.passes) passed.is
