-- What begins a legal history is legal, and only seat 0 releases.
use Rattle.std.proofs.Common.{◌≡◌, ◌≢◌, ℕ, List, [], ◌∷◌, ◌++◌, Option, Some, None, refl, sym, ap, ◌∙◌}
use Rattle.speculation.specs.declared.tracks.Name.{Name}
use Rattle.speculation.specs.declared.history.Settings.{Settings}
use Rattle.speculation.specs.declared.history.Entry.{Entry}
use Rattle.speculation.specs.declared.history.Entry.TheVariants.{Release}
use Rattle.speculation.specs.Machine.{Machine}
use Rattle.speculation.specs.Verdicts.{Verdict, Kept, Differs, Stopped, Late}
use Rattle.speculation.specs.Core.{Core}
use Rattle.speculation.specs.Due.{Judgement, Due, Finishing, Crossing, Judging, Forking}
use Rattle.speculation.specs.Effects.{judged_core, effect}
use Rattle.speculation.specs.Events.{gone_live, event, core_run}
use Rattle.speculation.specs.Loans.{owner_of, IsForeign}
use Rattle.speculation_law.proofs.Happens.{Happens, Lends, Returns, Vanishes, Releases, Halts, Does, event-happens}
use Rattle.speculation_law.proofs.Soundness.{core_run-append}

-- a history in two parts
pub record Parted {S E D : Type 0} (m : Machine S E D) (b : Settings) (o : Option (Core S E D)) (xs ys : List Entry) (c : Core S E D) : Type 0 where
  pub middle : Core S E D
  pub first : core_run m b o xs ≡ Some middle
  pub second : core_run m b (Some middle) ys ≡ Some c

module _ {S E D : Type 0} (m : Machine S E D) (b : Settings) where
  parted-by : (start : S) (o : Option (Core S E D)) (xs ys : List Entry) (c : Core S E D) (k : Option (Core S E D)) → core_run m b o xs ≡ k → core_run m b k ys ≡ Some c → Parted m b o xs ys c
  unfolding core_run
  parted-by start o xs [] c None is h = absurd (cc)
  parted-by start o xs (y ∷ ys) c None is h = absurd (cc)
  parted-by start o xs ys c (Some middle) is h = record { middle = middle; first = is; second = h }

  -- what begins a legal history is legal
  pub run-parted : (start : S) (o : Option (Core S E D)) (xs ys : List Entry) (c : Core S E D) → core_run m b o (xs ++ ys) ≡ Some c → Parted m b o xs ys c
  run-parted start o xs ys c h = parted-by start o xs ys c (core_run m b o xs) refl (sym (core_run-append m b start xs ys o) ∙ h)

  released-judged : (c : Core S E D) (v : Judgement S D) (w : Verdict D) → (judged_core m b c v w).released ≡ c.released
  released-judged c v Kept = refl
  released-judged c v (Differs d) = refl
  released-judged c v Stopped = refl
  released-judged c v Late = refl

  -- a due event releases nothing
  pub released-due : (c : Core S E D) (d : Due S E D) → (effect m b c d).released ≡ c.released
  released-due c (Finishing f) = refl
  released-due c Crossing = refl
  released-due c (Judging v) = released-judged c v v.judged.verdict
  released-due c Forking = refl

  released-gone : (c : Core S E D) (n : Name) (o : Option ℕ) → (gone_live c n o).released ≡ c.released
  released-gone c n (Some row) = refl
  released-gone c n None = refl

  -- nor does any entry but a release
  pub released-happens : (c new : Core S E D) (x : Entry) → ((count : ℕ) → x ≡ Release count → ⊥) → Happens m b c new x → new.released ≡ c.released
  released-happens c new x never (Lends seat n t entry can is) = sym (ap (λ (k : Core S E D). k.released) is)
  released-happens c new x never (Returns n count l t entry live loan undropped found counted is) = sym (ap (λ (k : Core S E D). k.released) is)
  released-happens c new x never (Vanishes n l entry loan is) = sym (ap (λ (k : Core S E D). k.released) is) ∙ released-gone c n l.dropped
  released-happens c new x never (Releases count entry some counted is) = absurd (never count entry)
  released-happens c new x never (Halts seat entry live is) = sym (ap (λ (k : Core S E D). k.released) is)
  released-happens c new x never (Does d due_is entry is) = sym (ap (λ (k : Core S E D). k.released) is) ∙ released-due c d

  foreign-quiet : (before : List Entry) (x : Entry) → owner_of before x ≢ Some 0 → (count : ℕ) → x ≡ Release count → ⊥
  foreign-quiet before x foreign count is = foreign (ap (owner_of before) is)

  released-by : (x : Entry) (xs : List Entry) (c new : Core S E D) (before : List Entry) (o : Option (Core S E D)) → event m b c x ≡ o → owner_of before x ≢ Some 0 → core_run m b o xs ≡ Some new
      → ((mid : Core S E D) → o ≡ Some mid → new.released ≡ mid.released) → new.released ≡ c.released
  unfolding core_run
  released-by x [] c new before None is foreign h rest = absurd (cc)
  released-by x (y ∷ ys) c new before None is foreign h rest = absurd (cc)
  released-by x xs c new before (Some mid) is foreign h rest = rest mid refl ∙ released-happens c mid x (foreign-quiet before x foreign) (event-happens m b c mid x is)

  -- entries that don't belong to seat 0 release nothing
  pub released-foreign : (rest : List Entry) (o : Option (Core S E D)) (c new : Core S E D) (before : List Entry) → o ≡ Some c → IsForeign 0 before rest → core_run m b o rest ≡ Some new → new.released ≡ c.released
  unfolding core_run
  released-foreign [] o c new before is foreign h = ap (λ (k : Core S E D). k.released) (let same : new ≡ c = cc in same)
  released-foreign (x ∷ xs) None c new before is foreign h = absurd (cc)
  released-foreign (x ∷ xs) (Some k) c new before is foreign h =
      let same : c ≡ k = cc in
      let here : event m b c x ≡ event m b k x = ap (λ (q : Core S E D). event m b q x) same in
      released-by x xs c new before (event m b k x) here foreign.0 h (λ mid at. released-foreign xs (event m b k x) mid new (before ++ (x ∷ [])) at foreign.1 h)
