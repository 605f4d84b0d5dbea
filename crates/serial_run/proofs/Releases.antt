-- What the entries of a legal history release.
use Rattle.std.proofs.Common.{◌≡◌, ℕ, ◌+◌, ◌-◌, Bool, true, false, List, [], ◌∷◌, ◌++◌, length, Option, Some, None, length-append, refl, sym, ap, ◌∙◌, subst, arith}
use Rattle.speculation.specs.declared.tracks.Name.{Name}
use Rattle.speculation.specs.declared.history.Settings.{Settings}
use Rattle.speculation.specs.declared.history.Entry.{Entry}
use Rattle.speculation.specs.declared.history.Entry.TheVariants.{Lend, Back, Gone, Release, Halt}
use Rattle.speculation.specs.Machine.{Machine}
use Rattle.speculation.specs.Run.{Mark}
use Rattle.speculation.specs.Core.{Core, front_home, verified}
use Rattle.speculation.specs.Due.{Due, Finishing, Crossing, Judging, Forking}
use Rattle.speculation.specs.Events.{gone_live, released_by, released_core, is_entry_of, event, core_run}
use Rattle.speculation_law.proofs.Happens.{Happens, Lends, Returns, Vanishes, Releases, Halts, Does, event-happens}
use Rattle.speculation_law.proofs.Prefixes.{released-due}
use Rattle.serial_run.specs.Conducting.{released_total}
use Rattle.serial_run.specs.Quiet.{IsQuiet, AreQuiet}

pub quiet-append : (xs ys : List Entry) → AreQuiet xs → AreQuiet ys → AreQuiet (xs ++ ys)
quiet-append [] ys h k = k
quiet-append (x ∷ xs) ys h k = (h.0, quiet-append xs ys h.1 k)

total-quiet : (x : Entry) → IsQuiet x → released_total (x ∷ []) ≡ 0
total-quiet (Release count) h = absurd h
total-quiet x h = refl

total-cons : (x : Entry) (xs : List Entry) → released_total (x ∷ xs) ≡ released_total (x ∷ []) + released_total xs
total-cons (Release count) xs = omega arith
total-cons x xs = omega arith

module _ {S E D : Type 0} (m : Machine S E D) (b : Settings) where
  -- an entry releases nothing, or the verified bytes
  pub data Released (c new : Core S E D) (x : Entry) : Type 0 where
    Nothing : IsQuiet x → new.released ≡ c.released → Released c new x
    Verified : x ≡ Release (length (verified b c)) → released_core b c ≡ new → Released c new x

  due-quiet : (c : Core S E D) (d : Due S E D) (x : Entry) → is_entry_of c d x ≡ true → IsQuiet x
  due-quiet c (Finishing f) (Release count) h = absurd (cc)
  due-quiet c Crossing (Release count) h = absurd (cc)
  due-quiet c (Judging v) (Release count) h = absurd (cc)
  due-quiet c Forking (Release count) h = absurd (cc)
  due-quiet c d x h = tt

  quiet-is : (x y : Entry) → x ≡ y → IsQuiet y → IsQuiet x
  quiet-is x y e h = subst IsQuiet (sym e) h

  released-gone : (c : Core S E D) (n : Name) (o : Option ℕ) → (gone_live c n o).released ≡ c.released
  released-gone c n (Some row) = refl
  released-gone c n None = refl

  released-happens : (c new : Core S E D) (x : Entry) → Happens m b c new x → Released c new x
  released-happens c new x (Lends seat n t entry can is) = Nothing (quiet-is x (Lend seat n) entry tt) (sym (ap (λ (k : Core S E D). k.released) is))
  released-happens c new x (Returns n count l t entry live loan undropped found counted is) = Nothing (quiet-is x (Back n count) entry tt) (sym (ap (λ (k : Core S E D). k.released) is))
  released-happens c new x (Vanishes n l entry loan is) = Nothing (quiet-is x (Gone n) entry tt) (sym (ap (λ (k : Core S E D). k.released) is) ∙ released-gone c n l.dropped)
  released-happens c new x (Releases count entry some counted is) = Verified (entry ∙ ap Release counted) is
  released-happens c new x (Halts seat entry live is) = Nothing (quiet-is x (Halt seat) entry tt) (sym (ap (λ (k : Core S E D). k.released) is))
  released-happens c new x (Does d due_is entry is) = Nothing (due-quiet c d x entry) (sym (ap (λ (k : Core S E D). k.released) is) ∙ released-due m b c d)

  pub released-event : (c new : Core S E D) (x : Entry) → event m b c x ≡ Some new → Released c new x
  released-event c new x h = released-happens c new x (event-happens m b c new x h)

  released-home : (home : Bool) (limit : ℕ) (c : Core S E D) (bytes : List Mark) → (released_by home limit c bytes).released ≡ c.released ++ bytes
  released-home true limit c bytes = refl
  released-home false limit c bytes = refl

  pub released_core-released : (c : Core S E D) → (released_core b c).released ≡ c.released ++ verified b c
  released_core-released c = released-home (front_home c) (b.budget - c.base) c (verified b c)

  -- a release, and what it leads to
  pub release-core : (c new : Core S E D) (count : ℕ) → event m b c (Release count) ≡ Some new → released_core b c ≡ new
  release-core c new count h = elim (released-event c new (Release count) h) [ Nothing quiet same ↦ absurd quiet | Verified entry is ↦ is ]

  total-entry : (c new : Core S E D) (x : Entry) → Released c new x → length new.released ≡ length c.released + released_total (x ∷ [])
  total-entry c new x (Nothing quiet same) = (let none = total-quiet x quiet in let len = ap (length {A = Mark}) same in omega arith)
  total-entry c new x (Verified entry is) =
      let one : released_total (x ∷ []) ≡ length (verified b c) + 0 = ap (λ y. released_total (y ∷ [])) entry in
      let len : length new.released ≡ length (c.released ++ verified b c) = ap (λ (k : Core S E D). length k.released) (sym is) ∙ ap (length {A = Mark}) (released_core-released c) in
      let both = length-append c.released (verified b c) in omega arith

  quiet-entry : (c new : Core S E D) (x : Entry) → IsQuiet x → Released c new x → new.released ≡ c.released
  quiet-entry c new x h (Nothing quiet same) = same
  quiet-entry c new x h (Verified entry is) = absurd (subst IsQuiet entry h)

  some-run : (o : Option (Core S E D)) (xs : List Entry) (new : Core S E D) → core_run m b o xs ≡ Some new → (mid : Core S E D) × (o ≡ Some mid)
  unfolding core_run
  some-run (Some mid) xs new h = (mid, refl)
  some-run None [] new h = absurd (cc)
  some-run None (x ∷ xs) new h = absurd (cc)

  -- entries that release nothing leave the released bytes as they are
  pub quiet-run : (xs : List Entry) (c new : Core S E D) → AreQuiet xs → core_run m b (Some c) xs ≡ Some new → new.released ≡ c.released
  unfolding core_run
  quiet-run [] c new quiet h = ap (λ (k : Core S E D). k.released) (let same : new ≡ c = cc in same)
  quiet-run (x ∷ xs) c new quiet h =
      let mid = some-run (event m b c x) xs new h in
      quiet-run xs mid.0 new quiet.1 (ap (λ o. core_run m b o xs) (sym mid.1) ∙ h) ∙ quiet-entry c mid.0 x quiet.0 (released-event c mid.0 x mid.1)

  -- the counts of releases add up
  pub total-run : (xs : List Entry) (c new : Core S E D) → core_run m b (Some c) xs ≡ Some new → length new.released ≡ length c.released + released_total xs
  unfolding core_run
  total-run [] c new h = (let same : length new.released ≡ length c.released = ap (λ (k : Core S E D). length k.released) (let same : new ≡ c = cc in same) in omega arith)
  total-run (x ∷ xs) c new h =
      let mid = some-run (event m b c x) xs new h in
      let rest = total-run xs mid.0 new (ap (λ o. core_run m b o xs) (sym mid.1) ∙ h) in
      let here = total-entry c mid.0 x (released-event c mid.0 x mid.1) in
      let whole = total-cons x xs in omega arith
