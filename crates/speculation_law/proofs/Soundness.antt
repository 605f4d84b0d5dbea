-- All that holds of the core of every legal history.
use Rattle.std.proofs.Common.{◌≡◌, List, [], ◌∷◌, ◌++◌, Option, Some, None, refl, sym, subst}
use Rattle.speculation.specs.declared.history.Settings.{Settings}
use Rattle.speculation.specs.declared.history.Entry.{Entry}
use Rattle.speculation.specs.Machine.{Machine}
use Rattle.speculation.specs.Core.{Core, opening}
use Rattle.speculation.specs.Events.{event, core_run}
use Rattle.speculation.specs.Law.{Exact, IsHistory}
use Rattle.speculation_law.specs.Naming.{Sound}
use Rattle.speculation_law.proofs.Happens.{event-happens}
use Rattle.speculation_law.proofs.Events.{good-event}
use Rattle.speculation_law.proofs.Histories.{good-opening}
use Rattle.speculation_law.proofs.Naming.{named-happens, named-opening}
use Rattle.speculation_law.proofs.Bounds.{bounded-happens, bounded-opening}

module _ {S E D : Type 0} (m : Machine S E D) (b : Settings) (start : S) where
  pub sound-opening : Sound m b start (opening start)
  sound-opening = record { good = good-opening m b start; named = named-opening m b start; bounded = bounded-opening m b start }

  pub sound-event : (c new : Core S E D) (x : Entry) → Exact m start → Sound m b start c → event m b c x ≡ Some new → Sound m b start new
  sound-event c new x exact h is = (let happens = event-happens m b c new x is in record {
    good = good-event m b start c new x exact h.good is;
    named = named-happens m b c new x h.named happens;
    bounded = bounded-happens m b start c new x h.good h.bounded happens;
  })

  pub sound-run : (xs : List Entry) (o : Option (Core S E D)) (new : Core S E D) → Exact m start → ((c : Core S E D) → o ≡ Some c → Sound m b start c) → core_run m b o xs ≡ Some new → Sound m b start new
  unfolding core_run
  sound-run [] o new exact h is = h new is
  sound-run (x ∷ xs) None new exact h is = absurd (cc)
  sound-run (x ∷ xs) (Some c) new exact h is = sound-run xs (event m b c x) new exact (λ k here. sound-event c k x exact (h c refl) here) is

  -- from a core of which it holds
  pub sound-on : (xs : List Entry) (c new : Core S E D) → Exact m start → Sound m b start c → core_run m b (Some c) xs ≡ Some new → Sound m b start new
  sound-on xs c new exact h is = sound-run xs (Some c) new exact (λ k here. (let same : c ≡ k = cc in subst (λ (x : Core S E D). Sound m b start x) same h)) is

  -- every legal history
  pub sound-history : (entries : List Entry) (c : Core S E D) → Exact m start → IsHistory m b start entries c → Sound m b start c
  sound-history entries c exact h = sound-on entries (opening start) c exact sound-opening h

  pub core_run-append : (xs ys : List Entry) (o : Option (Core S E D)) → core_run m b o (xs ++ ys) ≡ core_run m b (core_run m b o xs) ys
  unfolding core_run
  core_run-append [] ys o = refl
  core_run-append (x ∷ xs) ys None = sym (core_run-none ys)
    where
      core_run-none : (zs : List Entry) → core_run m b None zs ≡ None
      core_run-none [] = refl
      core_run-none (z ∷ zs) = refl
  core_run-append (x ∷ xs) ys (Some c) = core_run-append xs ys (event m b c x)
