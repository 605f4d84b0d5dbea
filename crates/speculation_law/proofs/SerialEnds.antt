-- There is a serial history, and its core has a finish with nothing left to release.
use Rattle.std.proofs.Common.{◌≡◌, ℕ, zero, suc, ◌-◌, ◌<◌, ◌≤◌, Bool, true, false, ◌||◌, List, [], ◌∷◌, ◌++◌, Option, Some, None, length, is_some, nat_lt, refl, sym, ap, ◌∙◌, subst, ltb-false, arith}
use Rattle.speculation.specs.declared.tracks.Name.{Name}
use Rattle.speculation.specs.declared.history.Settings.{Settings}
use Rattle.speculation.specs.declared.history.Entry.{Entry}
use Rattle.speculation.specs.Machine.{Machine}
use Rattle.speculation.specs.Run.{Mark}
use Rattle.speculation.specs.Core.{Core, Finished, opening, front_home, verified}
use Rattle.speculation.specs.Due.{Due, due}
use Rattle.speculation.specs.Effects.{effect}
use Rattle.speculation.specs.Events.{released_core, core_run}
use Rattle.speculation.specs.Law.{Exact}
use Rattle.speculation.specs.Serial.{first_lendable, serial_by, serial_next, serial, IsSerial}
use Rattle.speculation_law.specs.Naming.{Sound}
use Rattle.speculation_law.specs.Serial.{HasFinished}
use Rattle.speculation_law.proofs.Happens.{lent_core, back_core}
use Rattle.speculation_law.proofs.Soundness.{sound-opening, sound-on, core_run-append}
use Rattle.speculation_law.proofs.SerialSteps.{Round, DueRound, ReleaseRound, LendRound, serial_next-round, serial-some, run-none}
use Rattle.speculation_law.proofs.SerialSoFar.{serial-only}
use Rattle.speculation_law.proofs.Weights.{weigh, digits_of}
use Rattle.speculation_law.proofs.SerialRounds.{Solo, solo-due, solo-released_by, solo-back, falls-due, falls-released, falls-lent}
use Rattle.speculation_law.proofs.Progress.{progress}

-- what it says that nothing comes next
record Idle {S E D : Type 0} (d : Option (Due S E D)) (some : Bool) (n : Option Name) : Type 0 where
  undue : d ≡ None
  unshown : some ≡ false
  unlendable : n ≡ None

module _ {S E D : Type 0} (m : Machine S E D) (b : Settings) where
  idle-by : (c : Core S E D) (d : Option (Due S E D)) (some : Bool) (n : Option Name) → serial_by m b c d some n ≡ None → Idle d some n
  idle-by c (Some d) some n h = absurd (cc)
  idle-by c None true n h = absurd (cc)
  idle-by c None false (Some n) h = absurd (cc)
  idle-by c None false None h = record { undue = refl; unshown = refl; unlendable = refl }

  finish-by : (o : Option (Finished E)) (halted : Bool) → halted ≡ false → (is_some o || halted) ≡ true → (f : Finished E) × (o ≡ Some f)
  finish-by (Some f) halted h k = (f, refl)
  finish-by None true h k = absurd (cc)
  finish-by None false h k = absurd (cc)

  none-left : (ms : List Mark) → length ms ≤ 0 → ms ≡ []
  none-left [] h = refl
  none-left (x ∷ ms) h = absurd (omega arith)

  -- a solo core that is sound and after which nothing comes has a finish, and nothing is left to release
  pub ended-idle : (start : S) (c : Core S E D) → Sound m b start c → Solo c → 0 < b.tracks → serial_next m b c ≡ None → HasFinished b c
  ended-idle start c sound solo some h =
      let idle = idle-by c (due m b c) (nat_lt 0 (length (verified b c))) (first_lendable m b c c.regions) h in
      let none = ltb-false 0 (length (verified b c)) idle.unshown in
      let is_over = progress m b start c sound.good solo some idle.undue none idle.unlendable in
      let finish = finish-by c.finish c.halted solo.running is_over in
      record { finished = finish.0; finish = finish.1; released = none-left (verified b c) none }

  -- a round of a solo core
  pub record Stepped (start : S) (c new : Core S E D) (xs : List Entry) : Type 0 where
    pub leads : core_run m b (Some c) xs ≡ Some new
    pub solo : Solo new
    pub falls : weigh b (digits_of b new) < weigh b (digits_of b c)

  pub record SomeStep (start : S) (c : Core S E D) (xs : List Entry) : Type 0 where
    pub new : Core S E D
    pub step : Stepped start c new xs

  pub step-round : (start : S) (c : Core S E D) (xs : List Entry) → Exact m start → Sound m b start c → Solo c → Round m b c xs → SomeStep start c xs
  step-round start c xs exact sound solo (DueRound d is leads) =
      let after = sound-on m b start xs c (effect m b c d) exact sound leads in
      record { new = effect m b c d; step = record { leads = leads; solo = solo-due m b c d solo; falls = falls-due m b start c d sound.good sound.bounded is after.bounded } }
  step-round start c xs exact sound solo (ReleaseRound shown leads) =
      let after = sound-on m b start xs c (released_core b c) exact sound leads in
      record { new = released_core b c; step = record { leads = leads; solo = solo-released_by m b c (front_home c) (b.budget - c.base) (verified b c) solo; falls = falls-released m b c solo shown after.bounded } }
  step-round start c xs exact sound solo (LendRound n t can leads) =
      let new : Core S E D = back_core m b (lent_core c 0 n) n in
      let after = sound-on m b start xs c new exact sound leads in
      record { new = new; step = record { leads = leads; solo = solo-back m b c n solo; falls = falls-lent m b c n t can sound.bounded after.bounded } }

  -- so many rounds lead from c to a core with which the serial history ends
  pub record Finishes (start : S) (c : Core S E D) : Type 0 where
    pub rounds : ℕ
    pub last : Core S E D
    pub leads : core_run m b (Some c) (serial m b rounds c) ≡ Some last
    pub idle : serial_next m b last ≡ None
    pub sound : Sound m b start last
    pub solo : Solo last

  finishes-now : (start : S) (c : Core S E D) → Sound m b start c → Solo c → serial_next m b c ≡ None → Finishes start c
  unfolding serial
  finishes-now start c sound solo h = record { rounds = 0; last = c; leads = run-none m b c; idle = h; sound = sound; solo = solo }

  finishes-later : (start : S) (c : Core S E D) (xs : List Entry) → serial_next m b c ≡ Some xs → (step : SomeStep start c xs) → Finishes start step.new → Finishes start c
  finishes-later start c xs is step rest = record {
    rounds = suc rest.rounds;
    last = rest.last;
    idle = rest.idle;
    sound = rest.sound;
    solo = rest.solo;
    leads = ap (core_run m b (Some c)) (serial-some m b rest.rounds c step.new xs is step.step.leads)
        ∙ core_run-append m b start xs (serial m b rest.rounds step.new) (Some c)
        ∙ ap (λ o. core_run m b o (serial m b rest.rounds step.new)) step.step.leads ∙ rest.leads;
  }

  module _ (start : S) (exact : Exact m start) where
    finishes-by : (c : Core S E D) (o : Option (List Entry)) → serial_next m b c ≡ o → Sound m b start c → Solo c
        → ((k : Core S E D) → weigh b (digits_of b k) < weigh b (digits_of b c) → Sound m b start k → Solo k → Finishes start k) → Finishes start c
    finishes-by c None is sound solo rest = finishes-now start c sound solo is
    finishes-by c (Some xs) is sound solo rest =
        let some = step-round start c xs exact sound solo (serial_next-round m b c xs sound.named is) in
        finishes-later start c xs is some (rest some.new some.step.falls (sound-on m b start xs c some.new exact sound some.step.leads) some.step.solo)

    -- the measure is enough rounds
    finishes-within : (fuel : ℕ) (c : Core S E D) → weigh b (digits_of b c) ≤ fuel → Sound m b start c → Solo c → Finishes start c
    finishes-within zero c h sound solo = finishes-by c (serial_next m b c) refl sound solo (λ k less sound2 solo2. absurd (omega arith))
    finishes-within (suc fuel) c h sound solo = finishes-by c (serial_next m b c) refl sound solo (λ k less sound2 solo2. finishes-within fuel k (omega arith) sound2 solo2)

    -- the serial history ends
    pub serial-finishes : Finishes start (opening start)
    serial-finishes =
        let c : Core S E D = opening start in
        let all : weigh b (digits_of b c) ≤ weigh b (digits_of b c) = omega arith in
        finishes-within (weigh b (digits_of b c)) c all (sound-opening m b start) (record { loans = refl; lost = refl; running = refl })

    -- there is one
    pub serial-exists : (entries : List Entry) × IsSerial m b start entries
    serial-exists = (
      serial m b serial-finishes.rounds (opening start),
      record {
        core = serial-finishes.last;
        legal = serial-finishes.leads;
        rounds = serial-finishes.rounds;
        are_rounds = refl;
        nothing_next = serial-finishes.idle;
      },
    )

    -- and where at least one region may be open it has a finish, with nothing left to release
    pub serial-finished : (entries : List Entry) (h : IsSerial m b start entries) → 0 < b.tracks → HasFinished b h.core
    unfolding serial-exists
    serial-finished entries h some =
        let same : entries ≡ serial-exists.0 = serial-only m b start exact entries serial-exists.0 h serial-exists.1 in
        let core : serial-finishes.last ≡ h.core = (let at : Some serial-finishes.last ≡ Some h.core = sym serial-finishes.leads ∙ sym (ap (core_run m b (Some (opening start))) same) ∙ h.legal in cc) in
        subst (λ (c : Core S E D). HasFinished b c) core (ended-idle start serial-finishes.last serial-finishes.sound serial-finishes.solo some serial-finishes.idle)
