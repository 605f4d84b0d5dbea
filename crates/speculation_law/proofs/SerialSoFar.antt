-- The serial history grows by what comes next, and there is only one.
use Rattle.std.proofs.Common.{◌≡◌, ℕ, zero, suc, List, [], ◌++◌, Option, Some, None, refl, sym, ap, ◌∙◌, append_assoc, append-nil}
use Rattle.speculation.specs.declared.history.Settings.{Settings}
use Rattle.speculation.specs.declared.history.Entry.{Entry}
use Rattle.speculation.specs.Machine.{Machine}
use Rattle.speculation.specs.Core.{Core, opening}
use Rattle.speculation.specs.Events.{core_run}
use Rattle.speculation.specs.Law.{Exact, IsHistory}
use Rattle.speculation.specs.Serial.{serial_next, serial, IsSerial}
use Rattle.speculation_law.specs.Naming.{Sound}
use Rattle.speculation_law.specs.Serial.{IsSerialSoFar}
use Rattle.speculation_law.proofs.Soundness.{sound-opening, sound-on}
use Rattle.speculation_law.proofs.SerialSteps.{serial_next-allowed, serial-none, serial-some, serial-rest, serial-still}

module _ {S E D : Type 0} (m : Machine S E D) (b : Settings) (start : S) (exact : Exact m start) where
  serial-nil : (c : Core S E D) → serial m b 0 c ≡ []
  unfolding serial
  serial-nil c = refl

  -- One round more

  one-round : (c : Core S E D) (xs : List Entry) → Sound m b start c → serial_next m b c ≡ Some xs → serial m b 1 c ≡ xs
  one-round c xs sound next =
      let here = serial_next-allowed m b c xs sound.named next in
      serial-some m b 0 c here.new xs next here.leads ∙ ap (λ ys. xs ++ ys) (serial-nil here.new) ∙ append-nil xs

  rounds-by : (k : ℕ) (c d : Core S E D) (xs : List Entry) (o : Option (List Entry)) → serial_next m b c ≡ o → Sound m b start c
      → core_run m b (Some c) (serial m b (suc k) c) ≡ Some d → serial_next m b d ≡ Some xs
      → ((e : Core S E D) → Sound m b start e → core_run m b (Some e) (serial m b k e) ≡ Some d → serial m b (suc k) e ≡ serial m b k e ++ xs)
      → serial m b (suc (suc k)) c ≡ serial m b (suc k) c ++ xs
  rounds-by k c d xs None is sound led next rest =
      let same = serial-still m b (suc k) c d (serial-none m b (suc k) c is) led in
      absurd (let none : serial_next m b d ≡ None = ap (serial_next m b) (sym same) ∙ is in cc)
  rounds-by k c d xs (Some ys) is sound led next rest =
      let here = serial_next-allowed m b c ys sound.named is in
      let on = serial-rest m b start k c here.new d ys is here.leads led in
      serial-some m b (suc k) c here.new ys is here.leads
      ∙ ap (λ zs. ys ++ zs) (rest here.new (sound-on m b start ys c here.new exact sound here.leads) on)
      ∙ sym (append_assoc ys (serial m b k here.new) xs)
      ∙ ap (λ zs. zs ++ xs) (sym (serial-some m b k c here.new ys is here.leads))

  serial-more : (k : ℕ) (c d : Core S E D) (xs : List Entry) → Sound m b start c → core_run m b (Some c) (serial m b k c) ≡ Some d → serial_next m b d ≡ Some xs
      → serial m b (suc k) c ≡ serial m b k c ++ xs
  serial-more zero c d xs sound led next =
      let same = serial-still m b 0 c d (serial-nil c) led in
      one-round c xs sound (ap (serial_next m b) same ∙ next) ∙ sym (ap (λ ys. ys ++ xs) (serial-nil c))
  serial-more (suc k) c d xs sound led next =
      rounds-by k c d xs (serial_next m b c) refl sound led next (λ e sound2 led2. serial-more k e d xs sound2 led2 next)

  -- entries that are serial so far stay so with what comes next
  pub serial_so_far-next : (entries xs : List Entry) (d : Core S E D) → IsSerialSoFar m b start entries → IsHistory m b start entries d → serial_next m b d ≡ Some xs
      → IsSerialSoFar m b start (entries ++ xs)
  serial_so_far-next entries xs d h history next =
      let led : core_run m b (Some (opening start)) (serial m b h.0 (opening start)) ≡ Some d = sym (ap (core_run m b (Some (opening start))) h.1) ∙ history in
      (suc h.0, ap (λ ys. ys ++ xs) h.1 ∙ sym (serial-more h.0 (opening start) d xs (sound-opening m b start) led next))

  -- and are the serial history where nothing comes next
  pub serial_so_far-whole : (entries : List Entry) (d : Core S E D) → IsSerialSoFar m b start entries → IsHistory m b start entries d → serial_next m b d ≡ None → IsSerial m b start entries
  serial_so_far-whole entries d h history next = record { core = d; legal = history; rounds = h.0; are_rounds = h.1; nothing_next = next }

  -- Only one

  alike-by : (j k : ℕ) (c d e : Core S E D) (o : Option (List Entry)) → serial_next m b c ≡ o → Sound m b start c
      → core_run m b (Some c) (serial m b (suc j) c) ≡ Some d → core_run m b (Some c) (serial m b (suc k) c) ≡ Some e
      → ((mid : Core S E D) → Sound m b start mid → core_run m b (Some mid) (serial m b j mid) ≡ Some d → core_run m b (Some mid) (serial m b k mid) ≡ Some e → serial m b j mid ≡ serial m b k mid)
      → serial m b (suc j) c ≡ serial m b (suc k) c
  alike-by j k c d e None is sound led led2 rest = serial-none m b (suc j) c is ∙ sym (serial-none m b (suc k) c is)
  alike-by j k c d e (Some xs) is sound led led2 rest =
      let here = serial_next-allowed m b c xs sound.named is in
      let same = rest here.new (sound-on m b start xs c here.new exact sound here.leads)
      (serial-rest m b start j c here.new d xs is here.leads led) (serial-rest m b start k c here.new e xs is here.leads led2) in
      serial-some m b j c here.new xs is here.leads ∙ ap (λ ys. xs ++ ys) same ∙ sym (serial-some m b k c here.new xs is here.leads)

  -- rounds that lead to a core after which nothing comes are the same entries
  serial-alike : (j k : ℕ) (c d e : Core S E D) → Sound m b start c → core_run m b (Some c) (serial m b j c) ≡ Some d → serial_next m b d ≡ None
      → core_run m b (Some c) (serial m b k c) ≡ Some e → serial_next m b e ≡ None → serial m b j c ≡ serial m b k c
  serial-alike zero k c d e sound led over led2 over2 =
      let same = serial-still m b 0 c d (serial-nil c) led in
      serial-nil c ∙ sym (serial-none m b k c (ap (serial_next m b) same ∙ over))
  serial-alike (suc j) zero c d e sound led over led2 over2 =
      let same = serial-still m b 0 c e (serial-nil c) led2 in
      serial-none m b (suc j) c (ap (serial_next m b) same ∙ over2) ∙ sym (serial-nil c)
  serial-alike (suc j) (suc k) c d e sound led over led2 over2 =
      alike-by j k c d e (serial_next m b c) refl sound led led2 (λ mid sound2 at at2. serial-alike j k mid d e sound2 at over at2 over2)

  led-rounds : (entries : List Entry) (h : IsSerial m b start entries) → core_run m b (Some (opening start)) (serial m b h.rounds (opening start)) ≡ Some h.core
  led-rounds entries h = sym (ap (core_run m b (Some (opening start))) h.are_rounds) ∙ h.legal

  -- there is only one serial history
  pub serial-only : (entries others : List Entry) → IsSerial m b start entries → IsSerial m b start others → entries ≡ others
  serial-only entries others h k =
      h.are_rounds
      ∙ serial-alike h.rounds k.rounds (opening start) h.core k.core (sound-opening m b start) (led-rounds entries h) h.nothing_next (led-rounds others k) k.nothing_next
      ∙ sym k.are_rounds
