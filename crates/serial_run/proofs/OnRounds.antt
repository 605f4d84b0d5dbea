-- The rounds of a conductor: each step of them goes on with the serial history.
use Rattle.std.proofs.Common.{◌≡◌, ◌≢◌, ℕ, zero, suc, ◌+◌, ◌-◌, ◌<◌, ◌≤◌, Bool, true, false, not, ◌&&◌, ◌||◌, if◌then◌else◌, List, [], ◌∷◌, ◌++◌, length, Option, Some, None, is_some, Result, Ok, Err, nat_lt, refl, sym, ap, ◌∙◌, subst, append_assoc, append-nil, add-zero, add-suc, lt-ltb, arith}
use Rattle.std.specs.Prelude.{MatchResult}
use Rattle.speculation.specs.declared.tracks.Name.{Name}
use Rattle.speculation.specs.declared.history.Settings.{Settings}
use Rattle.speculation.specs.declared.history.Entry.{Entry}
use Rattle.speculation.specs.declared.history.Entry.TheVariants as E
use Rattle.speculation.specs.Machine.{Machine}
use Rattle.speculation.specs.Run.{Mark}
use Rattle.speculation.specs.Core.{Core, Region, opening, over, lead_name, normal_name, find_track, front, front_home, verified}
use Rattle.speculation.specs.Due.{Due, Finishing, Crossing, Judging, Forking, finish_test, cross_test, verdict_due, fork_test, choose, due}
use Rattle.speculation.specs.Events.{is_ready, lendable, released_by, released_core, event, core_run}
use Rattle.speculation.specs.Law.{Exact}
use Rattle.speculation.specs.Serial.{row_entry, entry_of, serial_by, serial_next, first_lendable}
use Rattle.speculation.specs.Verdicts.{is_kept}
use Rattle.guest_model.specs.MachineState.{MachineState}
use Rattle.guest_model.specs.declared.difference.Difference.{Difference}
use Rattle.guest_model.specs.declared.end.End.{End}
use Rattle.rv32_law.proofs.Differences.{exact-rv32}
use Rattle.rv32_law.proofs.Starts.{start-is-guest}
use Rattle.speculation_law.specs.Naming.{Sound}
use Rattle.speculation_law.proofs.Soundness.{sound-history, core_run-append}
use Rattle.speculation_law.proofs.Prefixes.{run-parted}
use Rattle.speculation_law.proofs.SerialSteps.{serial_next-round}
use Rattle.speculation_law.proofs.SerialRounds.{Solo, solo-front, verified-released}
use Rattle.speculation_law.proofs.SerialEnds.{SomeStep, step-round, ended-idle}
use Rattle.speculation_law.proofs.SerialSoFar.{serial_so_far-next}
use Rattle.speculation_law.proofs.Weights.{weigh, digits_of}
use Rattle.track_board.specs.Value.{Posted, GuestCore, IsKnown, machine_of, start_state, run_of, core_of, posted}
use Rattle.track_board.specs.Loans.{oldest_lendable}
use Rattle.track_board.specs.Settles.{Acted, Settles, due_of, verified_of, released_with}
use Rattle.track_board.specs.Others.{extended}
use Rattle.track_board.proofs.Foundation.{core-legal, legal-known}
use Rattle.track_board.proofs.Settling.{weight_of}
use Rattle.serial_run.specs.Rounds.{TakesVerified, SettlesSome, CanLend, slice_entries, RunsSlice, IsUnderway, IsNext, GoesBy, IsAtEnd}
use Rattle.serial_run.specs.Quiet.{IsQuiet, AreQuiet}
use Rattle.serial_run.proofs.Releases.{quiet-append, quiet-run, release-core, released_core-released}

-- ---- what is known of every board

pub exact-of : (v : Posted) → Exact (machine_of v) (start_state v)
exact-of v = exact-rv32 v.input (start_state v) (start-is-guest v.input v.loaded.entry v.loaded.areas v.loaded.heap v.loaded.layout)

pub sound-of : (v : Posted) → IsKnown v → Sound (machine_of v) v.settings (start_state v) (core_of v)
sound-of v h = sound-history (machine_of v) v.settings (start_state v) v.entries (core_of v) (exact-of v) h.legal

-- ---- more entries

-- the core after more entries that are allowed
run-more : (v : Posted) (xs : List Entry) (new : GuestCore) → IsKnown v → core_run (machine_of v) v.settings (Some (core_of v)) xs ≡ Some new → run_of (extended v xs) ≡ Some new
run-more v xs new h leads =
    core_run-append (machine_of v) v.settings (start_state v) v.entries xs (Some (opening (start_state v)))
    ∙ ap (λ (o : Option GuestCore). core_run (machine_of v) v.settings o xs) h.legal ∙ leads

-- entries of a board that is known lead from core to core
run-between : (v : Posted) (xs : List Entry) → IsKnown v → IsKnown (extended v xs) → core_run (machine_of v) v.settings (Some (core_of v)) xs ≡ Some (core_of (extended v xs))
run-between v xs h after =
    ap (λ (o : Option GuestCore). core_run (machine_of v) v.settings o xs) (sym h.legal)
    ∙ sym (core_run-append (machine_of v) v.settings (start_state v) v.entries xs (Some (opening (start_state v))))
    ∙ after.legal

-- the board before them is known too
known-before : (v : Posted) (xs : List Entry) → IsKnown (extended v xs) → IsKnown v
known-before v xs h =
    let parts = run-parted (machine_of v) v.settings (start_state v) (Some (opening (start_state v))) v.entries xs (core_of (extended v xs)) h.legal in
    legal-known v parts.middle h.limits parts.first

-- a board with more entries
pub record Extends (v w : Posted) : Type 0 where
  pub more : List Entry
  pub now : w ≡ extended v more

pub extends-known : (v w : Posted) → Extends v w → IsKnown w → IsKnown v
extends-known v w h known = known-before v h.more (subst IsKnown h.now known)

-- with more entries that release nothing
pub record ExtendsQuietly (v w : Posted) : Type 0 where
  pub more : List Entry
  pub quiet : AreQuiet more
  pub now : w ≡ extended v more

pub quietly : (v w : Posted) → ExtendsQuietly v w → Extends v w
quietly v w h = record { more = h.more; now = h.now }

pub quiet-released : (v w : Posted) → ExtendsQuietly v w → IsKnown w → (core_of w).released ≡ (core_of v).released
quiet-released v w h known =
    let after : IsKnown (extended v h.more) = subst IsKnown h.now known in
    ap (λ (x : Posted). (core_of x).released) h.now
    ∙ quiet-run (machine_of v) v.settings h.more (core_of v) (core_of (extended v h.more)) h.quiet (run-between v h.more (known-before v h.more after) after)

extended-none : (v : Posted) → v ≡ extended v []
extended-none v = ap (λ (xs : List Entry). record v { entries = xs }) (sym (append-nil v.entries))

pub extends-none : (v w : Posted) → w ≡ v → ExtendsQuietly v w
extends-none v w h = record { more = []; quiet = tt; now = h ∙ extended-none v }

pub extended-twice : (v u w : Posted) (xs ys : List Entry) → u ≡ extended v xs → w ≡ extended u ys → w ≡ extended v (xs ++ ys)
extended-twice v u w xs ys a b = b ∙ ap (λ (x : Posted). extended x ys) a ∙ ap (λ (zs : List Entry). record v { entries = zs }) (append_assoc v.entries xs ys)

pub extends-more : (v u w : Posted) → Extends v u → Extends u w → Extends v w
extends-more v u w a b = record { more = a.more ++ b.more; now = extended-twice v u w a.more b.more a.now b.now }

extends-quietly : (v u w : Posted) → ExtendsQuietly v u → ExtendsQuietly u w → ExtendsQuietly v w
extends-quietly v u w a b = record { more = a.more ++ b.more; quiet = quiet-append a.more b.more a.quiet b.quiet; now = extended-twice v u w a.more b.more a.now b.now }

-- ---- due events

row-quiet : (kept : Bool) (row : ℕ) → IsQuiet (row_entry kept row)
row-quiet true row = tt
row-quiet false row = tt

due-quiet : (c : GuestCore) (d : Due MachineState End Difference) → IsQuiet (entry_of c d)
due-quiet c (Finishing f) = tt
due-quiet c Crossing = tt
due-quiet c (Judging v) = row-quiet (is_kept v.judged.verdict) (length c.rows)
due-quiet c Forking = tt

acted-quiet : (v w : Posted) → Acted v w → ExtendsQuietly v w
acted-quiet v w h = record { more = entry_of (core_of v) h.event ∷ []; quiet = (due-quiet (core_of v) h.event, tt); now = h.now }

pub settles-quiet : (n : ℕ) (v w : Posted) → Settles n v w → ExtendsQuietly v w
settles-quiet zero v w h = extends-none v w h
settles-quiet (suc n) v w h = extends-quietly v h.0 w (settles-quiet n v h.0 h.1) (acted-quiet h.0 w h.2)

-- ---- what comes next

-- by what is due, whether bytes are verified, and what is lendable
next-is : (v : Posted) (d : Option (Due MachineState End Difference)) (some : Bool) (o : Option Name) → due_of v ≡ d → nat_lt 0 (length (verified_of v)) ≡ some → oldest_lendable v ≡ o
    → serial_next (machine_of v) v.settings (core_of v) ≡ serial_by (machine_of v) v.settings (core_of v) d some o
next-is v d some o is_due shown oldest = λ i. serial_by (machine_of v) v.settings (core_of v) (is_due i) (shown i) (oldest i)

acted-next : (v w : Posted) → Acted v w → IsNext v w
acted-next v w h = record {
  entries = entry_of (core_of v) h.event ∷ [];
  next = next-is v (Some h.event) (nat_lt 0 (length (verified_of v))) (oldest_lendable v) h.was refl refl;
  now = h.now;
}

pub settles-by : (n : ℕ) (v w : Posted) → Settles n v w → GoesBy n v w
settles-by zero v w h = h
settles-by (suc n) v w h = (h.0, settles-by n v h.0 h.1, acted-next h.0 w h.2)

none-shown : (v : Posted) → verified_of v ≡ [] → nat_lt 0 (length (verified_of v)) ≡ false
none-shown v h = ap (λ (ms : List Mark). nat_lt 0 (length ms)) h

some-shown : (v : Posted) (m : Mark) (ms : List Mark) → m ∷ ms ≡ verified_of v → nat_lt 0 (length (verified_of v)) ≡ true
some-shown v m ms h = ap (λ (xs : List Mark). nat_lt 0 (length xs)) (sym h) ∙ lt-ltb 0 (length (m ∷ ms)) (omega arith)

pub release-follows : (v : Posted) (m : Mark) (ms : List Mark) → due_of v ≡ None → m ∷ ms ≡ verified_of v
    → serial_next (machine_of v) v.settings (core_of v) ≡ Some (E.Release (length (verified_of v)) ∷ [])
release-follows v m ms undue is = next-is v None true (oldest_lendable v) undue (some-shown v m ms is) refl

release-next : (v : Posted) (m : Mark) (ms : List Mark) → due_of v ≡ None → m ∷ ms ≡ verified_of v → IsNext v (released_with v (m ∷ ms))
release-next v m ms undue is = record {
  entries = E.Release (length (m ∷ ms)) ∷ [];
  next = release-follows v m ms undue is ∙ ap (λ (xs : List Mark). Some (E.Release (length xs) ∷ [])) (sym is);
  now = refl;
}

pub slice-follows : (v : Posted) (n : Name) → due_of v ≡ None → verified_of v ≡ [] → oldest_lendable v ≡ Some n
    → serial_next (machine_of v) v.settings (core_of v) ≡ Some (slice_entries v n)
slice-follows v n undue none oldest = next-is v None false (Some n) undue (none-shown v none) oldest

pub slice-next : (v w : Posted) → due_of v ≡ None → verified_of v ≡ [] → RunsSlice v w → IsNext v w
slice-next v w undue none h = record {
  entries = slice_entries v h.name;
  next = slice-follows v h.name undue none h.oldest;
  now = h.now;
}

-- ---- a round of the serial history

pub solo-of : (v : Posted) → IsUnderway v → Solo (core_of v)
solo-of v h = record { loans = h.loans; lost = h.lost; running = h.running }

-- what so many rounds keep, and their measure
pub record Carries (count : ℕ) (v w : Posted) : Type 0 where
  pub known : IsKnown w
  pub underway : IsUnderway w
  pub falls : weight_of w + count ≤ weight_of v
  pub extends : Extends v w

module _ (v : Posted) (known : IsKnown v) (underway : IsUnderway v) where
  next-step : (xs : List Entry) → serial_next (machine_of v) v.settings (core_of v) ≡ Some xs → SomeStep (machine_of v) v.settings (start_state v) (core_of v) xs
  next-step xs next =
      let sound = sound-of v known in
      step-round (machine_of v) v.settings (start_state v) (core_of v) xs (exact-of v) sound (solo-of v underway) (serial_next-round (machine_of v) v.settings (core_of v) xs sound.named next)

  next-extends : (xs : List Entry) → serial_next (machine_of v) v.settings (core_of v) ≡ Some xs → Carries 1 v (extended v xs)
  next-extends xs next =
      let step = next-step xs next in
      let legal : run_of (extended v xs) ≡ Some step.new = run-more v xs step.new known step.step.leads in
      let core : core_of (extended v xs) ≡ step.new = core-legal (extended v xs) step.new legal in
      record {
        known = legal-known (extended v xs) step.new known.limits legal;
        underway = record {
          so_far = serial_so_far-next (machine_of v) v.settings (start_state v) (exact-of v) v.entries xs (core_of v) underway.so_far known.legal next;
          loans = ap (λ (c : GuestCore). c.loans) core ∙ step.step.solo.loans;
          lost = ap (λ (c : GuestCore). c.lost) core ∙ step.step.solo.lost;
          running = ap (λ (c : GuestCore). c.halted) core ∙ step.step.solo.running;
        };
        falls =
            (let less = step.step.falls in
            let same : weight_of (extended v xs) ≡ weigh v.settings (digits_of v.settings step.new) = ap (λ (c : GuestCore). weigh v.settings (digits_of v.settings c)) core in
            omega arith);
        extends = record { more = xs; now = refl };
      }

  next-carries : (w : Posted) → IsNext v w → Carries 1 v w
  next-carries w h = subst (λ (x : Posted). Carries 1 v x) (sym h.now) (next-extends h.entries h.next)

  none-carries : (w : Posted) → w ≡ v → Carries 0 v w
  none-carries w h = subst (λ (x : Posted). Carries 0 v x) (sym h) (record { known = known; underway = underway; falls = omega arith; extends = quietly v v (extends-none v v refl) })

pub carries-more : (m n : ℕ) (v u w : Posted) → Carries m v u → Carries n u w → Carries (m + n) v w
carries-more m n v u w a b = record {
  known = b.known;
  underway = b.underway;
  falls = (let first = a.falls in let second = b.falls in omega arith);
  extends = extends-more v u w a.extends b.extends;
}

pub by-carries : (n : ℕ) (v w : Posted) → GoesBy n v w → IsKnown v → IsUnderway v → Carries n v w
by-carries zero v w h known underway = none-carries v known underway w h
by-carries (suc n) v w h known underway =
    let before = by-carries n v h.0 h.1 known underway in
    let after = next-carries h.0 before.known before.underway w h.2 in
    subst (λ k. Carries k v w) (let same : n + 1 ≡ suc n = omega arith in same) (carries-more n 1 v h.0 w before after)

pub by-extends : (n : ℕ) (v w : Posted) → GoesBy n v w → Extends v w
by-extends zero v w h = quietly v w (extends-none v w h)
by-extends (suc n) v w h = extends-more v h.0 w (by-extends n v h.0 h.1) (record { more = h.2.entries; now = h.2.now })

-- the board before so many rounds is known
pub by-known : (n : ℕ) (v w : Posted) → GoesBy n v w → IsKnown w → IsKnown v
by-known n v w h known = extends-known v w (by-extends n v w h) known

pub by-more : (m n : ℕ) (v u w : Posted) → GoesBy m v u → GoesBy n u w → GoesBy (m + n) v w
by-more m zero v u w a b = subst (λ k. GoesBy k v w) (sym (add-zero m)) (subst (λ (x : Posted). GoesBy m v x) (sym b) a)
by-more m (suc n) v u w a b = subst (λ k. GoesBy k v w) (sym (add-suc m n)) (b.0, by-more m n v u b.0 a b.1, b.2)

-- ---- where nothing comes next

module _ {S E D : Type 0} (m : Machine S E D) (b : Settings) (c : Core S E D) (is_over : over c ≡ true) where
  due-over : due m b c ≡ None
  unfolding due
  due-over = ap (λ t. choose t (finish_test m b c.base (front_home c) (front c)) (cross_test m c) (verdict_due m c c.regions) (fork_test m b c)) is_over

  unlendable-over : (n : Name) → lendable m b c n ≡ false
  unlendable-over n = ap (λ t. not t && is_ready m b c n (find_track c n)) is_over

  first_lendable-over : (rs : List (Region S)) → first_lendable m b c rs ≡ None
  first_lendable-over [] = ap (λ t. if t then Some (lead_name c) else None) (unlendable-over (lead_name c))
  first_lendable-over (r ∷ rs) = ap (λ t. if t then Some (normal_name c r) else first_lendable m b c rs) (unlendable-over (normal_name c r)) ∙ first_lendable-over rs

-- a board that is over with nothing to release is at its end
pub at-end : (v : Posted) → over (core_of v) ≡ true → verified_of v ≡ [] → IsAtEnd v
at-end v is_over none = record {
  over = is_over;
  idle = next-is v None false None (due-over (machine_of v) v.settings (core_of v) is_over) (none-shown v none) (first_lendable-over (machine_of v) v.settings (core_of v) is_over (core_of v).regions);
}

can-lend_by : (v : Posted) (o : Option Name) → oldest_lendable v ≡ o → IsKnown v → IsUnderway v → due_of v ≡ None → verified_of v ≡ [] → over (core_of v) ≡ false → CanLend v
can-lend_by v (Some n) oldest known underway undue none live = (n, oldest)
can-lend_by v None oldest known underway undue none live =
    let idle = next-is v None false None undue (none-shown v none) oldest in
    let ended = ended-idle (machine_of v) v.settings (start_state v) (core_of v) (sound-of v known) (solo-of v underway) known.limits.some idle in
    let is_over : over (core_of v) ≡ true = ap (λ o. is_some o || (core_of v).halted) ended.finish in
    absurd (cc)

-- a board that is not over, with nothing due and nothing to release, can lend
pub can-lend : (v : Posted) → IsKnown v → IsUnderway v → due_of v ≡ None → verified_of v ≡ [] → over (core_of v) ≡ false → CanLend v
can-lend v = can-lend_by v (oldest_lendable v) refl

-- ---- taking the verified bytes

-- what it comes to
pub record TakenRounds (v w : Posted) (bytes : List Mark) : Type 0 where
  pub count : ℕ
  pub by : GoesBy count v w
  pub carries : Carries count v w
  pub some : bytes ≢ [] → 0 < count
  pub released : (core_of w).released ≡ (core_of v).released ++ bytes
  pub none : verified_of w ≡ []
  pub undue : bytes ≡ [] → due_of w ≡ None

pub released-extends : (v : Posted) (bytes : List Mark) → Extends v (released_with v bytes)
released-extends v [] = quietly v v (extends-none v v refl)
released-extends v (m ∷ ms) = record { more = E.Release (length (m ∷ ms)) ∷ []; now = refl }

one-event : (v : Posted) (x : Entry) → IsKnown v → IsKnown (posted v x) → event (machine_of v) v.settings (core_of v) x ≡ Some (core_of (posted v x))
unfolding core_run
one-event v x known after = run-between v (x ∷ []) known after

module _ (v : Posted) (m : Mark) (ms : List Mark) (is : m ∷ ms ≡ verified_of v) (known : IsKnown v) (after : IsKnown (released_with v (m ∷ ms))) where
  pub release-is : released_core v.settings (core_of v) ≡ core_of (released_with v (m ∷ ms))
  release-is = release-core (machine_of v) v.settings (core_of v) (core_of (released_with v (m ∷ ms))) (length (m ∷ ms)) (one-event v (E.Release (length (m ∷ ms))) known after)

  pub release-released : (core_of (released_with v (m ∷ ms))).released ≡ (core_of v).released ++ (m ∷ ms)
  release-released =
      ap (λ (c : GuestCore). c.released) (sym release-is) ∙ released_core-released (machine_of v) v.settings (core_of v)
      ∙ ap (λ (xs : List Mark). (core_of v).released ++ xs) (sym is)

  release-none : IsUnderway v → verified_of (released_with v (m ∷ ms)) ≡ []
  release-none underway =
      ap (λ (c : GuestCore). verified v.settings c) (sym release-is)
      ∙ ap (λ t. verified v.settings (released_by t (v.settings.budget - (core_of v).base) (core_of v) (verified_of v))) (solo-front (core_of v) (solo-of v underway))
      ∙ verified-released (machine_of v) v.settings (core_of v) (verified_of v)

taken-by : (v u : Posted) (n : ℕ) (bytes : List Mark) → Settles n v u → due_of u ≡ None → bytes ≡ verified_of u → IsKnown (released_with u bytes) → IsUnderway v → TakenRounds v (released_with u bytes) bytes
taken-by v u n [] settles undue is after underway =
    let quiet = settles-quiet n v u settles in
    let by = settles-by n v u settles in
    record {
      count = n;
      by = by;
      carries = by-carries n v u by (extends-known v u (quietly v u quiet) after) underway;
      some = λ h. absurd (h refl);
      released = quiet-released v u quiet after ∙ sym (append-nil (core_of v).released);
      none = sym is;
      undue = λ h. undue;
    }
taken-by v u n (m ∷ ms) settles undue is after underway =
    let quiet = settles-quiet n v u settles in
    let known : IsKnown u = extends-known u (released_with u (m ∷ ms)) (released-extends u (m ∷ ms)) after in
    let by : GoesBy (suc n) v (released_with u (m ∷ ms)) = (u, settles-by n v u settles, release-next u m ms undue is) in
    let before = extends-known v u (quietly v u quiet) known in
    let there = by-carries n v u (settles-by n v u settles) before underway in
    record {
      count = suc n;
      by = by;
      carries = by-carries (suc n) v (released_with u (m ∷ ms)) by before underway;
      some = λ h. omega arith;
      released = release-released u m ms is known after ∙ ap (λ (xs : List Mark). xs ++ (m ∷ ms)) (quiet-released v u quiet known);
      none = release-none u m ms is known after there.underway;
      undue = λ h. absurd (cc);
    }

pub taken-rounds : (v w : Posted) (bytes : List Mark) → TakesVerified v w bytes → IsKnown w → IsUnderway v → TakenRounds v w bytes
taken-rounds v w bytes h known underway =
    subst (λ (x : Posted). TakenRounds v x bytes) (sym h.now)
    (taken-by v h.settled h.events bytes h.settles h.undue h.verified (subst IsKnown h.now known) underway)

-- by what a release answered after the due events
pub taken-is : {F : Type 0} (v u w : Posted) (n : ℕ) (r : Result (List Mark) F) → Settles n v u → due_of u ≡ None → MatchResult r (λ bytes. (bytes ≡ verified_of u) × (w ≡ released_with u bytes)) (λ _. w ≡ u)
    → MatchResult r (TakesVerified v w) (λ _. SettlesSome v w)
taken-is v u w n (Ok bytes) settles undue h = record { settled = u; events = n; settles = settles; undue = undue; verified = h.0; now = h.1 }
taken-is v u w n (Err fault) settles undue h = (n, subst (λ (x : Posted). Settles n v x) (sym h) settles)

-- ---- slices

pub slice-quiet : (v w : Posted) → RunsSlice v w → ExtendsQuietly v w
slice-quiet v w h = record { more = slice_entries v h.name; quiet = (tt, (tt, tt)); now = h.now }
