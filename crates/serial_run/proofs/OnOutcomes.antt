-- What the sinks got, and what came of a board, when its rounds are over.
use Rattle.std.proofs.Common.{◌≡◌, ◌≢◌, ℕ, ◌+◌, ◌<◌, ◌⊎◌, inl, inr, true, if◌then◌else◌, Bool, false, ◌||◌, is_some, List, [], ◌∷◌, ◌++◌, length, Option, Some, None, refl, sym, ap, ◌∙◌, subst, append_assoc, append-nil, arith}
use Rattle.speculation.specs.declared.history.Entry.TheVariants as E
use Rattle.speculation.specs.Run.{Mark}
use Rattle.speculation.specs.Record.{output_of}
use Rattle.speculation.specs.Core.{Finished as CoreFinished, opening, over}
use Rattle.speculation.specs.Events.{core_run}
use Rattle.speculation.specs.Law.{IsComplete}
use Rattle.speculation.specs.Serial.{serial}
use Rattle.guest_model.specs.declared.end.End.{End}
use Rattle.guest_model.specs.declared.end.End.TheVariants.{Exit, Trap, Spent}
use Rattle.speculation_law.proofs.Histories.{law-partial, law-complete}
use Rattle.speculation_law.proofs.SerialEnds.{ended-idle}
use Rattle.speculation_law.proofs.SerialSoFar.{serial_so_far-whole}
use Rattle.region_ledger.specs.Ledger.{core_end, core_finished}
use Rattle.region_ledger.specs.declared.finished.Finished.{Finished}
use Rattle.guest_streams.specs.GuestStreams.{Sinks, GetsAll, GetsPart, StopsShort, FailsAt, end_of}
use Rattle.guest_streams.specs.declared.fault.OutputFault.{OutputFault}
use Rattle.guest_streams.specs.declared.fault.OutputFault.TheVariants.{Write, NoMemory}
use Rattle.guest_streams.proofs.OnStreams.{GetsAll-nothing, GetsAll-more, StopsShort-amid, GetsPart-of}
use Rattle.track_board.specs.declared.outcome.Outcome.{Outcome}
use Rattle.track_board.specs.Value.{Posted, GuestCore, IsKnown, machine_of, start_state, core_of, posted}
use Rattle.track_board.specs.Settles.{Settles, due_of, verified_of, released_with, finish_of, IsOutcome}
use Rattle.track_board.proofs.Foundation.{core-legal}
use Rattle.track_board.proofs.Settling.{weight_of}
use Rattle.serial_run.specs.Conducting.{alone_of, IsSameRun, IsWhole, HasSerialHistory, Conducts}
use Rattle.serial_run.specs.Rounds.{TakesVerified, SettlesSome, CanLend, RunsSlice, SliceFails, IsUnderway, GoesBy, GoesOn, IsAtEnd, ReleaseFails, LosesSlice, NextFails, Breaks, IsRound, answer_to}
use Rattle.serial_run.specs.Failures.{ended, IsWritten, AfterWriteFault, AfterNoMemory, AfterFailure}
use Rattle.serial_run.proofs.Releases.{total-run}
use Rattle.serial_run.proofs.OnRounds.{exact-of, sound-of, Extends, extends-known, quietly, quiet-released, extends-none, settles-quiet, settles-by, release-follows, slice-follows, slice-next, solo-of, by-carries, by-extends, by-known, by-more, at-end, can-lend, TakenRounds, taken-rounds, slice-quiet}

-- ---- one run

pub extends-same : (v w : Posted) → Extends v w → IsSameRun v w
extends-same v w h = record { settings = ap (λ (x : Posted). x.settings) h.now; loaded = ap (λ (x : Posted). x.loaded) h.now; input = ap (λ (x : Posted). x.input) h.now }

same-run : (u v w : Posted) → IsSameRun u v → IsSameRun v w → IsSameRun u w
same-run u v w a b = record { settings = b.settings ∙ a.settings; loaded = b.loaded ∙ a.loaded; input = b.input ∙ a.input }

same-alone : (v w : Posted) → IsSameRun v w → alone_of w ≡ alone_of v
same-alone v w h = λ i. alone_of (record { settings = h.settings i; loaded = h.loaded i; input = h.input i; entries = v.entries })

same-output : (v w : Posted) → IsSameRun v w → output_of (alone_of w) ≡ output_of (alone_of v)
same-output v w h = λ i. output_of (same-alone v w h i)

-- ---- where the rounds begin

opening-core : (v : Posted) → v.entries ≡ [] → core_of v ≡ opening (start_state v)
unfolding core_run
opening-core v h = core-legal v (opening (start_state v)) (ap (core_run (machine_of v) v.settings (Some (opening (start_state v)))) h)

pub underway-first : (v : Posted) → v.entries ≡ [] → IsUnderway v
unfolding serial
underway-first v h = record {
  so_far = (0, h);
  loans = ap (λ (c : GuestCore). c.loans) (opening-core v h);
  lost = ap (λ (c : GuestCore). c.lost) (opening-core v h);
  running = ap (λ (c : GuestCore). c.halted) (opening-core v h);
}

pub released-first : (v : Posted) → v.entries ≡ [] → (core_of v).released ≡ []
released-first v h = ap (λ (c : GuestCore). c.released) (opening-core v h)

-- ---- how they go on

pub on-first : (v : Posted) (s : Sinks) → IsUnderway v → GoesOn v v s s
on-first v s h = record { count = 0; by = refl; underway = h; bytes = []; released = sym (append-nil (core_of v).released); written = GetsAll-nothing s }

pub on-more : (u v w : Posted) (s t x : Sinks) → GoesOn u v s t → GoesOn v w t x → GoesOn u w s x
on-more u v w s t x a b = record {
  count = a.count + b.count;
  by = by-more a.count b.count u v w a.by b.by;
  underway = b.underway;
  bytes = a.bytes ++ b.bytes;
  released = b.released ∙ ap (λ (ms : List Mark). ms ++ b.bytes) a.released ∙ append_assoc (core_of u).released a.bytes b.bytes;
  written = GetsAll-more s t x a.bytes b.bytes a.written b.written;
}

-- the verified bytes were taken, and the sinks got them
abbrev pub on-taken : (v w : Posted) (s t : Sinks) (bytes : List Mark) → TakenRounds v w bytes → GetsAll s t bytes → GoesOn v w s t
on-taken v w s t bytes h written = record { count = h.count; by = h.by; underway = h.carries.underway; bytes = bytes; released = h.released; written = written }

-- some due events are done
pub on-settled : (n : ℕ) (v w : Posted) (s : Sinks) → Settles n v w → IsKnown w → IsUnderway v → GoesOn v w s s
on-settled n v w s h known underway =
    let quiet = settles-quiet n v w h in
    let by = settles-by n v w h in
    record {
      count = n;
      by = by;
      underway = (by-carries n v w by (extends-known v w (quietly v w quiet) known) underway).underway;
      bytes = [];
      released = quiet-released v w quiet known ∙ sym (append-nil (core_of v).released);
      written = GetsAll-nothing s;
    }

-- ---- how they break off

-- rounds, and then what comes next fails
pub on-breaks : (u v w : Posted) (s t x : Sinks) (fault : OutputFault) → GoesOn u v s t → Breaks v w t x fault → Breaks u w s x fault
on-breaks u v w s t x fault on h = record { before = h.before; between = h.between; on = on-more u v h.before s t h.between on h.on; fails = h.fails }

-- there was no memory for a step that leaves the board as it is
on-refused : (v w : Posted) (s t : Sinks) → GoesOn v w s t → Breaks v w s t NoMemory
on-refused v w s t on = record { before = w; between = t; on = on; fails = (inl refl, refl) }

memory-extends : (v w : Posted) → (w ≡ v) ⊎ LosesSlice v w → Extends v w
memory-extends v w (inl h) = quietly v w (extends-none v w h)
memory-extends v w (inr h) = record { more = E.Lend 0 h.gives_up.name ∷ (E.Gone h.gives_up.name ∷ []); now = h.gives_up.now }

next-extends : (fault : OutputFault) (v w : Posted) (s t : Sinks) → NextFails fault v w s t → Extends v w
next-extends Write v w s t h = record { more = E.Release (length (verified_of v)) ∷ []; now = h.now }
next-extends NoMemory v w s t h = memory-extends v w h.0

-- ---- a board that is halted then

halted-same : (v w : Posted) (t : Bool) → w ≡ (if t then v else posted v (E.Halt 0)) → IsSameRun v w
halted-same v w true h = record { settings = ap (λ (x : Posted). x.settings) h; loaded = ap (λ (x : Posted). x.loaded) h; input = ap (λ (x : Posted). x.input) h }
halted-same v w false h = record { settings = ap (λ (x : Posted). x.settings) h; loaded = ap (λ (x : Posted). x.loaded) h; input = ap (λ (x : Posted). x.input) h }

-- a board that nobody has halted is over where it has a finish
unhalted : (finished halted : Bool) → halted ≡ false → (finished || halted) ≡ finished
unhalted true halted h = refl
unhalted false halted h = h

-- from the board u the sinks were s; the board v, and the sinks t, came of it; then w was made of v
module _ (u v w : Posted) (s t : Sinks) (fresh : u.entries ≡ []) (known : IsKnown v) (halted : w ≡ (if over (core_of v) then v else posted v (E.Halt 0))) where
  -- nothing follows but the end
  halted-ended : (core_of v).halted ≡ false → w ≡ ended v
  halted-ended running = halted ∙ ap (λ b. if b then v else posted v (E.Halt 0)) (unhalted (is_some (core_of v).finish) (core_of v).halted running)

  -- nothing at all
  halted-over : over (core_of v) ≡ true → w ≡ v
  halted-over is_over = halted ∙ ap (λ b. if b then v else posted v (E.Halt 0)) is_over

  module _ (before : Posted) (between : Sinks) (on : GoesOn u before s between) (from : Extends before v) where
    before-known : IsKnown before
    before-known = extends-known before v from known

    before-written : IsWritten before s between
    before-written =
        let all : on.bytes ≡ (core_of before).released = sym (on.released ∙ ap (λ (ms : List Mark). ms ++ on.bytes) (released-first u fresh)) in
        record { so_far = on.underway.so_far; written = subst (GetsAll s between) all on.written }

    before-same : IsSameRun before w
    before-same = same-run before v w (extends-same before v from) (halted-same v w (over (core_of v)) halted)

    -- the program's output is what was released, what is verified, and a rest
    output-parts : (rest : List Mark) × ((core_of before).released ++ (verified_of before ++ rest) ≡ output_of (alone_of w))
    output-parts =
        let shown = (law-partial (machine_of before) before.settings (start_state before) before.entries (core_of before) (exact-of before) before-known.legal).output in
        (shown.0, sym (append_assoc (core_of before).released (verified_of before) shown.0) ∙ shown.1 ∙ sym (same-output before w before-same))

    write-conducts : StopsShort between t (verified_of before) → StopsShort s t (output_of (alone_of w))
    write-conducts h =
        subst (StopsShort s t) output-parts.1 (StopsShort-amid s between t (core_of before).released (verified_of before) output-parts.0 before-written.written h)

    memory-conducts : t ≡ between → GetsPart s t (output_of (alone_of w))
    memory-conducts same =
        subst (λ (x : Sinks). GetsPart s x (output_of (alone_of w))) (sym same)
        (subst (GetsPart s between) output-parts.1 (GetsPart-of s between (core_of before).released (verified_of before ++ output-parts.0) before-written.written))

    write-after : ReleaseFails before v between t → AfterWriteFault w s t
    write-after h =
        let by : GoesBy 1 before v = (before, refl, record { entries = E.Release (length (verified_of before)) ∷ []; next = h.next; now = h.now }) in
        record {
          before = before;
          between = between;
          written = before-written;
          last = v;
          unwritten = h;
          now = halted-ended (by-carries 1 before v by before-known on.underway).underway.running;
        }

    memory-ended : (v ≡ before) ⊎ LosesSlice before v → (w ≡ ended before) ⊎ LosesSlice before w
    memory-ended (inl h) = inl (halted-ended (ap (λ (x : Posted). (core_of x).halted) h ∙ on.underway.running) ∙ ap ended h)
    memory-ended (inr h) = inr (subst (LosesSlice before) (sym (halted-over h.gives_up.over)) h)

    memory-after : (v ≡ before) ⊎ LosesSlice before v → t ≡ between → AfterNoMemory w s t
    memory-after h same = record { before = before; written = subst (IsWritten before s) (sym same) before-written; now = memory-ended h }

  module _ (fault : OutputFault) (h : Breaks u v s t fault) where
    pub failed-same : IsSameRun u w
    failed-same =
        same-run u h.before w (extends-same u h.before (by-extends h.on.count u h.before h.on.by))
        (before-same h.before h.between h.on (next-extends fault h.before v h.between t h.fails))

  -- the whole output of the program breaks off
  pub failed-conducts : (fault : OutputFault) → Breaks u v s t fault → Conducts HasSerialHistory w s t (answer_to fault)
  failed-conducts Write h = write-conducts h.before h.between h.on (next-extends Write h.before v h.between t h.fails) h.fails.short
  failed-conducts NoMemory h = memory-conducts h.before h.between h.on (next-extends NoMemory h.before v h.between t h.fails) h.fails.1

  -- and nothing follows what failed
  pub failed-after : (fault : OutputFault) → Breaks u v s t fault → AfterFailure w s t (answer_to fault)
  failed-after Write h = write-after h.before h.between h.on (next-extends Write h.before v h.between t h.fails) h.fails
  failed-after NoMemory h = memory-after h.before h.between h.on (next-extends NoMemory h.before v h.between t h.fails) h.fails.0 h.fails.1

-- ---- a board at its end

pub end_of-core_end : (e : End) → end_of (core_end e) ≡ e
end_of-core_end (Exit code) = refl
end_of-core_end (Trap trap pc) = refl
end_of-core_end Spent = refl

-- the finish of an outcome
pub record Found (o : Option Finished) (f : CoreFinished End) : Type 0 where
  pub finished : Finished
  pub is : o ≡ Some finished
  pub same : core_finished finished ≡ f

pub found-by : (o : Option Finished) (f : CoreFinished End) → finish_of o ≡ Some f → Found o f
found-by (Some x) f h = record { finished = x; is = refl; same = cc }
found-by None f h = absurd (cc)

module _ (u w : Posted) (s t : Sinks) (o : Outcome) (fresh : u.entries ≡ []) (on : GoesOn u w s t) (last : IsAtEnd w) (outcome : IsOutcome w o) (known : IsKnown w) where
  -- all of the program's output was released
  released-whole : (f : CoreFinished End) → IsComplete (machine_of w) w.settings (start_state w) (core_of w) f → verified_of w ≡ [] → (core_of w).released ≡ output_of (alone_of w)
  released-whole f complete none =
      sym (append-nil (core_of w).released) ∙ ap (λ (ms : List Mark). (core_of w).released ++ ms) (sym none) ∙ complete.output

  pub on-whole : (IsWhole w o × HasSerialHistory w) × GetsAll s t (output_of (alone_of w))
  on-whole =
      let ended = ended-idle (machine_of w) w.settings (start_state w) (core_of w) (sound-of w known) (solo-of w on.underway) known.limits.some last.idle in
      let complete = law-complete (machine_of w) w.settings (start_state w) w.entries (core_of w) ended.finished (exact-of w) known.legal ended.finish in
      let found = found-by o.finished ended.finished (outcome.finish ∙ ended.finish) in
      let whole = released-whole ended.finished complete ended.released in
      let total = total-run (machine_of w) w.settings w.entries (opening (start_state w)) (core_of w) known.legal in
      let bytes : on.bytes ≡ (core_of w).released = sym (on.released ∙ ap (λ (ms : List Mark). ms ++ on.bytes) (released-first u fresh)) in (
        (
          record {
            outcome = outcome;
            finished = found.finished;
            finish = found.is;
            end = sym (end_of-core_end found.finished.end) ∙ ap (λ (f : CoreFinished End). end_of f.end) found.same ∙ ap end_of complete.end;
            count = ap (λ (f : CoreFinished End). f.count) found.same ∙ complete.count;
            rows = outcome.rows ∙ complete.rows;
            total = (let same = ap (length {A = Mark}) whole in omega arith);
            released = ended.released;
          },
          serial_so_far-whole (machine_of w) w.settings (start_state w) (exact-of w) w.entries (core_of w) on.underway.so_far known.legal last.idle,
        ),
        subst (GetsAll s t) (bytes ∙ whole) on.written,
      )

-- ---- one round

fails-nowhere : (s t : Sinks) → FailsAt s t [] → ⊥
fails-nowhere s t (inl h) = h.2
fails-nowhere s t (inr h) = h.2

-- sinks stop short only of some bytes
short-some : (s t : Sinks) (got rest : List Mark) → got ++ rest ≡ [] → FailsAt s t rest → ⊥
short-some s t [] rest parts h = fails-nowhere s t (subst (FailsAt s t) parts h)
short-some s t (m ∷ ms) rest parts h = absurd (cc)

-- a sink failed at the verified bytes
taken-unwritten : (v u w : Posted) (s t : Sinks) (n : ℕ) (bytes : List Mark) → Settles n v u → due_of u ≡ None → bytes ≡ verified_of u → w ≡ released_with u bytes → IsKnown w → IsUnderway v → StopsShort s t bytes → Breaks v w s t Write
taken-unwritten v u w s t n [] settles undue is now known underway h = absurd (short-some s t h.got h.rest h.parts h.fails)
taken-unwritten v u w s t n (m ∷ ms) settles undue is now known underway h =
    let before : IsKnown u = extends-known u w (record { more = E.Release (length (m ∷ ms)) ∷ []; now = now }) known in
    record {
      before = u;
      between = s;
      on = on-settled n v u s settles before underway;
      fails = record {
        next = release-follows u m ms undue is;
        now = now ∙ ap (λ (xs : List Mark). posted u (E.Release (length xs))) is;
        short = subst (StopsShort s t) is h;
      };
    }

module _ (v w : Posted) (bytes : List Mark) (taken : TakesVerified v w bytes) (known : IsKnown w) (underway : IsUnderway v) where
  rounds : TakenRounds v w bytes
  rounds = taken-rounds v w bytes taken known underway

  module _ (s t : Sinks) where
    -- a sink failed
    pub round-unwritten : StopsShort s t bytes → Breaks v w s t Write
    round-unwritten h = taken-unwritten v taken.settled w s t taken.events bytes taken.settles taken.undue taken.verified taken.now known underway h

    -- the board is over then
    pub round-last : GetsAll s t bytes → over (core_of w) ≡ true → GoesOn v w s t × IsAtEnd w
    round-last h is_over = (on-taken v w s t bytes rounds h, at-end w is_over rounds.none)

    -- something was released
    pub round-released : GetsAll s t bytes → bytes ≢ [] → (on : GoesOn v w s t) × (0 < on.count)
    round-released h some = (on-taken v w s t bytes rounds h, rounds.some some)

  module _ (nothing : bytes ≡ []) where
    -- nothing was, and the board is not over
    pub round-can_lend : over (core_of w) ≡ false → CanLend w
    round-can_lend live = can-lend w known rounds.carries.underway (rounds.undue nothing) rounds.none live

    module _ (x : Posted) (s t : Sinks) (written : GetsAll s t bytes) where
      pub round-slice : RunsSlice w x → (on : GoesOn v x s t) × (0 < on.count)
      round-slice h =
          let next : GoesBy 1 w x = (w, refl, slice-next w x (rounds.undue nothing) rounds.none h) in
          let after = by-carries 1 w x next known rounds.carries.underway in (
            record {
              count = rounds.count + 1;
              by = by-more rounds.count 1 v w x rounds.by next;
              underway = after.underway;
              bytes = bytes;
              released = quiet-released w x (slice-quiet w x h) after.known ∙ rounds.released;
              written = written;
            },
            omega arith,
          )

      fails-next : SliceFails w x → (x ≡ w) ⊎ LosesSlice w x
      fails-next (inl h) = inl h
      fails-next (inr h) = inr (record { gives_up = h; next = slice-follows w h.name (rounds.undue nothing) rounds.none h.oldest })

      pub round-fails : SliceFails w x → Breaks v x s t NoMemory
      round-fails h = record { before = w; between = t; on = on-taken v w s t bytes rounds written; fails = (fails-next h, refl) }

-- there was no memory for what is due, or for the verified bytes
pub round-untaken : (v w : Posted) (s : Sinks) → SettlesSome v w → IsKnown w → IsUnderway v → Breaks v w s s NoMemory
round-untaken v w s h known underway = on-refused v w s s (on-settled h.0 v w s h.1 known underway)

-- ---- all rounds

module _ (u v w : Posted) (s t x : Sinks) (on : GoesOn u v s t) (more : Bool) (round : IsRound v w t x more) (known : IsKnown w) where
  further : (b : Bool) → more ≡ b → IsRound v w t x b
  further b is = subst (IsRound v w t x) is round

  -- another round follows
  pub rounds-fall : more ≡ true → weight_of w < weight_of v
  rounds-fall is =
      let next = further true is in
      let carried = by-carries next.0.count v w next.0.by (by-known next.0.count v w next.0.by known) on.underway in
      let falls = carried.falls in
      let some = next.1 in
      omega arith

  pub rounds-on : more ≡ true → GoesOn u w s x
  rounds-on is = on-more u v w s t x on (further true is).0

  -- it was the last one
  pub rounds-end : more ≡ false → GoesOn u w s x × IsAtEnd w
  rounds-end is = (on-more u v w s t x on (further false is).0, (further false is).1)

  pub rounds-refused : more ≡ false → Breaks u w s x NoMemory
  rounds-refused is = on-refused u w s x (rounds-end is).0
