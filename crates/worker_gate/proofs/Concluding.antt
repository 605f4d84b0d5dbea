-- What the sinks got of the program's output when a conductor is done, and the outcome.
use Rattle.std.proofs.Common.{◌≡◌, ℕ, ◌+◌, ◌≤◌, List, [], ◌∷◌, ◌++◌, length, is_some, true, Option, Some, None, refl, sym, ap, ◌∙◌, subst, append_assoc, append-nil, arith}
use Rattle.speculation.specs.declared.history.Entry.{Entry}
use Rattle.speculation.specs.Run.{Mark}
use Rattle.speculation.specs.Record.{output_of}
use Rattle.speculation.specs.Core.{opening}
use Rattle.speculation.specs.Law.{IsComplete}
use Rattle.speculation_law.proofs.Histories.{law-partial, law-complete}
use Rattle.region_ledger.specs.Ledger.{core_finished}
use Rattle.region_ledger.specs.declared.finished.Finished.{Finished}
use Rattle.guest_streams.specs.GuestStreams.{Sinks, GetsAll, GetsPart, StopsShort, end_of}
use Rattle.guest_streams.specs.declared.fault.OutputFault.{OutputFault}
use Rattle.guest_streams.specs.declared.fault.OutputFault.TheVariants as F
use Rattle.guest_streams.proofs.OnStreams.{GetsAll-nothing, GetsAll-more, StopsShort-amid, GetsPart-of}
use Rattle.track_board.specs.declared.outcome.Outcome.{Outcome}
use Rattle.track_board.specs.Value.{Posted, IsKnown, machine_of, start_state, core_of}
use Rattle.track_board.specs.Settles.{verified_of, finish_of}
use Rattle.serial_run.specs.declared.conducted.Conducted.{Conducted}
use Rattle.serial_run.specs.declared.conducted.Conducted.TheVariants as C
use Rattle.serial_run.specs.Conducting.{alone_of, IsWhole, Conducts}
use Rattle.serial_run.specs.Rounds.{answer_to}
use Rattle.serial_run.proofs.Releases.{total-run}
use Rattle.serial_run.proofs.OnRounds.{exact-of}
use Rattle.serial_run.proofs.OnOutcomes.{released-first, end_of-core_end}
use Rattle.worker_gate.specs.declared.kinds.Round.{Round}
use Rattle.worker_gate.specs.Seats.{BoardPass, seen_of}
use Rattle.worker_gate.specs.Rounds.{RoundIs}
use Rattle.worker_gate.specs.Conducting.{Hands, IsClosed, BreaksOff, Concludes}
use Rattle.worker_gate.specs.Histories.{SeatsBelow, HasWorkedHistory}
use Rattle.worker_gate.proofs.Leading.{round-released}
use Rattle.worker_gate.proofs.OnHistories.{seats-more}

-- ---- the sinks got what was released

-- before the first turn
pub led-first : (v : Posted) (s : Sinks) → v.entries ≡ [] → GetsAll s s (core_of v).released
led-first v s h = subst (GetsAll s s) (sym (released-first v h)) (GetsAll-nothing s)

-- bytes were handed out and written
pub led-more : (v w : Posted) (s t u : Sinks) (bytes : List Mark) → GetsAll s t (core_of v).released → Hands bytes v w → GetsAll t u bytes → GetsAll s u (core_of w).released
led-more v w s t u bytes so_far hands written = subst (GetsAll s u) (sym hands.released) (GetsAll-more s t u (core_of v).released bytes so_far written)

-- none were
pub led-same : (v w : Posted) (s t : Sinks) → GetsAll s t (core_of v).released → Hands [] v w → GetsAll s t (core_of w).released
led-same v w s t so_far hands = led-more v w s t t [] so_far hands (GetsAll-nothing t)

-- a sink failed at them
pub led-short : (v w : Posted) (s t u : Sinks) (bytes : List Mark) → GetsAll s t (core_of v).released → Hands bytes v w → StopsShort t u bytes → StopsShort s u (core_of w).released
led-short v w s t u bytes so_far hands short =
    subst (StopsShort s u) (ap (λ (ms : List Mark). (core_of v).released ++ ms) (append-nil bytes) ∙ sym hands.released) (StopsShort-amid s t u (core_of v).released bytes [] so_far short)

pub short-same : (v w : Posted) (s t : Sinks) → StopsShort s t (core_of v).released → Hands [] v w → StopsShort s t (core_of w).released
short-same v w s t short hands = subst (StopsShort s t) (sym (append-nil (core_of v).released) ∙ sym hands.released) short

-- a round of seat 0 releases nothing
pub round-led : (q r : BoardPass) (s t : Sinks) (x : Round) → q.seat ≡ 0 → RoundIs q.seat (seen_of q) (seen_of r) x → IsKnown (seen_of r) → GetsAll s t (core_of (seen_of q)).released → GetsAll s t (core_of (seen_of r)).released
round-led q r s t x zero h known so_far =
    subst (GetsAll s t) (sym (round-released (seen_of q) (seen_of r) x (subst (λ seat. RoundIs seat (seen_of q) (seen_of r) x) zero h) known)) so_far

-- ---- of the program's output

-- what was released, and a rest
output-parts : (w : Posted) → IsKnown w → (rest : List Mark) × ((core_of w).released ++ rest ≡ output_of (alone_of w))
output-parts w known =
    let shown = (law-partial (machine_of w) w.settings (start_state w) w.entries (core_of w) (exact-of w) known.legal).output in
    (verified_of w ++ shown.0, sym (append_assoc (core_of w).released (verified_of w) shown.0) ∙ shown.1)

pub output-short : (w : Posted) (s t : Sinks) → IsKnown w → StopsShort s t (core_of w).released → StopsShort s t (output_of (alone_of w))
output-short w s t known h = (let parts = output-parts w known in subst (StopsShort s t) parts.1 (StopsShort-amid s s t [] (core_of w).released parts.0 (GetsAll-nothing s) h))

pub output-part : (w : Posted) (s t : Sinks) → IsKnown w → GetsAll s t (core_of w).released → GetsPart s t (output_of (alone_of w))
output-part w s t known h = (let parts = output-parts w known in subst (GetsPart s t) parts.1 (GetsPart-of s t (core_of w).released parts.0 h))

-- a run that broke off
pub led-conducts : (workers : ℕ) (w : Posted) (s t : Sinks) (fault : OutputFault) → IsKnown w → BreaksOff w s t fault → Conducts (HasWorkedHistory workers) w s t (answer_to fault)
led-conducts workers w s t F.Write known h = output-short w s t known h
led-conducts workers w s t F.NoMemory known h = output-part w s t known h

-- ---- the outcome

module _ (w : Posted) (o : Outcome) (known : IsKnown w) (closed : IsClosed w o) where
  has-finish : (x : Option Finished) → is_some x ≡ true → (f : Finished) × (x ≡ Some f)
  has-finish None h = absurd (cc)
  has-finish (Some f) h = (f, refl)

  abbrev finished : Finished
  finished = (has-finish o.finished closed.finished).0

  finish-is : o.finished ≡ Some finished
  finish-is = (has-finish o.finished closed.finished).1

  complete : IsComplete (machine_of w) w.settings (start_state w) (core_of w) (core_finished finished)
  complete =
      law-complete (machine_of w) w.settings (start_state w) w.entries (core_of w) (core_finished finished) (exact-of w) known.legal
      (sym closed.outcome.finish ∙ ap finish_of finish-is)

  released-whole : (core_of w).released ≡ output_of (alone_of w)
  released-whole = sym (append-nil (core_of w).released) ∙ ap (λ (ms : List Mark). (core_of w).released ++ ms) (sym closed.released) ∙ complete.output

  pub whole : IsWhole w o
  whole =
      let total = total-run (machine_of w) w.settings w.entries (opening (start_state w)) (core_of w) known.legal in
      record {
        outcome = closed.outcome;
        finished = finished;
        finish = finish-is;
        end = sym (end_of-core_end finished.end) ∙ ap end_of complete.end;
        count = complete.count;
        rows = closed.outcome.rows ∙ complete.rows;
        total = (let same = ap (length {A = Mark}) released-whole in omega arith);
        released = closed.released;
      }

  pub worked : (workers : ℕ) → SeatsBelow (workers + 1) w.entries → HasWorkedHistory workers w
  worked workers seats = record { core = core_of w; legal = known.legal; finished = ap is_some (sym closed.outcome.finish ∙ ap finish_of finish-is); seats = seats }

  pub whole-output : (s t : Sinks) → GetsAll s t (core_of w).released → GetsAll s t (output_of (alone_of w))
  whole-output s t h = subst (GetsAll s t) released-whole h

-- what the last turn answers is what the whole run does
pub concludes-conducts : (workers stock : ℕ) (v w : Posted) (s t u : Sinks) (r : Conducted) → stock ≤ workers + 1 → IsKnown w → GetsAll s t (core_of v).released → Concludes stock v w t u r → Conducts (HasWorkedHistory workers) w s u r
concludes-conducts workers stock v w s t u (C.Done o) le known so_far h =
    ((whole w o known h.1, worked w o known h.1 workers (seats-more stock (workers + 1) w.entries le h.2)), whole-output w o known h.1 s u (led-more v w s t u h.0.0 so_far h.0.1 h.0.2))
concludes-conducts workers stock v w s t u C.WriteFault le known so_far h = output-short w s u known (led-short v w s t u h.0 so_far h.1 h.2)
concludes-conducts workers stock v w s t u C.NoMemory le known so_far h =
    let parts = output-parts w known in
    subst (λ (x : Sinks). GetsPart s x (output_of (alone_of w))) (sym h.1)
    (subst (GetsPart s t) (sym (append_assoc (core_of v).released h.0.0 parts.0) ∙ ap (λ (ms : List Mark). ms ++ parts.0) (sym h.0.1.released) ∙ parts.1) (GetsPart-of s t (core_of v).released (h.0.0 ++ parts.0) so_far))
