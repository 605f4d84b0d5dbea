-- What a job's bytes are of its program's output.
use Rattle.std.proofs.Common.{◌≡◌, ℕ, ◌+◌, ◌≤◌, List, [], append-nil, refl, sym, ap, ◌∙◌, subst}
use Rattle.speculation.specs.Record.{output_of}
use Rattle.guest_streams.specs.GuestStreams.{GetsPart, StopsShort}
use Rattle.guest_streams.specs.declared.fault.OutputFault.{OutputFault}
use Rattle.guest_streams.specs.declared.fault.OutputFault.TheVariants as F
use Rattle.track_board.specs.declared.outcome.Outcome.{Outcome}
use Rattle.track_board.specs.Value.{Posted, IsKnown}
use Rattle.track_board.specs.Owners.{posted_by}
use Rattle.serial_run.specs.Conducting.{alone_of, Conducts}
use Rattle.serial_run.specs.declared.conducted.Conducted.{Conducted}
use Rattle.serial_run.specs.declared.conducted.Conducted.TheVariants as C
use Rattle.worker_gate.specs.Seats.{BoardPass, seen_of}
use Rattle.worker_gate.specs.Conducting.{BreaksOff, Concludes}
use Rattle.worker_gate.specs.Histories.{HasWorkedHistory}
use Rattle.worker_gate.proofs.Concluding.{output-short, output-part, concludes-conducts}
use Rattle.job_batch.specs.declared.ends.JobOutcome.{JobOutcome}
use Rattle.job_batch.specs.declared.leading.LedJob.{LedJob}
use Rattle.job_batch.specs.declared.leading.Stage.{Stage}
use Rattle.job_batch.specs.declared.leading.Stage.TheVariants.{Runs, Over, Failed}
use Rattle.job_batch.specs.Ends.{ArePart, IsDone, EndsWith}
use Rattle.job_batch.specs.Parts.{HasGot, board_of, sinks_of_job, empty_sinks}

-- ---- stages

pub got-runs : (j : LedJob) → j.stage ≡ Runs → HasGot j.stage j → HasGot Runs j
got-runs j is h = subst (λ (x : Stage). HasGot x j) is h

pub runs-got : (j : LedJob) → j.stage ≡ Runs → HasGot Runs j → HasGot j.stage j
runs-got j is h = subst (λ (x : Stage). HasGot x j) (sym is) h

pub got-failed : (j : LedJob) → j.stage ≡ Failed → HasGot j.stage j → ArePart (board_of j) j.out.bytes j.notes.bytes
got-failed j is h = subst (λ (x : Stage). HasGot x j) is h

got-by : (j : LedJob) (x : Stage) → (x ≡ Failed → ⊥) → HasGot x j → HasGot Runs j
got-by j Runs h got = got
got-by j Over h got = got
got-by j Failed h got = absurd (h refl)

pub got-running : (j : LedJob) → (j.stage ≡ Failed → ⊥) → HasGot j.stage j → HasGot Runs j
got-running j h got = got-by j j.stage h got

-- ---- a part of the output

short-part : (j : LedJob) → StopsShort empty_sinks (sinks_of_job j) (output_of (alone_of (board_of j))) → ArePart (board_of j) j.out.bytes j.notes.bytes
short-part j h = record { got = h.got; rest = h.rest; parts = h.parts; streams = record { on_out = h.gets.stream_1; on_notes = h.gets.stream_2 } }

got-part : (j : LedJob) → GetsPart empty_sinks (sinks_of_job j) (output_of (alone_of (board_of j))) → ArePart (board_of j) j.out.bytes j.notes.bytes
got-part j h = record { got = h.got; rest = h.rest; parts = h.parts; streams = record { on_out = h.gets.stream_1; on_notes = h.gets.stream_2 } }

-- a round broke off
pub broke-off : (j : LedJob) (fault : OutputFault) → IsKnown (seen_of j.pass) → BreaksOff (seen_of j.pass) empty_sinks (sinks_of_job j) fault → ArePart (board_of j) j.out.bytes j.notes.bytes
broke-off j F.Write known h = short-part j (output-short (seen_of j.pass) empty_sinks (sinks_of_job j) known h)
broke-off j F.NoMemory known h = got-part j (output-part (seen_of j.pass) empty_sinks (sinks_of_job j) known h)

-- after every answer of a conductor
conducted-part : (promised : Posted → Type 0) (j : LedJob) (r : Conducted) → Conducts promised (seen_of j.pass) empty_sinks (sinks_of_job j) r → ArePart (board_of j) j.out.bytes j.notes.bytes
conducted-part promised j (C.Done o) h = record {
  got = output_of (alone_of (board_of j));
  rest = [];
  parts = append-nil (output_of (alone_of (board_of j)));
  streams = record { on_out = h.1.gets.stream_1; on_notes = h.1.gets.stream_2 };
}
conducted-part promised j C.WriteFault h = short-part j h
conducted-part promised j C.NoMemory h = got-part j h

-- ---- the end

module _ (workers : ℕ) (j k : LedJob) (later : k.pass ≡ record j.pass { seen = k.pass.seen }) where
  same-board : board_of k ≡ board_of j
  same-board = ap (λ (p : BoardPass). posted_by p.fixed []) later

  module _ (stock : j.pass.stock ≤ workers + 1) (known : IsKnown (seen_of k.pass)) (got : HasGot Runs j) where
    conducts : (r : Conducted) → Concludes j.pass.stock (seen_of j.pass) (seen_of k.pass) (sinks_of_job j) (sinks_of_job k) r → Conducts (HasWorkedHistory workers) (seen_of k.pass) empty_sinks (sinks_of_job k) r
    conducts r h = concludes-conducts workers j.pass.stock (seen_of j.pass) (seen_of k.pass) empty_sinks (sinks_of_job j) (sinks_of_job k) r stock known got h

    pub ends-done : (o : Outcome) → Concludes j.pass.stock (seen_of j.pass) (seen_of k.pass) (sinks_of_job j) (sinks_of_job k) (C.Done o) → IsDone workers (board_of j) k.out.bytes k.notes.bytes o
    ends-done o h =
        let all : Conducts (HasWorkedHistory workers) (seen_of k.pass) empty_sinks (sinks_of_job k) (C.Done o) = conducts (C.Done o) h in
        subst (λ (v : Posted). IsDone workers v k.out.bytes k.notes.bytes o) same-board
        (record {
          streams = record { on_out = all.1.gets.stream_1; on_notes = all.1.gets.stream_2 };
          last = seen_of k.pass;
          same = record { settings = refl; loaded = refl; input = refl };
          whole = all.0.0;
          worked = all.0.1;
        })

    pub ends-part : (r : Conducted) → Concludes j.pass.stock (seen_of j.pass) (seen_of k.pass) (sinks_of_job j) (sinks_of_job k) r → ArePart (board_of j) k.out.bytes k.notes.bytes
    ends-part r h = subst (λ (v : Posted). ArePart v k.out.bytes k.notes.bytes) same-board (conducted-part (HasWorkedHistory workers) k r (conducts r h))

-- the end of a job, of its bytes as they were handed over
pub ended-as : (workers : ℕ) (v : Posted) (j m : LedJob) (xs ys : List ℕ) (o p : JobOutcome) → xs ≡ m.out.bytes → ys ≡ m.notes.bytes → m ≡ j → o ≡ p → EndsWith workers v j.out.bytes j.notes.bytes p → EndsWith workers v xs ys o
ended-as workers v j m xs ys o p out notes job outcome h =
    subst (λ (x : JobOutcome). EndsWith workers v xs ys x) (sym outcome)
    (subst (λ (bs : List ℕ). EndsWith workers v bs ys p) (sym (out ∙ ap (λ (x : LedJob). x.out.bytes) job))
    (subst (λ (bs : List ℕ). EndsWith workers v j.out.bytes bs p) (sym (notes ∙ ap (λ (x : LedJob). x.notes.bytes) job)) h))
