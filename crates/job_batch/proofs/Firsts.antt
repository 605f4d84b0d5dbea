-- The caller's part in a job that was just opened.
use Rattle.std.proofs.Common.{◌≡◌, ◌≤◌, List, [], ◌∷◌, ◌++◌, length, Some, sym, ap, ◌∙◌, subst}
use Rattle.atomic_table.specs.Seated.{TableId}
use Rattle.board_lock.specs.Passes.{first_pass}
use Rattle.guest_streams.specs.GuestStreams.{Sinks, GetsAll}
use Rattle.track_board.specs.Value.{Posted, core_of}
use Rattle.track_board.specs.Owners.{program_of}
use Rattle.worker_gate.specs.Seats.{BoardPass, seen_of, own_loans, IsReady}
use Rattle.worker_gate.proofs.Concluding.{led-first}
use Rattle.job_batch.specs.declared.byte_sink.ByteSink.{ByteSink}
use Rattle.job_batch.specs.declared.leading.LedJob.{LedJob}
use Rattle.job_batch.specs.declared.leading.Stage.TheVariants.{Runs}
use Rattle.job_batch.specs.Ends.{IsFresh}
use Rattle.job_batch.specs.Parts.{IsPassAt, IsLed, sinks_of_job, empty_sinks}
use Rattle.job_batch.proofs.Places.{place-last}
use Rattle.job_batch.proofs.Streams.{runs-got}

-- the first pass of a lock behind the passes that it gave
module _ (lock : TableId) (v : Posted) (p q : BoardPass) (fresh : IsFresh v) (first : p ≡ first_pass program_of (λ (x : Posted). x.entries) lock v) (given : q ≡ record p { stock = q.stock }) where
  now : q ≡ record (first_pass program_of (λ (x : Posted). x.entries) lock v) { stock = q.stock }
  now = given ∙ ap (λ (x : BoardPass). record x { stock = q.stock }) first

  seen : q.seen ≡ []
  seen = ap (λ (x : BoardPass). x.seen) now ∙ fresh

  ready : IsReady lock q
  ready = record { lock = ap (λ (x : BoardPass). x.lock) now; idle = ap (λ (x : BoardPass). x.in_turn) now; none = ap (own_loans q.seat) seen }

  pub first-led_by : (ids : List TableId) (j : LedJob) → 1 ≤ q.stock → j.number ≡ length ids → j.pass ≡ q → sinks_of_job j ≡ empty_sinks → j.stage ≡ Runs → IsLed (ids ++ lock ∷ []) j
  first-led_by ids j some number pass sinks stage = record {
    place = subst (λ (x : BoardPass). IsPassAt (ids ++ lock ∷ []) j.number x) (sym pass) (subst (λ n. IsPassAt (ids ++ lock ∷ []) n q) (sym number) (place-last ids lock q ready));
    seat = ap (λ (x : BoardPass). x.seat) pass ∙ ap (λ (x : BoardPass). x.seat) now;
    some = subst (λ (x : BoardPass). 1 ≤ x.stock) (sym pass) some;
    got = runs-got j stage (subst (λ (s : Sinks). GetsAll empty_sinks s (core_of (seen_of j.pass)).released) (sym sinks) (led-first (seen_of j.pass) empty_sinks (ap (λ (x : BoardPass). x.seen) pass ∙ seen)));
  }

sinks-same : (j : LedJob) → j.out ≡ record { bytes = []; faults = 0 } → j.notes ≡ record { bytes = []; faults = 0 } → sinks_of_job j ≡ empty_sinks
sinks-same j out notes =
    ap (λ (s : ByteSink). let x : Sinks = record { out = Some s.bytes; out_faults = s.faults; notes = Some j.notes.bytes; notes_faults = j.notes.faults } in x) out
    ∙ ap (λ (s : ByteSink). let x : Sinks = record { out = Some []; out_faults = 0; notes = Some s.bytes; notes_faults = s.faults } in x) notes

pub first-led : (ids : List TableId) (lock : TableId) (v : Posted) (p q : BoardPass) (j : LedJob) → IsFresh v → p ≡ first_pass program_of (λ (x : Posted). x.entries) lock v → q ≡ record p { stock = q.stock } → 1 ≤ q.stock
    → j.number ≡ length ids → j.pass ≡ q → j.out ≡ record { bytes = []; faults = 0 } → j.notes ≡ record { bytes = []; faults = 0 } → j.stage ≡ Runs → IsLed (ids ++ lock ∷ []) j
first-led ids lock v p q j fresh first given some number pass out notes stage = first-led_by lock v p q fresh first given ids j some number pass (sinks-same j out notes) stage
