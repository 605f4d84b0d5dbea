-- Passes of the jobs' locks.
use Rattle.std.proofs.Common.{◌≡◌, ℕ, ◌+◌, ◌<◌, ◌≤◌, List, [], ◌∷◌, ◌++◌, length, get_or, map, Some, refl, sym, ap, ◌∙◌, subst}
use Rattle.std.specs.Prelude.{All}
use Rattle.std.proofs.lemmas.List.Elements.{All-map}
use Rattle.std.proofs.lemmas.List.{map-append}
use Rattle.std.proofs.lemmas.Slice.Zip.{all_zipped_more}
use Rattle.std.proofs.lemmas.Option.{get_or_from_slice_get, slice_get_within}
use Rattle.atomic_table.specs.Seated.{TableId}
use Rattle.track_board.specs.Value.{Posted}
use Rattle.track_board.specs.Owners.{posted_by}
use Rattle.worker_gate.specs.Seats.{BoardPass, own_loans, IsReady}
use Rattle.job_batch.specs.declared.ends.JobEnd.{JobEnd}
use Rattle.job_batch.specs.declared.leading.LedJob.{LedJob}
use Rattle.job_batch.specs.Ends.{IsEndOf, AreEnds}
use Rattle.job_batch.specs.Parts.{IsPassAt, IsLed, HasGot, HasSeats, board_of, boards_of, start_of, starts_of}
use Rattle.job_batch.proofs.Lists.{All-from_map, slice_get-more, slice_get-last}

-- ---- a pass at a place

module _ (locks : List TableId) (n : ℕ) (p : BoardPass) (at : IsPassAt locks n p) where
  pub place-below : n < length locks
  place-below = slice_get_within locks n p.lock at.lock

  -- the lock that stands there
  pub place-lock : (lock : TableId) → lock ≡ get_or locks n lock → p.lock ≡ lock
  place-lock lock is = sym (is ∙ get_or_from_slice_get locks n p.lock lock at.lock)

  -- the pass has seen more
  pub place-later : (q : BoardPass) → q ≡ record p { seen = q.seen } → own_loans q.seat q.seen ≡ 0 → IsPassAt locks n q
  place-later q later none = record {
    lock = at.lock ∙ ap (λ (x : BoardPass). Some x.lock) (sym later);
    ready = record { lock = refl; idle = ap (λ (x : BoardPass). x.in_turn) later ∙ at.ready.idle; none = none };
  }

  -- there is a lock more
  pub place-more : (lock : TableId) → IsPassAt (locks ++ lock ∷ []) n p
  place-more lock = record { lock = slice_get-more locks n p.lock lock at.lock; ready = at.ready }

-- a pass of the lock that was added
pub place-last : (locks : List TableId) (lock : TableId) (p : BoardPass) → IsReady lock p → IsPassAt (locks ++ lock ∷ []) (length locks) p
place-last locks lock p h = record {
  lock = slice_get-last locks lock ∙ ap Some (sym h.lock);
  ready = record { lock = refl; idle = h.idle; none = h.none };
}

-- the caller's part when there is a lock more
pub led-more : (locks : List TableId) (j : LedJob) → IsLed locks j → (lock : TableId) → IsLed (locks ++ lock ∷ []) j
led-more locks j h lock = record { place = place-more locks j.number j.pass h.place lock; seat = h.seat; some = h.some; got = h.got }

-- the caller's part when its pass has seen more
pub led-later : (locks : List TableId) (j k : LedJob) → IsLed locks j → k.number ≡ j.number → k.pass ≡ record j.pass { seen = k.pass.seen } → own_loans k.pass.seat k.pass.seen ≡ 0 → HasGot k.stage k → IsLed locks k
led-later locks j k h number later none got = record {
  place = subst (λ n. IsPassAt locks n k.pass) (sym number) (place-later locks j.number j.pass h.place k.pass later none);
  seat = ap (λ (x : BoardPass). x.seat) later ∙ h.seat;
  some = subst (λ (x : BoardPass). 1 ≤ x.stock) (sym later) h.some;
  got = got;
}

-- ---- what doesn't change

pub boards-of_starts : (js : List LedJob) → boards_of js ≡ map (λ (p : BoardPass). posted_by p.fixed []) (starts_of js)
boards-of_starts [] = refl
boards-of_starts (j ∷ js) = ap (λ (vs : List Posted). board_of j ∷ vs) (boards-of_starts js)

pub boards-kept : (js ks : List LedJob) → starts_of ks ≡ starts_of js → boards_of ks ≡ boards_of js
boards-kept js ks same = boards-of_starts ks ∙ ap (λ (ps : List BoardPass). map (λ (p : BoardPass). posted_by p.fixed []) ps) same ∙ sym (boards-of_starts js)

abbrev SeatsUpTo : ℕ → BoardPass → Type 0
SeatsUpTo workers p = p.stock ≤ workers + 1

pub seats-kept : (workers : ℕ) (js ks : List LedJob) → starts_of ks ≡ starts_of js → All (HasSeats workers) js → All (HasSeats workers) ks
seats-kept workers js ks same h =
    All-from_map (SeatsUpTo workers) start_of ks (subst (All (SeatsUpTo workers)) (sym same) (All-map (SeatsUpTo workers) start_of js h))

-- ---- ends

pub ends-more : (workers : ℕ) (js : List LedJob) (j : LedJob) (es fs : List JobEnd) (e : JobEnd) → fs ≡ es ++ e ∷ [] → AreEnds workers (boards_of js) es → IsEndOf workers (board_of j) e → AreEnds workers (boards_of (js ++ j ∷ [])) fs
ends-more workers js j es fs e is h end =
    subst (λ (vs : List Posted). AreEnds workers vs fs) (sym (map-append board_of js (j ∷ [])))
    (subst (λ (xs : List JobEnd). AreEnds workers (boards_of js ++ board_of j ∷ []) xs) (sym is) (all_zipped_more (IsEndOf workers) (boards_of js) es (board_of j) e h end))
