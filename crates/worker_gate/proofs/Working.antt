-- Rounds of a worker, one after another.
use Rattle.std.proofs.Common.{◌≡◌, ℕ, [], ◌∷◌, ◌++◌, refl, sym, ap, ◌∙◌, subst}
use Rattle.speculation.specs.declared.tracks.Name.{Name}
use Rattle.speculation.specs.declared.history.Entry.TheVariants.{Lend, Gone, Halt}
use Rattle.track_board.specs.Value.{Posted}
use Rattle.track_board.proofs.Others.{others-none}
use Rattle.serial_run.proofs.Releases.{quiet-append}
use Rattle.worker_gate.specs.Seats.{BoardPass, seen_of, own_loans, Goes}
use Rattle.worker_gate.specs.Rounds.{HasEnded, HaltsEnding, HaltedByEnd, HaltedAfterEnd, HasWorked, HaltsInRound, HaltedFirst, HaltedByLoss, HaltedLast, Works, WorksUpToHalt}
use Rattle.worker_gate.proofs.Going.{goes-foreign, goes-then, halts-then}
use Rattle.worker_gate.proofs.Leading.{ends-quiet}

-- ---- a pass that was used goes on

pub pass-first : (p : BoardPass) → p ≡ record p { seen = p.seen }
pass-first p = refl

pub pass-then : (p q r : BoardPass) → q ≡ record p { seen = q.seen } → r ≡ record q { seen = r.seen } → r ≡ record p { seen = r.seen }
pass-then p q r a b = b ∙ ap (λ (x : BoardPass). record x { seen = r.seen }) a

pub same-seat : (p q : BoardPass) → q ≡ record p { seen = q.seen } → q.seat ≡ p.seat
same-seat p q a = ap (λ (x : BoardPass). x.seat) a

pub none-later : (p q : BoardPass) → q ≡ record p { seen = q.seen } → own_loans p.seat q.seen ≡ 0 → own_loans q.seat q.seen ≡ 0
none-later p q a h = subst (λ seat. own_loans seat q.seen ≡ 0) (sym (same-seat p q a)) h

-- ---- a round

-- a track was lent to the seat of p, which has come to q, and its loan ended, or halted the board
module _ (p q r : BoardPass) (later : q ≡ record p { seen = q.seen }) (n : Name) (lent : Goes p.seat (Lend p.seat n ∷ []) (seen_of p) (seen_of q)) where
  pub round-worked : HasEnded q.seat n (seen_of q) (seen_of r) → HasWorked p.seat (seen_of p) (seen_of r)
  round-worked h = record {
    name = n;
    end = h.end;
    ends = h.ends;
    goes = goes-then p.seat (Lend p.seat n ∷ []) (h.end ∷ []) (seen_of p) (seen_of q) (seen_of r) lent (subst (λ seat. Goes seat (h.end ∷ []) (seen_of q) (seen_of r)) (same-seat p q later) h.goes);
  }

  ending-halts : HaltsEnding p.seat n (seen_of q) (seen_of r) → HaltsInRound p.seat (seen_of p) (seen_of r)
  ending-halts (HaltedByEnd h) = HaltedByLoss n (halts-then p.seat (Lend p.seat n ∷ []) [] (Gone n) (seen_of p) (seen_of q) (seen_of r) lent h)
  ending-halts (HaltedAfterEnd end ends h) = HaltedLast n end ends (halts-then p.seat (Lend p.seat n ∷ []) (end ∷ []) (Halt p.seat) (seen_of p) (seen_of q) (seen_of r) lent h)

  pub round-halted : HaltsEnding q.seat n (seen_of q) (seen_of r) → HaltsInRound p.seat (seen_of p) (seen_of r)
  round-halted h = ending-halts (subst (λ seat. HaltsEnding seat n (seen_of q) (seen_of r)) (same-seat p q later) h)

-- ---- what the seat did so far

pub works-first : (seat : ℕ) (v : Posted) → Works seat v v
works-first seat v = record { own = []; quiet = tt; goes = goes-foreign seat v v (others-none seat v v refl) }

works-then : (seat : ℕ) (u v w : Posted) → Works seat u v → Works seat v w → Works seat u w
works-then seat u v w a b = record { own = a.own ++ b.own; quiet = quiet-append a.own b.own a.quiet b.quiet; goes = goes-then seat a.own b.own u v w a.goes b.goes }

halts-works : (seat : ℕ) (u v w : Posted) → Works seat u v → WorksUpToHalt seat v w → WorksUpToHalt seat u w
halts-works seat u v w a b = record {
  own = a.own ++ b.own;
  quiet = quiet-append a.own b.own a.quiet b.quiet;
  last = b.last;
  last_quiet = b.last_quiet;
  halts = halts-then seat a.own b.own b.last u v w a.goes b.halts;
}

round-halts : (seat : ℕ) (v w : Posted) → HaltsInRound seat v w → WorksUpToHalt seat v w
round-halts seat v w (HaltedFirst h) = record { own = []; quiet = tt; last = Halt seat; last_quiet = tt; halts = h }
round-halts seat v w (HaltedByLoss n h) = record { own = Lend seat n ∷ []; quiet = (tt, tt); last = Gone n; last_quiet = tt; halts = h }
round-halts seat v w (HaltedLast n end ends h) = record { own = Lend seat n ∷ (end ∷ []); quiet = (tt, (ends-quiet n end ends, tt)); last = Halt seat; last_quiet = tt; halts = h }

-- rounds from the pass p to q, and then one more to r
module _ (p q r : BoardPass) (later : q ≡ record p { seen = q.seen }) (so_far : Works p.seat (seen_of p) (seen_of q)) where
  -- a track was lent, and its loan ended
  pub works-worked : HasWorked q.seat (seen_of q) (seen_of r) → Works p.seat (seen_of p) (seen_of r)
  works-worked h =
      works-then p.seat (seen_of p) (seen_of q) (seen_of r) so_far
      (subst (λ seat. Works seat (seen_of q) (seen_of r)) (same-seat p q later)
      (record { own = Lend q.seat h.name ∷ (h.end ∷ []); quiet = (tt, (ends-quiet h.name h.end h.ends, tt)); goes = h.goes }))

  -- no entry of the seat was made
  pub works-on : Goes q.seat [] (seen_of q) (seen_of r) → Works p.seat (seen_of p) (seen_of r)
  works-on h =
      works-then p.seat (seen_of p) (seen_of q) (seen_of r) so_far
      (subst (λ seat. Works seat (seen_of q) (seen_of r)) (same-seat p q later) (record { own = []; quiet = tt; goes = h }))

  -- the seat halted the board
  pub works-halted : HaltsInRound q.seat (seen_of q) (seen_of r) → WorksUpToHalt p.seat (seen_of p) (seen_of r)
  works-halted h =
      halts-works p.seat (seen_of p) (seen_of q) (seen_of r) so_far
      (subst (λ seat. WorksUpToHalt seat (seen_of q) (seen_of r)) (same-seat p q later) (round-halts q.seat (seen_of q) (seen_of r) h))
