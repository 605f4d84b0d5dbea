-- The serial history is one of the histories that runs with workers may have
use Rattle.std.proofs.Common.{◌≡◌, ℕ, zero, suc, ◌+◌, ◌<◌, ◌≤◌, Bool, true, false, List, [], ◌∷◌, ◌++◌, length, is_some, Option, Some, None, nat_lt, option_map, unwrap_or, refl, sym, ap, ◌∙◌, subst, arith}
use Rattle.speculation.specs.declared.tracks.Name.{Name}
use Rattle.speculation.specs.declared.history.Settings.{Settings}
use Rattle.speculation.specs.declared.history.Entry.{Entry}
use Rattle.speculation.specs.declared.history.Entry.TheVariants.{Lend}
use Rattle.speculation.specs.Machine.{Machine}
use Rattle.speculation.specs.Verdicts.{is_kept}
use Rattle.speculation.specs.Core.{Core, opening, verified}
use Rattle.speculation.specs.Due.{Due, Finishing, Crossing, Judging, Forking, due}
use Rattle.speculation.specs.Events.{core_run}
use Rattle.speculation.specs.Law.{Exact}
use Rattle.speculation.specs.Serial.{row_entry, entry_of, first_lendable, serial_by, serial_next, with_next, serial, IsSerial}
use Rattle.speculation_law.proofs.SerialEnds.{serial-exists, serial-finished}
use Rattle.worker_gate.specs.Histories.{SeatsBelow, IsWorked, IsRunHistory}

pub seats-more : (few most : ℕ) (xs : List Entry) → few ≤ most → SeatsBelow few xs → SeatsBelow most xs
seats-more few most [] le h = tt
seats-more few most (Lend seat n ∷ xs) le h = ((let lt = h.0 in omega arith), seats-more few most xs le h.1)
seats-more few most (x ∷ xs) le h = seats-more few most xs le h

seats-append : (most : ℕ) (xs ys : List Entry) → SeatsBelow most xs → SeatsBelow most ys → SeatsBelow most (xs ++ ys)
seats-append most [] ys h k = k
seats-append most (Lend seat n ∷ xs) ys h k = (h.0, seats-append most xs ys h.1 k)
seats-append most (x ∷ xs) ys h k = seats-append most xs ys h k

row-seats : (kept : Bool) (row : ℕ) → SeatsBelow 1 (row_entry kept row ∷ [])
row-seats true row = tt
row-seats false row = tt

module _ {S E D : Type 0} (m : Machine S E D) (b : Settings) where
  due-seats : (c : Core S E D) (d : Due S E D) → SeatsBelow 1 (entry_of c d ∷ [])
  due-seats c (Finishing f) = tt
  due-seats c Crossing = tt
  due-seats c (Judging v) = row-seats (is_kept v.judged.verdict) (length c.rows)
  due-seats c Forking = tt

  rest-seats : (c : Core S E D) (rest : Core S E D → List Entry) → ((d : Core S E D) → SeatsBelow 1 (rest d)) → (o : Option (Core S E D)) → SeatsBelow 1 (unwrap_or (option_map rest o) [])
  rest-seats c rest h None = tt
  rest-seats c rest h (Some d) = h d

  -- what comes next lends to seat 0 alone, and so does the rest
  with-seats : (c : Core S E D) (rest : Core S E D → List Entry) → ((d : Core S E D) → SeatsBelow 1 (rest d)) → (d : Option (Due S E D)) (some : Bool) (n : Option Name)
      → SeatsBelow 1 (with_next m b c rest (serial_by m b c d some n))
  with-seats c rest h (Some d) some n = seats-append 1 (entry_of c d ∷ []) _ (due-seats c d) (rest-seats c rest h (core_run m b (Some c) (entry_of c d ∷ [])))
  with-seats c rest h None true n = rest-seats c rest h (core_run m b (Some c) _)
  with-seats c rest h None false (Some n) = (omega arith, rest-seats c rest h (core_run m b (Some c) _))
  with-seats c rest h None false None = tt

  serial-seats : (k : ℕ) (c : Core S E D) → SeatsBelow 1 (serial m b k c)
  unfolding serial
  serial-seats zero c = tt
  serial-seats (suc k) c =
      with-seats c (λ d. serial m b k d) (λ d. serial-seats k d) (due m b c) (nat_lt 0 (length (verified b c))) (first_lendable m b c c.regions)

  module _ (start : S) (exact : Exact m start) (some : 0 < b.tracks) where
    pub serial-worked : (workers : ℕ) (entries : List Entry) → IsSerial m b start entries → IsWorked workers m b start entries
    serial-worked workers entries h = record {
      core = h.core;
      legal = h.legal;
      finished = ap is_some (serial-finished m b start exact entries h some).finish;
      seats = seats-more 1 (workers + 1) entries (omega arith) (subst (SeatsBelow 1) (sym h.are_rounds) (serial-seats h.rounds (opening start)));
    }

    by-workers : (workers : ℕ) (entries : List Entry) → IsSerial m b start entries → IsRunHistory workers m b start entries
    by-workers zero entries h = h
    by-workers (suc n) entries h = serial-worked (suc n) entries h

    -- a run with so many workers may have a history
    pub run-history-exists : (workers : ℕ) → (entries : List Entry) × IsRunHistory workers m b start entries
    run-history-exists workers = (let found = serial-exists m b start exact in (found.0, by-workers workers found.0 found.1))
