-- What a worker does with the board in one turn.
use Rattle.std.proofs.Common.{◌≡◌, ◌⊎◌, inl, inr, ℕ, true, false, if◌then◌else◌, [], ◌∷◌, Option, Some, None, Result, Ok, Err, refl, sym, ap, ap₂, ◌∙◌, subst}
use Rattle.std.proofs.lemmas.Option.{same_Some}
use Rattle.speculation.specs.declared.tracks.Name.{Name}
use Rattle.speculation.specs.declared.tracks.OpenLoan.{OpenLoan}
use Rattle.speculation.specs.declared.history.Entry.TheVariants as E
use Rattle.speculation.specs.Core.{over, find_loan}
use Rattle.speculation.specs.Events.{gone_live}
use Rattle.speculation.specs.Loans.{owner_of, seat_of, loans_after}
use Rattle.track_board.specs.declared.loan.Loan.{Loan}
use Rattle.track_board.specs.declared.loan.Back.{Back}
use Rattle.track_board.specs.declared.loan.Back.TheVariants.{Taken, Dropped, Over}
use Rattle.track_board.specs.Value.{Posted, IsKnown, core_of, posted}
use Rattle.track_board.specs.Loans.{IsLoanOf, IsLiveLoan, LendIs, IsReturned, WasDropped, back_by, back_entry}
use Rattle.track_board.specs.Settles.{Settles, due_of}
use Rattle.track_board.specs.Others.{IsOut}
use Rattle.track_board.proofs.Foundation.{posted-core}
use Rattle.track_board.proofs.Gone.{event-gone}
use Rattle.track_board.proofs.Others.{others-none, others-then, others-settle, others-lend, others-halt, others-back, others-gone, seat-told, lent-out}
use Rattle.worker_gate.specs.Seats.{HaltsAt, Goes, Halts, ActsAlone}
use Rattle.worker_gate.specs.Rounds.{Ends, IsSettled, SettledIs, IsIdle, HasEnded, HaltedAfterEnd, EndIs}
use Rattle.worker_gate.proofs.Going.{goes-foreign, goes-one, goes-then, halts-one, halts-then}

-- ---- the seat alone

pub alone-then : (seat : ℕ) (u v w : Posted) → ActsAlone seat u v → ActsAlone seat v w → ActsAlone seat u w
alone-then seat u v w a b other differ = others-then other u v w (a other differ) (b other differ)

pub alone-same : (seat : ℕ) (v w : Posted) → w ≡ v → ActsAlone seat v w
alone-same seat v w h other differ = others-none other v w h

pub alone-settle : (seat n : ℕ) (v w : Posted) → Settles n v w → ActsAlone seat v w
alone-settle seat n v w h other differ = others-settle other n v w h

pub alone-halt : (seat : ℕ) (v w : Posted) → w ≡ (if over (core_of v) then v else posted v (E.Halt seat)) → ActsAlone seat v w
alone-halt seat v w h other differ = others-halt other seat v w differ h

-- ---- what is due

pub settled-done : (seat n : ℕ) (v w : Posted) → Settles n v w → due_of w ≡ None → IsSettled seat v w
settled-done seat n v w h undue = record { goes = goes-foreign seat v w (others-settle seat n v w h); undue = λ running. undue }

pub settled-over : (seat n : ℕ) (v w : Posted) → Settles n v w → over (core_of w) ≡ true → IsSettled seat v w
settled-over seat n v w h ended = record { goes = goes-foreign seat v w (others-settle seat n v w h); undue = λ running. absurd (cc) }

halted-now : (seat : ℕ) (v w : Posted) → over (core_of v) ≡ false → w ≡ (if over (core_of v) then v else posted v (E.Halt seat)) → w ≡ posted v (E.Halt seat)
halted-now seat v w running h = h ∙ ap (λ t. if t then v else posted v (E.Halt seat)) running

-- the seat halts the board
pub halts-now : (seat : ℕ) (v w : Posted) → over (core_of v) ≡ false → w ≡ (if over (core_of v) then v else posted v (E.Halt seat)) → over (core_of w) ≡ true → Halts seat [] (E.Halt seat) v w
halts-now seat v w running h ended = halts-one seat v w (E.Halt seat) (goes-foreign seat v v (others-none seat v v refl)) refl tt (halted-now seat v w running h) ended

pub settled-halted : (seat n : ℕ) (v u w : Posted) → Settles n v u → over (core_of u) ≡ false → w ≡ (if over (core_of u) then u else posted u (E.Halt seat)) → over (core_of w) ≡ true → Halts seat [] (E.Halt seat) v w
settled-halted seat n v u w h running halted ended =
    halts-then seat [] [] (E.Halt seat) v u w (goes-foreign seat v u (others-settle seat n v u h)) (halts-now seat u w running halted ended)

-- ---- a loan

pub found-lent : (seat : ℕ) (v u w : Posted) (loan : Loan) → IsSettled seat v u → LendIs u w seat (Some loan) → Goes seat (E.Lend seat loan.name ∷ []) v w × IsOut w seat loan
found-lent seat v u w loan settled h =
    (goes-then seat [] (E.Lend seat loan.name ∷ []) v u w settled.goes (goes-one seat u w (E.Lend seat loan.name) h.0.entry refl (λ at. at)), lent-out u w seat loan h.0)

pub found-nothing : (seat : ℕ) (v u w : Posted) → IsSettled seat v u → over (core_of u) ≡ false → LendIs u w seat None → Goes seat [] v w × IsIdle w
found-nothing seat v u w settled running h =
    subst (λ (x : Posted). Goes seat [] v x × IsIdle x) (sym h.0) (settled.goes, record { running = running; undue = settled.undue running; unlendable = h.1 })

pub found-halted : (seat : ℕ) (v u x w : Posted) → IsSettled seat v u → over (core_of u) ≡ false → x ≡ u → w ≡ (if over (core_of x) then x else posted x (E.Halt seat)) → over (core_of w) ≡ true → Halts seat [] (E.Halt seat) v w
found-halted seat v u x w settled running same halted ended =
    halts-then seat [] [] (E.Halt seat) v u w settled.goes
    (halts-now seat u w running (subst (λ (y : Posted). w ≡ (if over (core_of y) then y else posted y (E.Halt seat))) same halted) ended)

pub alone-lent : (seat : ℕ) (v w : Posted) (o : Option Loan) → LendIs v w seat o → ActsAlone seat v w
alone-lent seat v w None h other differ = others-none other v w h.0
alone-lent seat v w (Some loan) h other differ = others-lend other seat v w loan differ h.0

-- ---- the end of a loan

module _ (seat : ℕ) (v w : Posted) (n : Name) (known : IsKnown v) (lent : IsLoanOf v seat n) where
  told : seat_of (find_loan n (loans_after [] v.entries)) ≡ Some seat
  told = seat-told v seat n known lent

  -- the loan of the name, as others found it
  same-loan : (l : OpenLoan) → find_loan n (core_of v).loans ≡ Some l → (k : OpenLoan) → find_loan n (core_of v).loans ≡ Some k → k.dropped ≡ l.dropped
  same-loan l found k other = ap (λ (x : OpenLoan). x.dropped) (same_Some k l (sym other ∙ found))

  back-calm : (result : Back) (l : OpenLoan) → find_loan n (core_of v).loans ≡ Some l → result ≡ back_by l.dropped (over (core_of v)) → HaltsAt v (back_entry v n result) → ⊥
  back-calm Taken l found answer at = at
  back-calm (Dropped row) l found answer at =
      let none : l.dropped ≡ None = sym (same-loan l found at.0.0 at.0.1) ∙ at.0.2 in
      let taken : Dropped row ≡ Taken = answer ∙ ap₂ back_by none at.1 in cc
  back-calm Over l found answer at =
      let none : l.dropped ≡ None = sym (same-loan l found at.0.0 at.0.1) ∙ at.0.2 in
      let taken : Over ≡ Taken = answer ∙ ap₂ back_by none at.1 in cc

  back-owner : (result : Back) → owner_of v.entries (back_entry v n result) ≡ Some seat
  back-owner Taken = told
  back-owner (Dropped row) = told
  back-owner Over = told

  back-ends : (result : Back) → Ends n (back_entry v n result)
  back-ends Taken = refl
  back-ends (Dropped row) = refl
  back-ends Over = refl

  pub back-ended : (result : Back) → IsReturned v w n result → HasEnded seat n v w
  back-ended result h = record {
    end = back_entry v n result;
    ends = back-ends result;
    goes = goes-one seat v w (back_entry v n result) h.entry (back-owner result) (back-calm result h.loan h.found h.answer);
  }

  pub alone-back : (result : Back) → IsReturned v w n result → ActsAlone seat v w
  alone-back result h other differ = others-back other seat v w n result known differ lent h

  module _ (gone : w ≡ posted v (E.Gone n)) where
    pub alone-gone : ActsAlone seat v w
    alone-gone other differ = others-gone other seat v w n known differ lent gone

    core-gone : core_of w ≡ gone_live (core_of v) n lent.0.dropped
    core-gone = ap core_of gone ∙ posted-core v (E.Gone n) (core_of v) (gone_live (core_of v) n lent.0.dropped) known.legal (event-gone v (core_of v) n lent.0 lent.1)

    dropped-by : (o : Option ℕ) → lent.0.dropped ≡ o → core_of w ≡ gone_live (core_of v) n o → over (core_of v) ≡ false → over (core_of w) ≡ true → IsLiveLoan v n
    dropped-by None is core running ended = (lent.0, lent.1, is)
    dropped-by (Some row) is core running ended = absurd (let same : over (core_of w) ≡ over (core_of v) = ap over core in cc)

    -- it halted the board
    pub gone-halted : over (core_of v) ≡ false → over (core_of w) ≡ true → Halts seat [] (E.Gone n) v w
    gone-halted running ended =
        halts-one seat v w (E.Gone n) (goes-foreign seat v v (others-none seat v v refl)) told
        (dropped-by lent.0.dropped refl core-gone running ended, running) gone ended

    -- or the board was over, or a discard had dropped the track
    gone-ended : (HaltsAt v (E.Gone n) → ⊥) → HasEnded seat n v w
    gone-ended calm = record { end = E.Gone n; ends = refl; goes = goes-one seat v w (E.Gone n) gone told calm }

    pub gone-over : over (core_of v) ≡ true → HasEnded seat n v w
    gone-over was = gone-ended (λ at. (let running : over (core_of v) ≡ false = at.1 in cc))

    pub gone-dropped : (over (core_of w) ≡ true) ⊎ WasDropped v n → over (core_of w) ≡ false → HasEnded seat n v w
    gone-dropped (inl ended) running = absurd (cc)
    gone-dropped (inr dropped) running =
        gone-ended (λ at. (let row = dropped.2.0 in let same : Some row ≡ None = sym dropped.2.1 ∙ (sym (same-loan dropped.0 dropped.1 at.0.0 at.0.1) ∙ at.0.2) in cc))

-- and then what is due
pub end-settled : {T F : Type 0} (seat : ℕ) (n : Name) (u v w : Posted) (r : Result T F) → HasEnded seat n u v → SettledIs seat v w r → EndIs seat n u w r
end-settled seat n u v w (Ok t) a b = record { end = a.end; ends = a.ends; goes = goes-then seat (a.end ∷ []) [] u v w a.goes b.goes }
end-settled seat n u v w (Err f) a b = HaltedAfterEnd a.end a.ends (halts-then seat (a.end ∷ []) [] (E.Halt seat) u v w a.goes b)
