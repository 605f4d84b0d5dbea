-- A track that is lent, run by one slice and taken back.
use Rattle.std.proofs.Common.{◌≡◌, ◌⊎◌, inl, inr, true, false, [], ◌∷◌, Some, None, sym, ap, ap₂, ◌∙◌, subst}
use Rattle.std.proofs.lemmas.Option.{same_Some}
use Rattle.speculation.specs.declared.tracks.Name.{Name}
use Rattle.speculation.specs.declared.tracks.OpenLoan.{OpenLoan}
use Rattle.speculation.specs.declared.history.Entry.TheVariants as E
use Rattle.speculation.specs.Core.{over, find_loan, find_track}
use Rattle.speculation.specs.Serial.{slice_of}
use Rattle.speculation_law.proofs.FindLoan.{find_loan-new}
use Rattle.speculation_law.proofs.Names.{home-lent}
use Rattle.speculation_law.proofs.Naming.{find_loan-home}
use Rattle.speculation_law.proofs.Lending.{SomeLendable, lendable-true}
use Rattle.speculation_law.proofs.SerialSteps.{event-lend}
use Rattle.speculation_law.proofs.Happens.{lent_core}
use Rattle.track_board.specs.declared.loan.Loan.{Loan}
use Rattle.track_board.specs.declared.loan.Back.{Back}
use Rattle.track_board.specs.declared.loan.Back.TheVariants.{Taken}
use Rattle.track_board.specs.Value.{Posted, GuestCore, IsKnown, machine_of, core_of, posted}
use Rattle.track_board.specs.Loans.{oldest_lendable, IsLent, IsReturned, WasDropped, back_by, back_entry}
use Rattle.track_board.proofs.Foundation.{posted-core}
use Rattle.serial_run.specs.Rounds.{RunsSlice, GivesUp}
use Rattle.serial_run.proofs.OnRounds.{sound-of, extends-known, extended-twice}

module _ (v w : Posted) (loan : Loan) (known : IsKnown w) (lent : IsLent v w 0 loan) where
  before : IsKnown v
  before = extends-known v w (record { more = E.Lend 0 loan.name ∷ []; now = lent.entry }) known

  can : SomeLendable (machine_of v) v.settings (core_of v) loan.name
  can = lendable-true (machine_of v) v.settings (core_of v) loan.name lent.can

  core-lent : core_of w ≡ lent_core (core_of v) 0 loan.name
  core-lent =
      ap core_of lent.entry
      ∙ posted-core v (E.Lend 0 loan.name) (core_of v) (lent_core (core_of v) 0 loan.name) before.legal (event-lend (machine_of v) v.settings (core_of v) 0 loan.name lent.can)

  -- the board is not over
  live-lent : over (core_of w) ≡ false
  live-lent = ap over core-lent ∙ can.is.live

  -- and no discard dropped the track
  loan-lent : find_loan loan.name (core_of w).loans ≡ Some (record { seat = 0; name = loan.name; dropped = None })
  loan-lent =
      let new : OpenLoan = record { seat = 0; name = loan.name; dropped = None } in
      ap (λ (c : GuestCore). find_loan loan.name c.loans) core-lent
      ∙ find_loan-new (core_of v).loans new
      (find_loan-home (core_of v) loan.name (sound-of v before).named (can.track, can.is.found) (home-lent (core_of v) loan.name can.is.home))

  -- so it took its place again
  back-taken : (x : Posted) (r : Back) → IsReturned w x loan.name r → r ≡ Taken
  back-taken x r h =
      let same : record { seat = 0; name = loan.name; dropped = None } ≡ h.loan = same_Some (record { seat = 0; name = loan.name; dropped = None }) h.loan (sym loan-lent ∙ h.found) in
      h.answer ∙ ap₂ back_by (ap (λ (l : OpenLoan). l.dropped) (sym same)) live-lent

  -- the track is the one that went out
  track-lent : find_track (core_of w) loan.name ≡ find_track (core_of v) loan.name
  track-lent = lent.still ∙ sym lent.found

  back-entry : (x : Posted) (r : Back) → IsReturned w x loan.name r → x ≡ posted w (E.Back loan.name (slice_of (machine_of v) v.settings (find_track (core_of v) loan.name)))
  back-entry x r h =
      h.entry ∙ ap (λ b. posted w (back_entry w loan.name b)) (back-taken x r h)
      ∙ ap₂ (λ (u : Posted) t. posted w (E.Back loan.name (slice_of (machine_of u) u.settings t))) lent.entry track-lent

  slice-run : (x : Posted) (r : Back) → oldest_lendable v ≡ Some loan.name → IsReturned w x loan.name r → RunsSlice v x
  slice-run x r oldest h = record {
    name = loan.name;
    oldest = oldest;
    now = extended-twice v w x (E.Lend 0 loan.name ∷ []) (E.Back loan.name (slice_of (machine_of v) v.settings (find_track (core_of v) loan.name)) ∷ []) lent.entry (back-entry x r h);
  }

  -- so the board is over once it is given up
  given_up : (x : Posted) → oldest_lendable v ≡ Some loan.name → x ≡ posted w (E.Gone loan.name) → (over (core_of x) ≡ true) ⊎ WasDropped w loan.name → GivesUp v x
  given_up x oldest gone (inl h) = record { name = loan.name; oldest = oldest; now = extended-twice v w x (E.Lend 0 loan.name ∷ []) (E.Gone loan.name ∷ []) lent.entry gone; over = h }
  given_up x oldest gone (inr h) = absurd (let same : record { seat = 0; name = loan.name; dropped = None } ≡ h.0 = same_Some (record { seat = 0; name = loan.name; dropped = None }) h.0 (sym loan-lent ∙ h.1) in (let row = h.2.1 in cc))

-- the track that went out was given up
pub slice-lost : (v w x : Posted) (loan : Loan) (name : Name) → name ≡ loan.name → IsKnown w → IsLent v w 0 loan → oldest_lendable v ≡ Some loan.name
    → x ≡ posted w (E.Gone name) → (over (core_of x) ≡ true) ⊎ WasDropped w name → GivesUp v x
slice-lost v w x loan name same known lent oldest gone ends =
    given_up v w loan known lent x oldest (gone ∙ ap (λ (n : Name). posted w (E.Gone n)) same) (subst (λ (n : Name). (over (core_of x) ≡ true) ⊎ WasDropped w n) same ends)

-- it comes home
pub slice-home : (v w x : Posted) (loan : Loan) (name : Name) (r : Back) → name ≡ loan.name → IsKnown w → IsLent v w 0 loan → IsReturned w x name r → r ≡ Taken
slice-home v w x loan name r same known lent h = back-taken v w loan known lent x r (subst (λ (n : Name). IsReturned w x n r) same h)

-- one slice of the oldest lendable track
pub slice-taken : (v w x : Posted) (loan : Loan) (name : Name) (r : Back) → name ≡ loan.name → IsKnown w → IsLent v w 0 loan → oldest_lendable v ≡ Some loan.name → IsReturned w x name r → RunsSlice v x
slice-taken v w x loan name r same known lent oldest h = slice-run v w loan known lent x r oldest (subst (λ (n : Name). IsReturned w x n r) same h)
