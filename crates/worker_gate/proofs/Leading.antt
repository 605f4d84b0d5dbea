-- The conductor's turns: what they release, and how many loans seat 0 has behind them.
use Rattle.std.proofs.Common.{◌≡◌, ℕ, ◌-◌, ◌<◌, ◌≤◌, Bool, true, false, if◌then◌else◌, is_some, ◌||◌, List, [], ◌∷◌, ◌++◌, length, Option, Some, None, Result, Ok, Err, refl, sym, ap, ◌∙◌, subst, append_assoc, append-nil, arith}
use Rattle.speculation.specs.declared.tracks.Name.{Name}
use Rattle.speculation.specs.declared.tracks.OpenLoan.{OpenLoan}
use Rattle.speculation.specs.declared.history.Entry.{Entry}
use Rattle.speculation.specs.declared.history.Entry.TheVariants.{Lend, Back, Gone, Release, Halt}
use Rattle.speculation.specs.Run.{Mark, marks_upto}
use Rattle.speculation.specs.Core.{over, verified, front_home, front}
use Rattle.speculation.specs.Events.{released_by}
use Rattle.speculation.specs.Loans.{owner_of, IsForeign, loans_after}
use Rattle.speculation_law.proofs.SerialRounds.{verified-released}
use Rattle.region_ledger.specs.declared.finished.Finished.{Finished}
use Rattle.track_board.specs.declared.outcome.Outcome.{Outcome}
use Rattle.track_board.specs.Value.{Posted, GuestCore, IsKnown, machine_of, core_of, posted}
use Rattle.track_board.specs.Settles.{Settles, verified_of, released_with, finish_of}
use Rattle.track_board.specs.Others.{OthersAct, extended}
use Rattle.track_board.proofs.Others.{others-settle, others-release, others-none}
use Rattle.serial_run.specs.Quiet.{IsQuiet, AreQuiet}
use Rattle.serial_run.specs.Rounds.{TakesVerified, SettlesSome}
use Rattle.serial_run.proofs.Releases.{quiet-append}
use Rattle.serial_run.proofs.OnRounds.{ExtendsQuietly, extends-known, quiet-released, released-extends, release-is, release-released}
use Rattle.worker_gate.specs.declared.kinds.Round.{Round}
use Rattle.worker_gate.specs.declared.kinds.Round.TheVariants as R
use Rattle.worker_gate.specs.declared.releases.Verified.{Verified}
use Rattle.worker_gate.specs.declared.releases.Closed.{Closed}
use Rattle.worker_gate.specs.Seats.{BoardPass, seen_of, is_seat, own_entries, own_loans, seat_count, Goes, Halts, ActsAlone}
use Rattle.worker_gate.specs.Rounds.{Ends, HaltsInRound, HaltedFirst, HaltedByLoss, HaltedLast, RoundIs}
use Rattle.worker_gate.specs.Conducting.{Hands, HandsOut, IsClosed, Takes, Closes}
use Rattle.worker_gate.specs.Histories.{SeatsBelow}
use Rattle.worker_gate.proofs.Going.{goes-foreign}
use Rattle.worker_gate.proofs.OwnLoans.{goes-loans, loans-append}
use Rattle.worker_gate.proofs.OnActs.{alone-then, alone-settle}
use Rattle.worker_gate.proofs.OnTurns.{IsTurn, others-before, left-seen, seats-left}

-- ---- only seat 0 releases

quiet-tail : (t : Bool) (x : Entry) (ys : List Entry) → AreQuiet (if t then x ∷ ys else ys) → AreQuiet ys
quiet-tail true x ys h = h.1
quiet-tail false x ys h = h

all-quiet : (before xs : List Entry) → AreQuiet (own_entries 0 before xs) → AreQuiet xs
all-quiet before [] h = tt
all-quiet before (Release bytes ∷ xs) h = absurd h.0
all-quiet before (x ∷ xs) h = (tt, all-quiet (before ++ (x ∷ [])) xs (quiet-tail (is_seat 0 (owner_of before x)) x _ h))

goes-quiet : (own : List Entry) (v w : Posted) → AreQuiet own → Goes 0 own v w → ExtendsQuietly v w
goes-quiet own v w quiet h = record { more = h.rest; quiet = all-quiet v.entries h.rest (subst AreQuiet (sym h.own_is) quiet); now = h.is }

halts-quiet : (own : List Entry) (last : Entry) (v w : Posted) → AreQuiet own → IsQuiet last → Halts 0 own last v w → ExtendsQuietly v w
halts-quiet own last v w quiet calm h =
    let first = goes-quiet own v h.before quiet h.goes in
    record {
      more = first.more ++ (last ∷ []);
      quiet = quiet-append first.more (last ∷ []) first.quiet (calm, tt);
      now = h.is ∙ ap (λ (x : Posted). posted x last) first.now ∙ ap (λ (zs : List Entry). record v { entries = zs }) (append_assoc v.entries first.more (last ∷ []));
    }

pub ends-quiet : (n : Name) (x : Entry) → Ends n x → IsQuiet x
ends-quiet n (Back k count) h = tt
ends-quiet n (Gone k) h = tt
ends-quiet n (Release count) h = absurd h
ends-quiet n x h = tt

halting-quiet : (v w : Posted) → HaltsInRound 0 v w → ExtendsQuietly v w
halting-quiet v w (HaltedFirst h) = halts-quiet [] (Halt 0) v w tt tt h
halting-quiet v w (HaltedByLoss n h) = halts-quiet (Lend 0 n ∷ []) (Gone n) v w (tt, tt) tt h
halting-quiet v w (HaltedLast n end ends h) = halts-quiet (Lend 0 n ∷ (end ∷ [])) (Halt 0) v w (tt, (ends-quiet n end ends, tt)) tt h

round-quiet : (v w : Posted) (r : Round) → RoundIs 0 v w r → ExtendsQuietly v w
round-quiet v w R.Worked h = goes-quiet (Lend 0 h.name ∷ (h.end ∷ [])) v w (tt, (ends-quiet h.name h.end h.ends, tt)) h.goes
round-quiet v w R.Idle h = goes-quiet [] v w tt h.0
round-quiet v w R.Over h = goes-quiet [] v w tt h.0
round-quiet v w R.NoMemory h = halting-quiet v w h

-- a round of seat 0 releases nothing
pub round-released : (v w : Posted) (r : Round) → RoundIs 0 v w r → IsKnown w → (core_of w).released ≡ (core_of v).released
round-released v w r h known = quiet-released v w (round-quiet v w r h) known

-- ---- handing out

-- one entry behind which the loans are as before
loans-one : (before : List Entry) (x : Entry) → ((ls : List OpenLoan) → seat_count 0 (loans_after ls (x ∷ [])) ≡ seat_count 0 ls) → own_loans 0 (before ++ (x ∷ [])) ≡ own_loans 0 before
loans-one before x h = ap (seat_count 0) (loans-append [] before (x ∷ [])) ∙ h (loans_after [] before)

others-loans : (v w : Posted) → OthersAct 0 v w → own_loans 0 w.entries ≡ own_loans 0 v.entries
others-loans v w h = (let all = goes-loans 0 [] v w (goes-foreign 0 v w h) in omega arith)

others-quiet : (v w : Posted) → OthersAct 0 v w → ExtendsQuietly v w
others-quiet v w h = goes-quiet [] v w tt (goes-foreign 0 v w h)

-- others acted
pub hands-others : (v w : Posted) → OthersAct 0 v w → IsKnown w → Hands [] v w
hands-others v w h known =
    let quiet = others-quiet v w h in
    record { rest = quiet.more; is = quiet.now; loans = others-loans v w h; released = quiet-released v w quiet known ∙ sym (append-nil (core_of v).released) }

pub hands-then : (xs ys : List Mark) (u v w : Posted) → Hands xs u v → Hands ys v w → Hands (xs ++ ys) u w
hands-then xs ys u v w a b = record {
  rest = a.rest ++ b.rest;
  is = b.is ∙ ap (λ (x : Posted). extended x b.rest) a.is ∙ ap (λ (zs : List Entry). record u { entries = zs }) (append_assoc u.entries a.rest b.rest);
  loans = b.loans ∙ a.loans;
  released = b.released ∙ ap (λ (ms : List Mark). ms ++ ys) a.released ∙ append_assoc (core_of u).released xs ys;
}

hands-known : (xs : List Mark) (v w : Posted) → Hands xs v w → IsKnown w → IsKnown v
hands-known xs v w h known = extends-known v w (record { more = h.rest; now = h.is }) known

-- others acted before
pub hands-after : (xs : List Mark) (u v w : Posted) → OthersAct 0 u v → Hands xs v w → IsKnown w → Hands xs u w
hands-after xs u v w a b known = hands-then [] xs u v w (hands-others u v a (hands-known xs v w b known)) b

-- the verified bytes are handed out
pub hands-released : (v w : Posted) (bytes : List Mark) → bytes ≡ verified_of v → w ≡ released_with v bytes → IsKnown w → Hands bytes v w
hands-released v w [] is now known = hands-others v w (others-none 0 v w now) known
hands-released v w (m ∷ ms) is now known =
    let after : IsKnown (released_with v (m ∷ ms)) = subst IsKnown now known in
    let before : IsKnown v = extends-known v (released_with v (m ∷ ms)) (released-extends v (m ∷ ms)) after in
    record {
      rest = Release (length (m ∷ ms)) ∷ [];
      is = now;
      loans = ap (λ (x : Posted). own_loans 0 x.entries) now ∙ loans-one v.entries (Release (length (m ∷ ms))) (λ ls. refl);
      released = ap (λ (x : Posted). (core_of x).released) now ∙ release-released v m ms is before after;
    }

settles-hands : (n : ℕ) (v w : Posted) → Settles n v w → IsKnown w → Hands [] v w
settles-hands n v w h known = hands-others v w (others-settle 0 n v w h) known

pub hands-taken : (v w : Posted) (bytes : List Mark) → TakesVerified v w bytes → IsKnown w → Hands bytes v w
hands-taken v w bytes h known =
    let second = hands-released h.settled w bytes h.verified h.now known in
    hands-then [] bytes v h.settled w (settles-hands h.events v h.settled h.settles (hands-known bytes h.settled w second known)) second

halted-hands_by : (v w : Posted) (t : Bool) → w ≡ (if t then v else posted v (Halt 0)) → IsKnown w → Hands [] v w
halted-hands_by v w true h known = hands-others v w (others-none 0 v w h) known
halted-hands_by v w false h known =
    record {
      rest = Halt 0 ∷ [];
      is = h;
      loans = ap (λ (x : Posted). own_loans 0 x.entries) h ∙ loans-one v.entries (Halt 0) (λ ls. refl);
      released = quiet-released v w (record { more = Halt 0 ∷ []; quiet = (tt, tt); now = h }) known ∙ sym (append-nil (core_of v).released);
    }

-- the board is halted
pub hands-halted : (v w : Posted) → w ≡ (if over (core_of v) then v else posted v (Halt 0)) → IsKnown w → Hands [] v w
hands-halted v w h known = halted-hands_by v w (over (core_of v)) h known

-- there was no memory for all that is due
pub hands-gave_up : (v u w : Posted) → SettlesSome v u → w ≡ (if over (core_of u) then u else posted u (Halt 0)) → IsKnown w → Hands [] v w
hands-gave_up v u w some h known =
    let halted = hands-halted u w h known in
    hands-then [] [] v u w (settles-hands some.0 v u some.1 (hands-known [] u w halted known)) halted

-- what was handed out is lost
pub takes-none : {F : Type 0} (bytes : List Mark) (v u w : Posted) (fault : F) → Hands bytes v u → w ≡ (if over (core_of u) then u else posted u (Halt 0)) → IsKnown w → Takes v w (Err fault)
takes-none bytes v u w fault hands h known = (bytes ++ [], hands-then bytes [] v u w hands (hands-halted u w h known))

-- ---- the seat alone

pub alone-released : (v w : Posted) (bytes : List Mark) → w ≡ released_with v bytes → ActsAlone 0 v w
alone-released v w bytes h other differ = others-release other v w bytes differ h

pub alone-taken : (v w : Posted) (bytes : List Mark) → TakesVerified v w bytes → ActsAlone 0 v w
alone-taken v w bytes h = alone-then 0 v h.settled w (alone-settle 0 h.events v h.settled h.settles) (alone-released h.settled w bytes h.now)

-- ---- nothing verified is left

module _ (c : GuestCore) (v : Posted) where
  verified-away : (bytes : List Mark) → front_home c ≡ false → verified v.settings (released_by false (v.settings.budget - c.base) c bytes) ≡ []
  unfolding verified
  verified-away bytes away = ap (λ t. if t then marks_upto (v.settings.budget - c.base) (front c).held else []) away

  verified-by : (t : Bool) (bytes : List Mark) → front_home c ≡ t → verified v.settings (released_by t (v.settings.budget - c.base) c bytes) ≡ []
  verified-by true bytes home = verified-released (machine_of v) v.settings c bytes
  verified-by false bytes away = verified-away bytes away

pub none-left : (v w : Posted) (bytes : List Mark) → bytes ≡ verified_of v → w ≡ released_with v bytes → IsKnown w → verified_of w ≡ []
none-left v w [] is now known = ap verified_of now ∙ sym is
none-left v w (m ∷ ms) is now known =
    let after : IsKnown (released_with v (m ∷ ms)) = subst IsKnown now known in
    let before : IsKnown v = extends-known v (released_with v (m ∷ ms)) (released-extends v (m ∷ ms)) after in
    ap verified_of now ∙ ap (λ (c : GuestCore). verified v.settings c) (sym (release-is v m ms is before after))
    ∙ verified-by (core_of v) v (front_home (core_of v)) (verified_of v) refl

-- ---- the last turn

is_some-over : (o : Option Finished) (c : GuestCore) → finish_of o ≡ c.finish → is_some o ≡ true → over c ≡ true
is_some-over None c is some = absurd (cc)
is_some-over (Some f) c is some = ap (λ t. is_some t || c.halted) (sym is)

pub closed-over : (w : Posted) (o : Outcome) → IsClosed w o → over (core_of w) ≡ true
closed-over w o h = is_some-over o.finished (core_of w) h.outcome.finish h.finished

pub takes-closes : {F : Type 0} (most : ℕ) (u v w : Posted) (r : Result Closed F) → OthersAct 0 u v → SeatsBelow most w.entries → Takes v w r → IsKnown w → Closes most u w r
takes-closes most u v w (Ok got) others seats h known = (hands-after got.bytes u v w others h.0 known, h.1, seats)
takes-closes most u v w (Err f) others seats h known = (h.0, hands-after h.0 u v w others h.1 known)

pub hands-out-after : {F : Type 0} (u v w : Posted) (r : Result Verified F) → OthersAct 0 u v → HandsOut v w r → IsKnown w → HandsOut u w r
hands-out-after u v w (Ok got) others h known = (hands-after got.bytes u v w others h.0 known, h.1)
hands-out-after u v w (Err f) others h known = (hands-after [] u v w others h.0 known, h.1)

-- ---- the seats of loans

not-le : (a b : ℕ) → (a ≤ b → ⊥) → b < a
not-le a b h = omega (arith, h)

pub below-seats : (most : ℕ) (before xs : List Entry) → ((seat : ℕ) → most ≤ seat → IsForeign seat before xs) → SeatsBelow most xs
below-seats most before [] h = tt
below-seats most before (Lend seat n ∷ xs) h = (not-le most seat (λ le. (h seat le).0 refl), below-seats most (before ++ (Lend seat n ∷ [])) xs (λ k le. (h k le).1))
below-seats most before (x ∷ xs) h = below-seats most (before ++ (x ∷ [])) xs (λ k le. (h k le).1)

-- ---- a turn of the conductor

module _ (p e q : BoardPass) (x v w : Posted) (turn : IsTurn p e 0 x v w) (left : q ≡ record e { seen = w.entries; in_turn = false }) (known : IsKnown w) where
  others-first : OthersAct 0 (seen_of p) v
  others-first = subst (λ k. OthersAct k (seen_of p) v) (sym turn.own) (others-before p e q 0 x v w turn)

  now : seen_of q ≡ w
  now = left-seen p e q 0 x v w turn left

  -- what was released is released, seen from the pass
  pub turn-releases : {F : Type 0} (r : Result Verified F) → HandsOut v w r → HandsOut (seen_of p) (seen_of q) r
  turn-releases r h = subst (λ (y : Posted). HandsOut (seen_of p) y r) (sym now) (hands-out-after (seen_of p) v w r others-first h known)

  pub turn-halts : w ≡ (if over (core_of v) then v else posted v (Halt 0)) → Hands [] (seen_of p) (seen_of q)
  turn-halts h = subst (λ (y : Posted). Hands [] (seen_of p) y) (sym now) (hands-after [] (seen_of p) v w others-first (hands-halted v w h known) known)

  pub turn-over : over (core_of w) ≡ true → over (core_of (seen_of q)) ≡ true
  turn-over h = subst (λ (y : Posted). over (core_of y) ≡ true) (sym now) h

  pub turn-closes : {F : Type 0} (r : Result Closed F) → 1 ≤ p.stock → Takes v w r → Closes p.stock (seen_of p) (seen_of q) r
  turn-closes r some h =
      let below : p.seat < p.stock = (let zero : 0 ≡ p.seat = turn.own in omega arith) in
      subst (λ (y : Posted). Closes p.stock (seen_of p) y r) (sym now)
      (takes-closes p.stock (seen_of p) v w r others-first (below-seats p.stock [] w.entries (seats-left p e 0 x v w turn below)) h known)
