-- How many loans a seat has, by its own entries: each Lend of its is one more, and each end of a loan of its one less.
use Rattle.std.proofs.Common.{◌≡◌, ℕ, suc, ◌+◌, Bool, true, false, if◌then◌else◌, nat_eq, List, [], ◌∷◌, ◌++◌, Some, None, refl, ap, ◌∙◌, append_assoc, append-nil, arith}
use Rattle.speculation.specs.declared.tracks.Name.{Name}
use Rattle.speculation.specs.declared.tracks.OpenLoan.{OpenLoan}
use Rattle.speculation.specs.declared.history.Entry.{Entry}
use Rattle.speculation.specs.declared.history.Entry.TheVariants.{Lend, Back, Gone, Fork, Cross, Keep, Discard, Release, Finish, Halt}
use Rattle.speculation.specs.Core.{find_loan, name_eq}
use Rattle.speculation.specs.Effects.{drop_loans}
use Rattle.speculation.specs.Events.{end_loan}
use Rattle.speculation.specs.Loans.{loans_after, loans_by, owner_of, seat_of}
use Rattle.track_board.specs.Value.{Posted}
use Rattle.worker_gate.specs.Seats.{one_of, seat_count, own_loans, is_seat, own_entries, Goes, Halts}
use Rattle.worker_gate.specs.declared.kinds.Round.{Round}
use Rattle.worker_gate.specs.declared.kinds.Round.TheVariants as R
use Rattle.worker_gate.specs.Rounds.{Ends, HaltsInRound, HaltedFirst, HaltedByLoss, HaltedLast, RoundIs}
use Rattle.worker_gate.proofs.Going.{own-append, own-one}

-- how many of these entries lend a track, and how many end a loan
abbrev pub lends_of : List Entry → ℕ
lends_of [] = 0
lends_of (Lend seat n ∷ xs) = suc (lends_of xs)
lends_of (x ∷ xs) = lends_of xs

abbrev pub ends_of : List Entry → ℕ
ends_of [] = 0
ends_of (Back n count ∷ xs) = suc (ends_of xs)
ends_of (Gone n ∷ xs) = suc (ends_of xs)
ends_of (x ∷ xs) = ends_of xs

-- ---- counting

lends-append : (xs ys : List Entry) → lends_of (xs ++ ys) ≡ lends_of xs + lends_of ys
lends-append [] ys = omega arith
lends-append (Lend seat n ∷ xs) ys = (let rest = lends-append xs ys in omega arith)
lends-append (x ∷ xs) ys = (let rest = lends-append xs ys in omega arith)

ends-append : (xs ys : List Entry) → ends_of (xs ++ ys) ≡ ends_of xs + ends_of ys
ends-append [] ys = omega arith
ends-append (Back n count ∷ xs) ys = (let rest = ends-append xs ys in omega arith)
ends-append (Gone n ∷ xs) ys = (let rest = ends-append xs ys in omega arith)
ends-append (x ∷ xs) ys = (let rest = ends-append xs ys in omega arith)

count-append : (seat : ℕ) (ls : List OpenLoan) (l : OpenLoan) → seat_count seat (ls ++ (l ∷ [])) ≡ seat_count seat ls + one_of seat l
count-append seat [] l = omega arith
count-append seat (k ∷ ls) l = (let rest = count-append seat ls l in omega arith)

count-drop : (seat row : ℕ) (ls : List OpenLoan) → seat_count seat (drop_loans row ls) ≡ seat_count seat ls
count-drop seat row [] = refl
count-drop seat row (l ∷ ls) = ap (λ k. one_of seat l + k) (count-drop seat row ls)

-- as a number to add up
abbrev bit : Bool → ℕ
bit true = 1
bit false = 0

bit-if : (t : Bool) → (if t then 1 else 0) ≡ bit t
bit-if true = refl
bit-if false = refl

-- the loan of a name ends
count-end_by : (seat : ℕ) (n : Name) (l : OpenLoan) (ls : List OpenLoan) (t : Bool) → seat_count seat (end_loan n ls) + bit (is_seat seat (seat_of (find_loan n ls))) ≡ seat_count seat ls
    → seat_count seat (if t then ls else l ∷ end_loan n ls) + bit (is_seat seat (seat_of (if t then Some l else find_loan n ls))) ≡ one_of seat l + seat_count seat ls
count-end_by seat n l ls true rest = (let one = bit-if (nat_eq l.seat seat) in omega arith)
count-end_by seat n l ls false rest = omega arith

count-end : (seat : ℕ) (n : Name) (ls : List OpenLoan) → seat_count seat (end_loan n ls) + bit (is_seat seat (seat_of (find_loan n ls))) ≡ seat_count seat ls
count-end seat n [] = refl
count-end seat n (l ∷ ls) = count-end_by seat n l ls (name_eq n l.name) (count-end seat n ls)

-- ---- one entry

lends-if : (t : Bool) (x : Entry) → lends_of (if t then x ∷ [] else []) ≡ (if t then lends_of (x ∷ []) else 0)
lends-if true x = refl
lends-if false x = refl

ends-if : (t : Bool) (x : Entry) → ends_of (if t then x ∷ [] else []) ≡ (if t then ends_of (x ∷ []) else 0)
ends-if true x = refl
ends-if false x = refl

none-if : (t : Bool) (k : ℕ) → (if t then k else k) ≡ k
none-if true k = refl
none-if false k = refl

-- what an entry does to the count, by the loans before it and whether it is the seat's
abbrev Balances : ℕ → List OpenLoan → Entry → Bool → Type 0
Balances seat ls x own = seat_count seat (loans_by ls x) + ends_of (if own then x ∷ [] else []) ≡ seat_count seat ls + lends_of (if own then x ∷ [] else [])

module _ (seat : ℕ) (ls : List OpenLoan) where
  balance-lend : (k : ℕ) (n : Name) → Balances seat ls (Lend k n) (nat_eq k seat)
  balance-lend k n =
      let l : OpenLoan = record { seat = k; name = n; dropped = None } in
      let more = count-append seat ls l in
      let a = lends-if (nat_eq k seat) (Lend k n) in
      let b = ends-if (nat_eq k seat) (Lend k n) in
      let none = none-if (nat_eq k seat) 0 in
      omega arith

  balance-back : (n : Name) (count : ℕ) → Balances seat ls (Back n count) (is_seat seat (seat_of (find_loan n ls)))
  balance-back n count =
      let t = is_seat seat (seat_of (find_loan n ls)) in
      let less = count-end seat n ls in
      let a = lends-if t (Back n count) in
      let b = ends-if t (Back n count) in
      let one = bit-if t in
      let none = none-if t 0 in
      omega arith

  balance-gone : (n : Name) → Balances seat ls (Gone n) (is_seat seat (seat_of (find_loan n ls)))
  balance-gone n =
      let t = is_seat seat (seat_of (find_loan n ls)) in
      let less = count-end seat n ls in
      let a = lends-if t (Gone n) in
      let b = ends-if t (Gone n) in
      let one = bit-if t in
      let none = none-if t 0 in
      omega arith

  balance-halt : (t : Bool) (k : ℕ) → Balances seat ls (Halt k) t
  balance-halt true k = refl
  balance-halt false k = refl

  balance-release : (t : Bool) (bytes : ℕ) → Balances seat ls (Release bytes) t
  balance-release true bytes = refl
  balance-release false bytes = refl

pub loans-append : (ls : List OpenLoan) (xs ys : List Entry) → loans_after ls (xs ++ ys) ≡ loans_after (loans_after ls xs) ys
loans-append ls [] ys = refl
loans-append ls (x ∷ xs) ys = loans-append (loans_by ls x) xs ys

balance-entry : (seat : ℕ) (before : List Entry) (x : Entry) → Balances seat (loans_after [] before) x (is_seat seat (owner_of before x))
balance-entry seat before (Lend k n) = balance-lend seat (loans_after [] before) k n
balance-entry seat before (Back n count) = balance-back seat (loans_after [] before) n count
balance-entry seat before (Gone n) = balance-gone seat (loans_after [] before) n
balance-entry seat before (Discard row) = ap (λ k. k + 0) (count-drop seat row (loans_after [] before))
balance-entry seat before (Release bytes) = balance-release seat (loans_after [] before) (nat_eq 0 seat) bytes
balance-entry seat before (Halt k) = balance-halt seat (loans_after [] before) (nat_eq k seat) k
balance-entry seat before (Fork n) = refl
balance-entry seat before (Cross n) = refl
balance-entry seat before (Keep row) = refl
balance-entry seat before Finish = refl

-- ---- all of them

pub balance : (seat : ℕ) (before rest : List Entry) → own_loans seat (before ++ rest) + ends_of (own_entries seat before rest) ≡ own_loans seat before + lends_of (own_entries seat before rest)
balance seat before [] = ap (λ xs. own_loans seat xs + 0) (append-nil before)
balance seat before (x ∷ xs) =
    let here : own_loans seat (before ++ (x ∷ [])) + ends_of (own_entries seat before (x ∷ [])) ≡ own_loans seat before + lends_of (own_entries seat before (x ∷ [])) =
    ap (λ ls. seat_count seat ls + ends_of (own_entries seat before (x ∷ []))) (loans-append [] before (x ∷ [])) ∙ balance-entry seat before x in
    let rest = balance seat (before ++ (x ∷ [])) xs in
    let both = own-append seat before (x ∷ []) xs in
    let lends = ap lends_of both ∙ lends-append (own_entries seat before (x ∷ [])) (own_entries seat (before ++ (x ∷ [])) xs) in
    let ends = ap ends_of both ∙ ends-append (own_entries seat before (x ∷ [])) (own_entries seat (before ++ (x ∷ [])) xs) in
    let all = ap (own_loans seat) (append_assoc before (x ∷ []) xs) in
    omega arith

-- the count of a board that went on
pub goes-loans : (seat : ℕ) (own : List Entry) (v w : Posted) → Goes seat own v w → own_loans seat w.entries + ends_of own ≡ own_loans seat v.entries + lends_of own
goes-loans seat own v w h =
    let all = balance seat v.entries h.rest in
    let entries = ap (λ (x : Posted). own_loans seat x.entries) h.is in
    let ends = ap ends_of h.own_is in
    let lends = ap lends_of h.own_is in
    omega arith

pub halts-loans : (seat : ℕ) (own : List Entry) (last : Entry) (v w : Posted) → Halts seat own last v w → own_loans seat w.entries + ends_of (own ++ (last ∷ [])) ≡ own_loans seat v.entries + lends_of (own ++ (last ∷ []))
halts-loans seat own last v w h =
    let first = goes-loans seat own v h.before h.goes in
    let one = balance seat h.before.entries (last ∷ []) in
    let mine = own-one seat h.before.entries last h.owner in
    let entries = ap (λ (x : Posted). own_loans seat x.entries) h.is in
    let ends = ap ends_of mine in
    let lends = ap lends_of mine in
    let more = ends-append own (last ∷ []) in
    let both = lends-append own (last ∷ []) in
    omega arith

-- ---- a round

ends-one : (n : Name) (x : Entry) → Ends n x → ends_of (x ∷ []) ≡ suc (lends_of (x ∷ []))
ends-one n (Back k count) h = refl
ends-one n (Gone k) h = refl
ends-one n x h = absurd h

halting-none : (seat : ℕ) (v w : Posted) → own_loans seat v.entries ≡ 0 → HaltsInRound seat v w → own_loans seat w.entries ≡ 0
halting-none seat v w none (HaltedFirst h) = (let all = halts-loans seat [] (Halt seat) v w h in omega arith)
halting-none seat v w none (HaltedByLoss n h) = (let all = halts-loans seat (Lend seat n ∷ []) (Gone n) v w h in omega arith)
halting-none seat v w none (HaltedLast n end ends h) =
    let all = halts-loans seat (Lend seat n ∷ (end ∷ [])) (Halt seat) v w h in
    let one = ends-one n end ends in
    let more = ends-append (end ∷ []) (Halt seat ∷ []) in
    let both = lends-append (end ∷ []) (Halt seat ∷ []) in
    omega arith

-- a seat that had no loan has none after a round
pub round-none : (seat : ℕ) (v w : Posted) (r : Round) → own_loans seat v.entries ≡ 0 → RoundIs seat v w r → own_loans seat w.entries ≡ 0
round-none seat v w R.Worked none h =
    let all = goes-loans seat (Lend seat h.name ∷ (h.end ∷ [])) v w h.goes in
    let one = ends-one h.name h.end h.ends in
    omega arith
round-none seat v w R.Idle none h = (let all = goes-loans seat [] v w h.0 in omega arith)
round-none seat v w R.Over none h = (let all = goes-loans seat [] v w h.0 in omega arith)
round-none seat v w R.NoMemory none h = halting-none seat v w none h
