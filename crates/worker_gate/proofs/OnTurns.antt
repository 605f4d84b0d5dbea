-- A turn: what the pass had seen, the board that it entered to, and the board that it left.
use Rattle.std.proofs.Common.{◌≡◌, ◌≢◌, ℕ, suc, true, false, List, [], ◌∷◌, ◌++◌, Result, Ok, Err, ◌<◌, ◌≤◌, append_assoc, append-nil, sym, ap, ap₂, ◌∙◌, subst, arith}
use Rattle.std.proofs.lemmas.List.{append_cancel_left}
use Rattle.speculation.specs.declared.tracks.Name.{Name}
use Rattle.speculation.specs.declared.history.Entry.{Entry}
use Rattle.speculation.specs.Loans.{owner_of, IsForeign}
use Rattle.board_lock.specs.Entries.{Foreign}
use Rattle.board_lock.specs.Passes.{ExtendsPass, MayLeave}
use Rattle.track_board.specs.declared.kept.Program.{Program}
use Rattle.track_board.specs.declared.loan.Loan.{Loan}
use Rattle.track_board.specs.Value.{Posted, IsKnown}
use Rattle.track_board.specs.Loans.{IsLoanOf}
use Rattle.track_board.specs.Owners.{program_of, posted_by}
use Rattle.track_board.specs.Others.{OthersAct, MayComeHome}
use Rattle.track_board.proofs.Others.{home-stays, lent-stays}
use Rattle.worker_gate.specs.declared.acts.Found.{Found}
use Rattle.worker_gate.specs.declared.acts.Found.TheVariants as F
use Rattle.worker_gate.specs.Seats.{BoardPass, seen_of, ActsAlone}
use Rattle.worker_gate.specs.Rounds.{FoundIs, EndIs, HaltsEnding, HaltedByEnd, HaltedAfterEnd}
use Rattle.worker_gate.proofs.Going.{goes-after, halts-after}

foreign-entries : (seat : ℕ) (before rest : List Entry) → Foreign owner_of seat before rest → IsForeign seat before rest
foreign-entries seat before [] h = tt
foreign-entries seat before (x ∷ rest) h = (h.0, foreign-entries seat (before ++ (x ∷ [])) rest h.1)

entries-foreign : (seat : ℕ) (before rest : List Entry) → IsForeign seat before rest → Foreign owner_of seat before rest
entries-foreign seat before [] h = tt
entries-foreign seat before (x ∷ rest) h = (h.0, entries-foreign seat (before ++ (x ∷ [])) rest h.1)

module _ (p : BoardPass) (v : Posted) (extends : ExtendsPass program_of (λ (b : Posted). b.entries) owner_of p v) where
  -- others had acted when the pass entered
  pub turn-others : OthersAct p.seat (seen_of p) v
  turn-others = record {
    rest = extends.seen_first.0;
    is = ap₂ posted_by extends.fixed_part extends.seen_first.1;
    foreign = foreign-entries p.seat p.seen extends.seen_first.0 extends.seen_first.2;
  }

  module _ (w : Posted) (alone : ActsAlone p.seat v w) where
    abbrev next-seat : p.seat ≢ suc p.seat
    next-seat same = absurd (omega arith)

    abbrev rest : List Entry
    rest = (alone (suc p.seat) next-seat).rest

    turn-program : program_of w ≡ p.fixed
    turn-program = ap program_of (alone (suc p.seat) next-seat).is ∙ extends.fixed_part

    turn-entries : w.entries ≡ v.entries ++ rest
    turn-entries = ap (λ (b : Posted). b.entries) (alone (suc p.seat) next-seat).is

    -- the board may be left
    pub turn-leaves : MayLeave program_of (λ (b : Posted). b.entries) owner_of (record p { seen = v.entries; in_turn = true }) w
    turn-leaves = record {
      fixed_part = turn-program;
      appends = (
        rest,
        turn-entries,
        λ other differ. (
            let mine = alone other (λ same. differ (sym same)) in
            let same : mine.rest ≡ rest = append_cancel_left v.entries mine.rest rest (sym (ap (λ (b : Posted). b.entries) mine.is) ∙ turn-entries) in
            entries-foreign other v.entries rest (subst (λ (xs : List Entry). IsForeign other v.entries xs) same mine.foreign)),
      );
    }

    -- and is what the pass has seen then
    pub turn-seen : seen_of (record p { seen = w.entries }) ≡ w
    turn-seen = ap (λ (f : Program). posted_by f w.entries) (sym turn-program)

-- A turn as its calls tell it: the pass before and while it has the turn, its seat number, the value that it got the turn
-- with and lends out, and that value when it leaves.
pub record IsTurn (p e : BoardPass) (seat : ℕ) (x v w : Posted) : Type 0 where
  pub own : seat ≡ p.seat
  pub entered : e ≡ record p { seen = x.entries; in_turn = true }
  pub extends : ExtendsPass program_of (λ (b : Posted). b.entries) owner_of p x
  pub lent : v ≡ x
  pub alone : ActsAlone seat v w

module _ (p e q : BoardPass) (seat : ℕ) (x v w : Posted) (turn : IsTurn p e seat x v w) where
  alone-there : ActsAlone p.seat x w
  alone-there = subst (λ k. ActsAlone k x w) turn.own (subst (λ (y : Posted). ActsAlone seat y w) turn.lent turn.alone)

  -- the board may be left
  pub may-leave : MayLeave program_of (λ (b : Posted). b.entries) owner_of e w
  may-leave = subst (λ (r : BoardPass). MayLeave program_of (λ (b : Posted). b.entries) owner_of r w) (sym turn.entered) (turn-leaves p x turn.extends w alone-there)

  -- others had acted when the pass entered
  pub others-before : OthersAct p.seat (seen_of p) v
  others-before = subst (λ (y : Posted). OthersAct p.seat (seen_of p) y) (sym turn.lent) (turn-others p x turn.extends)

  -- what the pass has seen then is the board that it left
  pub left-seen : q ≡ record e { seen = w.entries; in_turn = false } → seen_of q ≡ w
  left-seen left = ap seen_of left ∙ ap (λ (r : BoardPass). seen_of (record r { seen = w.entries })) turn.entered ∙ turn-seen p x turn.extends w alone-there

-- ---- others acted before

pub found-after : (seat : ℕ) (u v w : Posted) (r : Found) → OthersAct seat u v → FoundIs seat v w r → FoundIs seat u w r
found-after seat u v w (F.Lent loan) a h = (goes-after seat _ u v w a h.0, h.1)
found-after seat u v w F.Nothing a h = (goes-after seat _ u v w a h.0, h.1)
found-after seat u v w F.Over a h = (goes-after seat _ u v w a h.0, h.1)
found-after seat u v w F.NoMemory a h = halts-after seat _ _ u v w a h

ending-after : (seat : ℕ) (n : Name) (u v w : Posted) → OthersAct seat u v → HaltsEnding seat n v w → HaltsEnding seat n u w
ending-after seat n u v w a (HaltedByEnd h) = HaltedByEnd (halts-after seat _ _ u v w a h)
ending-after seat n u v w a (HaltedAfterEnd end ends h) = HaltedAfterEnd end ends (halts-after seat _ _ u v w a h)

pub end-after : {T G : Type 0} (seat : ℕ) (n : Name) (u v w : Posted) (r : Result T G) → OthersAct seat u v → EndIs seat n v w r → EndIs seat n u w r
end-after seat n u v w (Ok t) a h = record { end = h.end; ends = h.ends; goes = goes-after seat _ u v w a h.goes }
end-after seat n u v w (Err f) a h = ending-after seat n u v w a h

-- ---- what a turn comes to

module _ (p e q : BoardPass) (seat : ℕ) (x v w : Posted) (turn : IsTurn p e seat x v w) (left : q ≡ record e { seen = w.entries; in_turn = false }) where
  -- a fact of the board that was left is one of what the pass has seen
  pub known-left : IsKnown w → IsKnown (seen_of q)
  known-left known = subst IsKnown (sym (left-seen p e q seat x v w turn left)) known

  pub found-left : (r : Found) → FoundIs seat v w r → FoundIs p.seat (seen_of p) (seen_of q) r
  found-left r h =
      found-after p.seat (seen_of p) v (seen_of q) r (others-before p e q seat x v w turn)
      (subst (λ (y : Posted). FoundIs p.seat v y r) (sym (left-seen p e q seat x v w turn left)) (subst (λ k. FoundIs k v w r) turn.own h))

  pub end-left : {T G : Type 0} (n : Name) (r : Result T G) → EndIs seat n v w r → EndIs p.seat n (seen_of p) (seen_of q) r
  end-left n r h =
      end-after p.seat n (seen_of p) v (seen_of q) r (others-before p e q seat x v w turn)
      (subst (λ (y : Posted). EndIs p.seat n v y r) (sym (left-seen p e q seat x v w turn left)) (subst (λ k. EndIs k n v w r) turn.own h))

foreign-append : (seat : ℕ) (before xs ys : List Entry) → IsForeign seat before xs → IsForeign seat (before ++ xs) ys → IsForeign seat before (xs ++ ys)
foreign-append seat before [] ys h g = subst (λ zs. IsForeign seat zs ys) (append-nil before) g
foreign-append seat before (x ∷ xs) ys h g =
    (h.0, foreign-append seat (before ++ (x ∷ [])) xs ys h.1 (subst (λ zs. IsForeign seat zs ys) (sym (append_assoc before (x ∷ []) xs)) g))

-- no entry belongs to a seat that the pass still has to give
pub seats-left : (p e : BoardPass) (seat : ℕ) (x v w : Posted) → IsTurn p e seat x v w → p.seat < p.stock → (k : ℕ) → p.stock ≤ k → IsForeign k [] w.entries
seats-left p e seat x v w turn below k le =
    let mine = alone-there p e e seat x v w turn k (λ same. absurd (omega (arith, same))) in
    subst (λ (y : Posted). IsForeign k [] y.entries) (sym mine.is)
    (foreign-append k [] x.entries mine.rest (foreign-entries k [] x.entries (turn.extends.stock_free k le)) mine.foreign)

-- what may come home, and what is lent, when the pass has the turn
module _ (p : BoardPass) (seat : ℕ) (x v : Posted) (own : seat ≡ p.seat) (extends : ExtendsPass program_of (λ (b : Posted). b.entries) owner_of p x) (lent : v ≡ x)
    (known : IsKnown (seen_of p)) (after : IsKnown v) where
  others-there : OthersAct p.seat (seen_of p) v
  others-there = subst (λ (y : Posted). OthersAct p.seat (seen_of p) y) (sym lent) (turn-others p x extends)

  pub home-there : (loan : Loan) → MayComeHome (seen_of p) p.seat loan → MayComeHome v seat loan
  home-there loan h = subst (λ k. MayComeHome v k loan) (sym own) (home-stays (seen_of p) v p.seat loan known after others-there h)

  pub lent-there : (n : Name) → IsLoanOf (seen_of p) p.seat n → IsLoanOf v seat n
  lent-there n h = subst (λ k. IsLoanOf v k n) (sym own) (lent-stays (seen_of p) v p.seat n known after others-there h)
