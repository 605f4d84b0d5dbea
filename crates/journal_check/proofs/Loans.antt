-- The names of the tracks that are out, and how an entry changes the list of them.
use Rattle.std.proofs.Common.{◌≡◌, ℕ, zero, suc, ◌<◌, Bool, true, false, if◌then◌else◌, List, [], ◌∷◌, ◌++◌, Some, None, length, get_or, All, refl, sym, ap, ◌∙◌, subst, arith}
use Rattle.std.proofs.lemmas.List.Elements.{All-append}
use Rattle.speculation.specs.declared.tracks.Name.{Name}
use Rattle.speculation.specs.declared.tracks.OpenLoan.{OpenLoan}
use Rattle.speculation.specs.declared.history.Entry.{Entry}
use Rattle.speculation.specs.declared.history.Entry.TheVariants.{Lend, Back, Gone, Discard}
use Rattle.speculation.specs.Core.{opening, name_eq, is_named, find_loan}
use Rattle.speculation.specs.Effects.{drop_loans}
use Rattle.speculation.specs.Events.{end_loan, core_run}
use Rattle.speculation.specs.Loans.{loans_by}
use Rattle.speculation_law.proofs.Names.{name_eq-refl}
use Rattle.speculation_law.proofs.Fates.{event-loans}
use Rattle.track_board.specs.declared.loan.Loan.{Loan}
use Rattle.track_board.specs.Value.{Posted, GuestCore, IsSettings, IsKnown, machine_of, start_state, core_of, posted}
use Rattle.track_board.specs.Loans.{IsLoan, IsLent}
use Rattle.track_board.proofs.Foundation.{core-legal, legal-known}
use Rattle.track_board.proofs.Lents.{All-remove}
use Rattle.track_board.proofs.Others.{lent-out}
use Rattle.journal_check.specs.Replays.{names_of, lent_names, without, IsTakenOut, IsAsLent, AreOut, IsFresh}
use Rattle.journal_check.proofs.Staying.{posted-event, as_lent-stays}

-- ---- names

found-by : (n : Name) (x : OpenLoan) (ls : List OpenLoan) (t : Bool) → (if t then true else is_named n (lent_names ls)) ≡ true
    → (is_named n (lent_names ls) ≡ true → (l : OpenLoan) × (find_loan n ls ≡ Some l)) → (l : OpenLoan) × ((if t then Some x else find_loan n ls) ≡ Some l)
found-by n x ls true h rest = (x, refl)
found-by n x ls false h rest = rest h

-- a name of a loan has a loan
pub named-found : (n : Name) (ls : List OpenLoan) → is_named n (lent_names ls) ≡ true → (l : OpenLoan) × (find_loan n ls ≡ Some l)
named-found n [] h = absurd (cc)
named-found n (x ∷ ls) h = found-by n x ls (name_eq n x.name) h (named-found n ls)

named-by : (n : Name) (x l : OpenLoan) (ls : List OpenLoan) (t : Bool) → (if t then Some x else find_loan n ls) ≡ Some l → (find_loan n ls ≡ Some l → is_named n (lent_names ls) ≡ true)
    → (if t then true else is_named n (lent_names ls)) ≡ true
named-by n x l ls true h rest = refl
named-by n x l ls false h rest = rest h

pub found-named : (n : Name) (l : OpenLoan) (ls : List OpenLoan) → find_loan n ls ≡ Some l → is_named n (lent_names ls) ≡ true
found-named n l [] h = absurd (cc)
found-named n l (x ∷ ls) h = named-by n x l ls (name_eq n x.name) h (found-named n l ls)

or-true : (t u : Bool) → u ≡ true → (if t then true else u) ≡ true
or-true true u h = refl
or-true false u h = h

own-named : (out : List Loan) (k : ℕ) (d : Loan) → k < length out → is_named (get_or out k d).name (names_of out) ≡ true
own-named [] k d below = absurd (omega arith)
own-named (x ∷ out) zero d below = ap (λ (t : Bool). if t then true else is_named x.name (names_of out)) (name_eq-refl x.name)
own-named (x ∷ out) (suc k) d below = or-true (name_eq (get_or out k d).name x.name) (is_named (get_or out k d).name (names_of out)) (own-named out k d (omega arith))

names-dropped : (row : ℕ) (ls : List OpenLoan) → lent_names (drop_loans row ls) ≡ lent_names ls
names-dropped row [] = refl
names-dropped row (l ∷ ls) = ap (λ (ns : List Name). l.name ∷ ns) (names-dropped row ls)

ended-names : (n : Name) (x : OpenLoan) (ls : List OpenLoan) (t : Bool) → lent_names (end_loan n ls) ≡ without n (lent_names ls)
    → lent_names (if t then ls else x ∷ end_loan n ls) ≡ (if t then lent_names ls else x.name ∷ without n (lent_names ls))
ended-names n x ls true rest = refl
ended-names n x ls false rest = ap (λ (ns : List Name). x.name ∷ ns) rest

names-ended : (n : Name) (ls : List OpenLoan) → lent_names (end_loan n ls) ≡ without n (lent_names ls)
names-ended n [] = refl
names-ended n (x ∷ ls) = ended-names n x ls (name_eq n x.name) (names-ended n ls)

names-added : (ls : List OpenLoan) (x : OpenLoan) → lent_names (ls ++ (x ∷ [])) ≡ lent_names ls ++ (x.name ∷ [])
names-added [] x = refl
names-added (l ∷ ls) x = ap (λ (ns : List Name). l.name ∷ ns) (names-added ls x)

names-pushed : (out : List Loan) (x : Loan) → names_of (out ++ (x ∷ [])) ≡ names_of out ++ (x.name ∷ [])
names-pushed [] x = refl
names-pushed (l ∷ out) x = ap (λ (ns : List Name). l.name ∷ ns) (names-pushed out x)

-- the entry neither begins a loan nor ends one
abbrev pub KeepsLoans : Entry → Type 0
KeepsLoans (Lend seat n) = ⊥
KeepsLoans (Back n count) = ⊥
KeepsLoans (Gone n) = ⊥
KeepsLoans _ = Unit {0}

names-kept : (ls : List OpenLoan) (x : Entry) → KeepsLoans x → lent_names (loans_by ls x) ≡ lent_names ls
names-kept ls (Lend seat n) h = absurd h
names-kept ls (Back n count) h = absurd h
names-kept ls (Gone n) h = absurd h
names-kept ls (Discard row) h = names-dropped row ls
names-kept ls x h = refl

-- ---- the tracks that are out

-- each of them is lent
pub out-lent : (v : Posted) (out : List Loan) → AreOut v out → (k : ℕ) (d : Loan) → k < length out → IsLoan v (get_or out k d).name
out-lent v out h k d below =
    named-found (get_or out k d).name (core_of v).loans (subst (λ (ns : List Name). is_named (get_or out k d).name ns ≡ true) h.names (own-named out k d below))

All-one : {X : Type 0} (P : X → Type 0) (x : X) → P x → All P (x ∷ [])
All-one P x p zero d below = p
All-one P x p (suc k) d below = absurd (omega arith)

module _ (v w : Posted) (x : Entry) (known : IsKnown v) (after : IsKnown w) (is : w ≡ posted v x) (out : List Loan) (h : AreOut v out) where
  each-stays : All (IsAsLent w) out
  each-stays k d below = as_lent-stays v w x known after is (get_or out k d) (out-lent v out h k d below) (h.each k d below)

  loans-now : (core_of w).loans ≡ loans_by (core_of v).loans x
  loans-now = event-loans (machine_of v) v.settings (core_of v) (core_of w) x (posted-event v w x known after is)

  -- no loan begins or ends
  pub out-kept : KeepsLoans x → AreOut w out
  out-kept keeps = record {
    names = h.names ∙ sym (names-kept (core_of v).loans x keeps) ∙ sym (ap lent_names loans-now);
    each = each-stays;
  }

  -- the loan of this name ends
  pub out-ended : (n : Name) (loan : Loan) (left : List Loan) → loans_by (core_of v).loans x ≡ end_loan n (core_of v).loans → IsTakenOut out left n loan → AreOut w left
  out-ended n loan left ends taken = record {
    names = taken.names ∙ ap (without n) h.names ∙ sym (names-ended n (core_of v).loans) ∙ sym (ap lent_names (loans-now ∙ ends));
    each = subst (λ (ls : List Loan). All (IsAsLent w) ls) (sym taken.rest) (All-remove (IsAsLent w) out taken.place each-stays);
  }

-- a loan begins
pub out-added : (v w : Posted) (seat : ℕ) (loan : Loan) (out more : List Loan) → IsKnown v → IsKnown w → IsLent v w seat loan → more ≡ out ++ (loan ∷ []) → AreOut v out → AreOut w more
out-added v w seat loan out more known after lent items h =
    let is_out = lent-out v w seat loan lent in
    let open_loan : OpenLoan = record { seat = seat; name = loan.name; dropped = None } in
    record {
      names =
          ap names_of items ∙ names-pushed out loan ∙ ap (λ (ns : List Name). ns ++ (loan.name ∷ [])) h.names ∙ sym (names-added (core_of v).loans open_loan)
          ∙ sym (ap lent_names (loans-now v w (Lend seat loan.name) known after lent.entry out h));
      each = subst (λ (ls : List Loan). All (IsAsLent w) ls) (sym items)
          (All-append (IsAsLent w) out (loan ∷ []) (each-stays v w (Lend seat loan.name) known after lent.entry out h)
          (All-one (IsAsLent w) loan (record { input = is_out.input; runs = is_out.runs; live = is_out.live })));
    }

-- nothing is out of a board on which nothing has happened, and nothing was released
fresh-core : (v : Posted) → v.entries ≡ [] → core_of v ≡ opening (start_state v)
unfolding core_run
fresh-core v h = core-legal v (opening (start_state v)) (ap (core_run (machine_of v) v.settings (Some (opening (start_state v)))) h)

pub fresh-following : (v : Posted) (out : List Loan) → IsFresh v → out ≡ [] → AreOut v out × (0 ≡ length (core_of v).released)
fresh-following v out h none = (
  record {
    names = ap names_of none ∙ sym (ap (λ (c : GuestCore). lent_names c.loans) (fresh-core v h.nothing));
    each = subst (λ (ls : List Loan). All (IsAsLent v) ls) (sym none) (λ k d below. absurd (omega arith));
  },
  sym (ap (λ (c : GuestCore). length c.released) (fresh-core v h.nothing)),
)

pub fresh-board : (v : Posted) → IsSettings v.settings → v.entries ≡ [] → IsFresh v
unfolding core_run
fresh-board v limits h = record {
  known = legal-known v (opening (start_state v)) limits (ap (core_run (machine_of v) v.settings (Some (opening (start_state v)))) h);
  nothing = h;
}
