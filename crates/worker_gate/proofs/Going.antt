-- How a board goes on by the entries of one seat among others: steps of it, one after another.
use Rattle.std.proofs.Common.{◌≡◌, ◌≢◌, ℕ, Bool, true, false, if◌then◌else◌, ne_eqb, eq-eqb, List, [], ◌∷◌, ◌++◌, Option, Some, None, refl, sym, ap, ◌∙◌, subst, append_assoc, append-nil}
use Rattle.std.proofs.lemmas.Option.{same_Some}
use Rattle.speculation.specs.declared.history.Entry.{Entry}
use Rattle.speculation.specs.Core.{over}
use Rattle.speculation.specs.Loans.{owner_of, IsForeign}
use Rattle.track_board.specs.declared.kept.Program.{Program}
use Rattle.track_board.specs.Value.{Posted, core_of, posted}
use Rattle.track_board.specs.Owners.{program_of}
use Rattle.track_board.specs.Others.{OthersAct, extended}
use Rattle.worker_gate.specs.Seats.{is_seat, own_entries, HaltsAt, HaltsNothing, Goes, Halts}

-- ---- own entries

own-step : (t : Bool) (x : Entry) (xs bs cs : List Entry) → xs ≡ bs ++ cs → (if t then x ∷ xs else xs) ≡ (if t then x ∷ bs else bs) ++ cs
own-step true x xs bs cs e = ap (λ (zs : List Entry). x ∷ zs) e
own-step false x xs bs cs e = e

pub own-append : (seat : ℕ) (before xs ys : List Entry) → own_entries seat before (xs ++ ys) ≡ own_entries seat before xs ++ own_entries seat (before ++ xs) ys
own-append seat before [] ys = ap (λ zs. own_entries seat zs ys) (sym (append-nil before))
own-append seat before (x ∷ xs) ys =
    own-step (is_seat seat (owner_of before x)) x _ _ _
    (own-append seat (before ++ (x ∷ [])) xs ys ∙ ap (λ zs. own_entries seat (before ++ (x ∷ [])) xs ++ own_entries seat zs ys) (append_assoc before (x ∷ []) xs))

pub seat-other : (seat : ℕ) (o : Option ℕ) → o ≢ Some seat → is_seat seat o ≡ false
seat-other seat None h = refl
seat-other seat (Some k) h = ne_eqb k seat (λ e. h (ap Some e))

pub seat-own : (seat : ℕ) (o : Option ℕ) → o ≡ Some seat → is_seat seat o ≡ true
seat-own seat None h = absurd (cc)
seat-own seat (Some k) h = eq-eqb k seat (same_Some k seat h)

own-foreign : (seat : ℕ) (before xs : List Entry) → IsForeign seat before xs → own_entries seat before xs ≡ []
own-foreign seat before [] h = refl
own-foreign seat before (x ∷ xs) h =
    ap (λ t. if t then x ∷ own_entries seat (before ++ (x ∷ [])) xs else own_entries seat (before ++ (x ∷ [])) xs) (seat-other seat (owner_of before x) h.0)
    ∙ own-foreign seat (before ++ (x ∷ [])) xs h.1

pub own-one : (seat : ℕ) (before : List Entry) (x : Entry) → owner_of before x ≡ Some seat → own_entries seat before (x ∷ []) ≡ x ∷ []
own-one seat before x h = ap (λ t. if t then x ∷ [] else []) (seat-own seat (owner_of before x) h)

-- ---- entries that halt nothing

halts-append : (seat : ℕ) (p : Program) (before xs ys : List Entry) → HaltsNothing seat p before xs → HaltsNothing seat p (before ++ xs) ys → HaltsNothing seat p before (xs ++ ys)
halts-append seat p before [] ys h k = subst (λ zs. HaltsNothing seat p zs ys) (append-nil before) k
halts-append seat p before (x ∷ xs) ys h k =
    (h.0, halts-append seat p (before ++ (x ∷ [])) xs ys h.1 (subst (λ zs. HaltsNothing seat p zs ys) (sym (append_assoc before (x ∷ []) xs)) k))

halts-foreign : (seat : ℕ) (p : Program) (before xs : List Entry) → IsForeign seat before xs → HaltsNothing seat p before xs
halts-foreign seat p before [] h = tt
halts-foreign seat p before (x ∷ xs) h = ((λ own at. h.0 own), halts-foreign seat p (before ++ (x ∷ [])) xs h.1)

-- ---- going on

-- only others acted
pub goes-foreign : (seat : ℕ) (v w : Posted) → OthersAct seat v w → Goes seat [] v w
goes-foreign seat v w h = record {
  rest = h.rest;
  is = h.is;
  own_is = own-foreign seat v.entries h.rest h.foreign;
  halts_nothing = halts-foreign seat (program_of v) v.entries h.rest h.foreign;
}

-- one entry of the seat
pub goes-one : (seat : ℕ) (v w : Posted) (x : Entry) → w ≡ posted v x → owner_of v.entries x ≡ Some seat → (HaltsAt v x → ⊥) → Goes seat (x ∷ []) v w
goes-one seat v w x is owner calm = record {
  rest = x ∷ [];
  is = is;
  own_is = own-one seat v.entries x owner;
  halts_nothing = ((λ own at. calm at), tt);
}

pub goes-then : (seat : ℕ) (xs ys : List Entry) (u v w : Posted) → Goes seat xs u v → Goes seat ys v w → Goes seat (xs ++ ys) u w
goes-then seat xs ys u v w a b =
    let own : own_entries seat (u.entries ++ a.rest) b.rest ≡ ys = subst (λ (x : Posted). own_entries seat x.entries b.rest ≡ ys) a.is b.own_is in
    let calm : HaltsNothing seat (program_of u) (u.entries ++ a.rest) b.rest = subst (λ (x : Posted). HaltsNothing seat (program_of x) x.entries b.rest) a.is b.halts_nothing in
    record {
      rest = a.rest ++ b.rest;
      is = b.is ∙ ap (λ (x : Posted). extended x b.rest) a.is ∙ ap (λ (zs : List Entry). record u { entries = zs }) (append_assoc u.entries a.rest b.rest);
      own_is = own-append seat u.entries a.rest b.rest ∙ ap (λ zs. zs ++ own_entries seat (u.entries ++ a.rest) b.rest) a.own_is ∙ ap (λ zs. xs ++ zs) own;
      halts_nothing = halts-append seat (program_of u) u.entries a.rest b.rest a.halts_nothing calm;
    }

-- others acted before
pub goes-after : (seat : ℕ) (own : List Entry) (u v w : Posted) → OthersAct seat u v → Goes seat own v w → Goes seat own u w
goes-after seat own u v w a b = goes-then seat [] own u v w (goes-foreign seat u v a) b

-- ---- until the seat halts the board

pub halts-one : (seat : ℕ) (v w : Posted) (x : Entry) → Goes seat [] v v → owner_of v.entries x ≡ Some seat → HaltsAt v x → w ≡ posted v x → over (core_of w) ≡ true → Halts seat [] x v w
halts-one seat v w x none owner at is ended = record { before = v; goes = none; owner = owner; halts = at; is = is; over = ended }

pub halts-then : (seat : ℕ) (xs ys : List Entry) (last : Entry) (u v w : Posted) → Goes seat xs u v → Halts seat ys last v w → Halts seat (xs ++ ys) last u w
halts-then seat xs ys last u v w a b = record {
  before = b.before;
  goes = goes-then seat xs ys u v b.before a b.goes;
  owner = b.owner;
  halts = b.halts;
  is = b.is;
  over = b.over;
}

-- others acted before
pub halts-after : (seat : ℕ) (own : List Entry) (last : Entry) (u v w : Posted) → OthersAct seat u v → Halts seat own last v w → Halts seat own last u w
halts-after seat own last u v w a b = halts-then seat [] own last u v w (goes-foreign seat u v a) b
