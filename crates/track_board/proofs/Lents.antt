-- The loan of a name, in the list that a board keeps.
use Rattle.std.proofs.Common.{◌≡◌, ℕ, zero, suc, ◌+◌, ◌<◌, ◌≤◌, Bool, true, false, not, ◌&&◌, if◌then◌else◌, cond, nat_lt, List, [], ◌∷◌, length, take, drop, Some, None, is_none, slice_get, refl, sym, ap, ◌∙◌, subst, ltb-true, arith}
use Rattle.std.specs.List.{All, position, position_or_len, remove}
use Rattle.std.proofs.lemmas.Bool.{ltb-false, le-ltb}
use Rattle.std.proofs.lemmas.List.Elements.{All-take, All-drop, All-append}
use Rattle.speculation.specs.declared.tracks.Name.{Name}
use Rattle.speculation.specs.declared.tracks.OpenLoan.{OpenLoan}
use Rattle.speculation.specs.Core.{name_eq, is_lent, find_loan}
use Rattle.speculation.specs.Events.{end_loan}
use Rattle.track_board.specs.Parts.{core_loan, core_loans}
use Rattle.track_board.specs.declared.loan.Lent.{Lent}

pub All-remove : {X : Type 0} (P : X → Type 0) (xs : List X) (i : ℕ) → All P xs → All P (remove xs i)
All-remove P xs i h = All-append P (take i xs) (drop (suc i) xs) (All-take P i xs h) (All-drop P (suc i) xs h)

pub All-at : {X : Type 0} (P : X → Type 0) (xs : List X) (i : ℕ) (x : X) → slice_get xs i ≡ Some x → All P xs → P x
All-at P [] i x h all = absurd (cc)
All-at P (y ∷ ys) zero x h all = subst P (let same : y ≡ x = cc in same) (all 0 y (omega arith))
All-at P (y ∷ ys) (suc i) x h all = All-at P ys i x h (λ k d below. all (suc k) d (omega arith))

-- ---- the place of a name

one-more : (k : ℕ) → 1 + k ≡ suc k
one-more k = omega arith

module _ (n : Name) where
  abbrev pub is_of : Lent → Bool
  is_of l = name_eq n l.name

  -- the loan at this place is the first one of the name
  pub record LentAt (xs : List Lent) (i : ℕ) (l : Lent) : Type 0 where
    pub at : slice_get xs i ≡ Some l
    pub found : find_loan n (core_loans xs) ≡ Some (core_loan l)
    pub ended : core_loans (remove xs i) ≡ end_loan n (core_loans xs)

  lent-first : (x : Lent) (xs : List Lent) → name_eq n x.name ≡ true → LentAt (x ∷ xs) 0 x
  lent-first x xs is = record {
    at = refl;
    found = ap (λ (t : Bool). if t then Some (core_loan x) else find_loan n (core_loans xs)) is;
    ended = sym (ap (λ (t : Bool). if t then core_loans xs else core_loan x ∷ end_loan n (core_loans xs)) is);
  }

  lent-later : (x : Lent) (xs : List Lent) (i : ℕ) (l : Lent) → name_eq n x.name ≡ false → LentAt xs i l → LentAt (x ∷ xs) (suc i) l
  lent-later x xs i l is h = record {
    at = h.at;
    found = ap (λ (t : Bool). if t then Some (core_loan x) else find_loan n (core_loans xs)) is ∙ h.found;
    ended = ap (λ ys. core_loan x ∷ ys) h.ended ∙ sym (ap (λ (t : Bool). if t then core_loans xs else core_loan x ∷ end_loan n (core_loans xs)) is);
  }

  abbrev pub SomeLent : List Lent → ℕ → Type 0
  SomeLent xs i = (l : Lent) × LentAt xs i l

  lent-at : (xs : List Lent) → position_or_len is_of xs < length xs → SomeLent xs (position_or_len is_of xs)
  lent-at [] below = absurd (omega arith)
  lent-at (x ∷ xs) below = at-by (name_eq n x.name) refl (lent-at xs)
    where
      at-by : (t : Bool) → name_eq n x.name ≡ t → (position_or_len is_of xs < length xs → SomeLent xs (position_or_len is_of xs)) → SomeLent (x ∷ xs) (position_or_len is_of (x ∷ xs))
      at-by true is more =
          let first : position_or_len is_of (x ∷ xs) ≡ 0 = ap (λ (t : Bool). cond (not t) (1 + position_or_len is_of xs) 0) is in
          subst (λ i. SomeLent (x ∷ xs) i) (sym first) (x, lent-first x xs is)
      at-by false is more =
          let later : position_or_len is_of (x ∷ xs) ≡ suc (position_or_len is_of xs) = ap (λ (t : Bool). cond (not t) (1 + position_or_len is_of xs) 0) is ∙ one-more (position_or_len is_of xs) in
          let rest = more (let le : position_or_len is_of (x ∷ xs) < suc (length xs) = below in omega arith) in
          subst (λ i. SomeLent (x ∷ xs) i) (sym later) (rest.0, lent-later x xs (position_or_len is_of xs) rest.0 is rest.1)

  lent-none : (xs : List Lent) → nat_lt (position_or_len is_of xs) (length xs) ≡ false → find_loan n (core_loans xs) ≡ None
  lent-none [] h = refl
  lent-none (x ∷ xs) h = none-by (name_eq n x.name) refl (lent-none xs)
    where
      none-by : (t : Bool) → name_eq n x.name ≡ t → (nat_lt (position_or_len is_of xs) (length xs) ≡ false → find_loan n (core_loans xs) ≡ None) → find_loan n (core_loans (x ∷ xs)) ≡ None
      none-by true is more =
          absurd (let first : position_or_len is_of (x ∷ xs) ≡ 0 = ap (λ (t : Bool). cond (not t) (1 + position_or_len is_of xs) 0) is in
          let past : suc (length xs) ≤ position_or_len is_of (x ∷ xs) = ltb-false (position_or_len is_of (x ∷ xs)) (suc (length xs)) h in omega arith)
      none-by false is more =
          let later : position_or_len is_of (x ∷ xs) ≡ suc (position_or_len is_of xs) = ap (λ (t : Bool). cond (not t) (1 + position_or_len is_of xs) 0) is ∙ one-more (position_or_len is_of xs) in
          let past : suc (length xs) ≤ suc (position_or_len is_of xs) = ltb-false (suc (position_or_len is_of xs)) (suc (length xs)) (ap (λ i. nat_lt i (suc (length xs))) (sym later) ∙ h) in
          let rest : nat_lt (position_or_len is_of xs) (length xs) ≡ false = le-ltb (position_or_len is_of xs) (length xs) (omega arith) in
          ap (λ (t : Bool). if t then Some (core_loan x) else find_loan n (core_loans xs)) is ∙ more rest

  position_by : (xs : List Lent) (i : ℕ) (t : Bool) → nat_lt (position_or_len is_of xs) (length xs) ≡ t → cond t (Some (position_or_len is_of xs)) None ≡ Some i → SomeLent xs i
  position_by xs i true is h = (let same : position_or_len is_of xs ≡ i = cc in subst (λ k. SomeLent xs k) same (lent-at xs (ltb-true (position_or_len is_of xs) (length xs) is)))
  position_by xs i false is h = absurd (cc)

  -- the loan at the place that was found
  pub position-lent : (xs : List Lent) (i : ℕ) → position is_of xs ≡ Some i → (l : Lent) × LentAt xs i l
  position-lent xs i h = position_by xs i (nat_lt (position_or_len is_of xs) (length xs)) refl h

  missing-by : (xs : List Lent) (t : Bool) → nat_lt (position_or_len is_of xs) (length xs) ≡ t → cond t (Some (position_or_len is_of xs)) None ≡ None → find_loan n (core_loans xs) ≡ None
  missing-by xs true is h = absurd (cc)
  missing-by xs false is h = lent-none xs is

  -- where none was found
  pub position-missing : (xs : List Lent) → position is_of xs ≡ None → find_loan n (core_loans xs) ≡ None
  position-missing xs h = missing-by xs (nat_lt (position_or_len is_of xs) (length xs)) refl h

-- ---- what is lent after a loan ended

-- a loan that ended counts for no name but its own, and not where it was dropped
pub is_lent-ended : (x n : Name) (l : OpenLoan) (ls : List OpenLoan) → find_loan n ls ≡ Some l → (name_eq x l.name && is_none l.dropped) ≡ false → is_lent x (end_loan n ls) ≡ is_lent x ls
is_lent-ended x n l [] found apart = absurd (cc)
is_lent-ended x n l (y ∷ ls) found apart = ended-by (name_eq n y.name) found (λ more. is_lent-ended x n l ls more apart)
  where
    ended-by : (t : Bool) → (if t then Some y else find_loan n ls) ≡ Some l → (find_loan n ls ≡ Some l → is_lent x (end_loan n ls) ≡ is_lent x ls)
        → is_lent x (if t then ls else y ∷ end_loan n ls) ≡ is_lent x (y ∷ ls)
    ended-by true here rest =
        let same : y ≡ l = cc in
        let passes : (name_eq x y.name && is_none y.dropped) ≡ false = subst (λ (k : OpenLoan). (name_eq x k.name && is_none k.dropped) ≡ false) (sym same) apart in
        sym (ap (λ (t : Bool). if t then true else is_lent x ls) passes)
    ended-by false here rest = ap (λ (t : Bool). if (name_eq x y.name && is_none y.dropped) then true else t) (rest here)
