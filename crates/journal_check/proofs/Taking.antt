-- The first loan of a name in a list of loans.
use Rattle.std.proofs.Common.{◌≡◌, ℕ, zero, suc, ◌+◌, ◌<◌, ◌≤◌, Bool, true, false, not, if◌then◌else◌, cond, nat_lt, List, [], ◌∷◌, length, Some, None, slice_get, get_or, refl, sym, ap, ◌∙◌, subst, ltb-true, arith}
use Rattle.std.specs.List.{position, position_or_len, remove}
use Rattle.std.proofs.lemmas.Bool.{ltb-false, le-ltb}
use Rattle.std.proofs.lemmas.Option.{same_Some}
use Rattle.speculation.specs.declared.tracks.Name.{Name}
use Rattle.speculation.specs.Core.{name_eq, is_named}
use Rattle.speculation_law.proofs.Names.{name_eq-true}
use Rattle.track_board.specs.declared.loan.Loan.{Loan}
use Rattle.journal_check.specs.Replays.{names_of, without, IsTakenOut}

one-more : (k : ℕ) → 1 + k ≡ suc k
one-more k = omega arith

module _ (n : Name) where
  abbrev is_of : Loan → Bool
  is_of l = name_eq n l.name

  -- the loan at this place is the first one of the name
  record FirstAt (xs : List Loan) (i : ℕ) (l : Loan) : Type 0 where
    at : slice_get xs i ≡ Some l
    named : name_eq n l.name ≡ true
    names : names_of (remove xs i) ≡ without n (names_of xs)

  first-here : (x : Loan) (xs : List Loan) → name_eq n x.name ≡ true → FirstAt (x ∷ xs) 0 x
  first-here x xs is = record {
    at = refl;
    named = is;
    names = sym (ap (λ (t : Bool). if t then names_of xs else x.name ∷ without n (names_of xs)) is);
  }

  first-later : (x : Loan) (xs : List Loan) (i : ℕ) (l : Loan) → name_eq n x.name ≡ false → FirstAt xs i l → FirstAt (x ∷ xs) (suc i) l
  first-later x xs i l is h = record {
    at = h.at;
    named = h.named;
    names = ap (λ (ns : List Name). x.name ∷ ns) h.names ∙ sym (ap (λ (t : Bool). if t then names_of xs else x.name ∷ without n (names_of xs)) is);
  }

  abbrev SomeFirst : List Loan → ℕ → Type 0
  SomeFirst xs i = (l : Loan) × FirstAt xs i l

  first-at : (xs : List Loan) → position_or_len is_of xs < length xs → SomeFirst xs (position_or_len is_of xs)
  first-at [] below = absurd (omega arith)
  first-at (x ∷ xs) below = at-by (name_eq n x.name) refl (first-at xs)
    where
      at-by : (t : Bool) → name_eq n x.name ≡ t → (position_or_len is_of xs < length xs → SomeFirst xs (position_or_len is_of xs)) → SomeFirst (x ∷ xs) (position_or_len is_of (x ∷ xs))
      at-by true is more =
          let first : position_or_len is_of (x ∷ xs) ≡ 0 = ap (λ (t : Bool). cond (not t) (1 + position_or_len is_of xs) 0) is in
          subst (λ i. SomeFirst (x ∷ xs) i) (sym first) (x, first-here x xs is)
      at-by false is more =
          let later : position_or_len is_of (x ∷ xs) ≡ suc (position_or_len is_of xs) = ap (λ (t : Bool). cond (not t) (1 + position_or_len is_of xs) 0) is ∙ one-more (position_or_len is_of xs) in
          let rest = more (let le : position_or_len is_of (x ∷ xs) < suc (length xs) = below in omega arith) in
          subst (λ i. SomeFirst (x ∷ xs) i) (sym later) (rest.0, first-later x xs (position_or_len is_of xs) rest.0 is rest.1)

  none-named : (xs : List Loan) → nat_lt (position_or_len is_of xs) (length xs) ≡ false → is_named n (names_of xs) ≡ false
  none-named [] h = refl
  none-named (x ∷ xs) h = none-by (name_eq n x.name) refl (none-named xs)
    where
      none-by : (t : Bool) → name_eq n x.name ≡ t → (nat_lt (position_or_len is_of xs) (length xs) ≡ false → is_named n (names_of xs) ≡ false) → is_named n (names_of (x ∷ xs)) ≡ false
      none-by true is more =
          absurd (let first : position_or_len is_of (x ∷ xs) ≡ 0 = ap (λ (t : Bool). cond (not t) (1 + position_or_len is_of xs) 0) is in
          let past : suc (length xs) ≤ position_or_len is_of (x ∷ xs) = ltb-false (position_or_len is_of (x ∷ xs)) (suc (length xs)) h in omega arith)
      none-by false is more =
          let later : position_or_len is_of (x ∷ xs) ≡ suc (position_or_len is_of xs) = ap (λ (t : Bool). cond (not t) (1 + position_or_len is_of xs) 0) is ∙ one-more (position_or_len is_of xs) in
          let past : suc (length xs) ≤ suc (position_or_len is_of xs) = ltb-false (suc (position_or_len is_of xs)) (suc (length xs)) (ap (λ i. nat_lt i (suc (length xs))) (sym later) ∙ h) in
          let rest : nat_lt (position_or_len is_of xs) (length xs) ≡ false = le-ltb (position_or_len is_of xs) (length xs) (omega arith) in
          ap (λ (t : Bool). if t then true else is_named n (names_of xs)) is ∙ more rest

  first-by : (xs : List Loan) (i : ℕ) (t : Bool) → nat_lt (position_or_len is_of xs) (length xs) ≡ t → cond t (Some (position_or_len is_of xs)) None ≡ Some i → SomeFirst xs i
  first-by xs i true is h = (let same : position_or_len is_of xs ≡ i = cc in subst (λ k. SomeFirst xs k) same (first-at xs (ltb-true (position_or_len is_of xs) (length xs) is)))
  first-by xs i false is h = absurd (cc)

  missing-by : (xs : List Loan) (t : Bool) → nat_lt (position_or_len is_of xs) (length xs) ≡ t → cond t (Some (position_or_len is_of xs)) None ≡ None → is_named n (names_of xs) ≡ false
  missing-by xs true is h = absurd (cc)
  missing-by xs false is h = none-named xs is

  -- where no place was found, no loan has the name
  pub place-missing : (xs : List Loan) → position (λ (l : Loan). name_eq n l.name) xs ≡ None → is_named n (names_of xs) ≡ false
  place-missing xs h = missing-by xs (nat_lt (position_or_len is_of xs) (length xs)) refl h

  -- what is removed at the place that was found
  pub place-taken : (xs ys : List Loan) (i : ℕ) (loan : Loan) → position (λ (l : Loan). name_eq n l.name) xs ≡ Some i → ys ≡ remove xs i → ((l : Loan) → slice_get xs i ≡ Some l → loan ≡ l) → IsTakenOut xs ys n loan
  place-taken xs ys i loan h rest removed =
      let found = first-by xs i (nat_lt (position_or_len is_of xs) (length xs)) refl h in
      let same : loan ≡ found.0 = removed found.0 found.1.at in
      record {
        place = i;
        at = found.1.at ∙ ap Some (sym same);
        rest = rest;
        names = ap names_of rest ∙ found.1.names;
        name = ap (λ (l : Loan). l.name) same ∙ sym (name_eq-true n found.0.name found.1.named);
      }

-- what `remove` answers
pub removed-at : (xs : List Loan) (i : ℕ) (loan : Loan) → loan ≡ get_or xs i loan → (l : Loan) → slice_get xs i ≡ Some l → loan ≡ l
removed-at [] i loan is l h = absurd (cc)
removed-at (x ∷ xs) zero loan is l h = is ∙ same_Some x l h
removed-at (x ∷ xs) (suc i) loan is l h = removed-at xs i loan is l h
