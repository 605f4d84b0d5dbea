-- The loan of a name, and how each event leaves it.
use Rattle.std.proofs.Common.{◌≡◌, ℕ, Bool, true, false, if◌then◌else◌, List, [], ◌∷◌, ◌++◌, Option, Some, None, refl, sym, ap, ◌∙◌, subst}
use Rattle.speculation.specs.declared.tracks.Name.{Name}
use Rattle.speculation.specs.declared.tracks.OpenLoan.{OpenLoan}
use Rattle.speculation.specs.Core.{name_eq, find_loan}
use Rattle.speculation.specs.Effects.{drop_loan, drop_loans}
use Rattle.speculation.specs.Events.{end_loan}
use Rattle.speculation_law.specs.Naming.{Distinct}
use Rattle.speculation_law.proofs.Names.{name_eq-true, name_eq-same, name_eq-refl}

found-first : (n : Name) (x : OpenLoan) (ls : List OpenLoan) (t : Bool) → name_eq n x.name ≡ t → t ≡ true → find_loan n (x ∷ ls) ≡ Some x
found-first n x ls t is h = ap (λ u. if u then Some x else find_loan n ls) (is ∙ h)

found-later : (n : Name) (x : OpenLoan) (ls : List OpenLoan) → name_eq n x.name ≡ false → find_loan n (x ∷ ls) ≡ find_loan n ls
found-later n x ls h = ap (λ u. if u then Some x else find_loan n ls) h

-- a loan that is found has the name
pub find_loan-name : (n : Name) (l : OpenLoan) (ls : List OpenLoan) → find_loan n ls ≡ Some l → n ≡ l.name
find_loan-name n l [] h = absurd (cc)
find_loan-name n l (x ∷ ls) h = name-by (name_eq n x.name) refl h (find_loan-name n l ls)
  where
    name-by : (t : Bool) → name_eq n x.name ≡ t → (if t then Some x else find_loan n ls) ≡ Some l → (find_loan n ls ≡ Some l → n ≡ l.name) → n ≡ l.name
    name-by true is h rest = name_eq-true n x.name is ∙ ap (λ (y : OpenLoan). y.name) (let same : x ≡ l = cc in same)
    name-by false is h rest = rest h

-- where a loan is added at the end
pub find_loan-append : (n : Name) (ls : List OpenLoan) (x l : OpenLoan) → find_loan n ls ≡ Some l → find_loan n (ls ++ (x ∷ [])) ≡ Some l
find_loan-append n [] x l h = absurd (cc)
find_loan-append n (y ∷ ls) x l h = append-by (name_eq n y.name) h (find_loan-append n ls x l)
  where
    append-by : (t : Bool) → (if t then Some y else find_loan n ls) ≡ Some l → (find_loan n ls ≡ Some l → find_loan n (ls ++ (x ∷ [])) ≡ Some l)
        → (if t then Some y else find_loan n (ls ++ (x ∷ []))) ≡ Some l
    append-by true h rest = h
    append-by false h rest = rest h

pub find_loan-new : (ls : List OpenLoan) (x : OpenLoan) → find_loan x.name ls ≡ None → find_loan x.name (ls ++ (x ∷ [])) ≡ Some x
find_loan-new [] x h = found-first x.name x [] (name_eq x.name x.name) refl (name_eq-refl x.name)
find_loan-new (y ∷ ls) x h = new-by (name_eq x.name y.name) h (find_loan-new ls x)
  where
    new-by : (t : Bool) → (if t then Some y else find_loan x.name ls) ≡ None → (find_loan x.name ls ≡ None → find_loan x.name (ls ++ (x ∷ [])) ≡ Some x)
        → (if t then Some y else find_loan x.name (ls ++ (x ∷ []))) ≡ Some x
    new-by true h rest = absurd (cc)
    new-by false h rest = rest h

-- a loan that is found after one was added
pub data FoundAppended (n : Name) (ls : List OpenLoan) (x l : OpenLoan) : Type 0 where
  Older : find_loan n ls ≡ Some l → FoundAppended n ls x l
  Newest : find_loan n ls ≡ None → n ≡ x.name → x ≡ l → FoundAppended n ls x l

pub find_loan-appended : (n : Name) (ls : List OpenLoan) (x l : OpenLoan) → find_loan n (ls ++ (x ∷ [])) ≡ Some l → FoundAppended n ls x l
find_loan-appended n [] x l h = only-by (name_eq n x.name) refl h
  where
    only-by : (t : Bool) → name_eq n x.name ≡ t → (if t then Some x else None) ≡ Some l → FoundAppended n [] x l
    only-by true is h = Newest refl (name_eq-true n x.name is) (cc)
    only-by false is h = absurd (cc)
find_loan-appended n (y ∷ ls) x l h = more-by (name_eq n y.name) refl h (find_loan-appended n ls x l)
  where
    shifted : name_eq n y.name ≡ false → FoundAppended n ls x l → FoundAppended n (y ∷ ls) x l
    shifted is (Older found) = Older (found-later n y ls is ∙ found)
    shifted is (Newest none name same) = Newest (found-later n y ls is ∙ none) name same

    more-by : (t : Bool) → name_eq n y.name ≡ t → (if t then Some y else find_loan n (ls ++ (x ∷ []))) ≡ Some l → (find_loan n (ls ++ (x ∷ [])) ≡ Some l → FoundAppended n ls x l)
        → FoundAppended n (y ∷ ls) x l
    more-by true is h rest = Older (ap (λ u. if u then Some y else find_loan n ls) is ∙ h)
    more-by false is h rest = shifted is (rest h)

-- where the loan of another name ended
pub find_loan-other : (n k : Name) (ls : List OpenLoan) → name_eq k n ≡ false → find_loan n (end_loan k ls) ≡ find_loan n ls
find_loan-other n k [] h = refl
find_loan-other n k (y ∷ ls) h = other-by (name_eq k y.name) refl (find_loan-other n k ls h)
  where
    apart : name_eq k y.name ≡ true → (t : Bool) → name_eq n y.name ≡ t → t ≡ false
    apart same true is = absurd (let one : k ≡ y.name = name_eq-true k y.name same in let two : n ≡ y.name = name_eq-true n y.name is in let both : name_eq k n ≡ true = name_eq-same k n (one ∙ sym two) in cc)
    apart same false is = refl

    other-by : (t : Bool) → name_eq k y.name ≡ t → find_loan n (end_loan k ls) ≡ find_loan n ls → find_loan n (if t then ls else y ∷ end_loan k ls) ≡ find_loan n (y ∷ ls)
    other-by true is rest = sym (found-later n y ls (apart is (name_eq n y.name) refl))
    other-by false is rest = ap (λ o. if name_eq n y.name then Some y else o) rest

-- where the loan of the name itself ended
pub find_loan-ended : (n : Name) (ls : List OpenLoan) → Distinct ls → find_loan n (end_loan n ls) ≡ None
find_loan-ended n [] h = refl
find_loan-ended n (y ∷ ls) h = ended-by (name_eq n y.name) refl (find_loan-ended n ls h.1)
  where
    ended-by : (t : Bool) → name_eq n y.name ≡ t → find_loan n (end_loan n ls) ≡ None → find_loan n (if t then ls else y ∷ end_loan n ls) ≡ None
    ended-by true is rest = subst (λ (k : Name). find_loan k ls ≡ None) (sym (name_eq-true n y.name is)) h.0
    ended-by false is rest = found-later n y (end_loan n ls) is ∙ rest

end-found_by : (n k : Name) (l : OpenLoan) (ls : List OpenLoan) (t : Bool) → name_eq k n ≡ t → Distinct ls → find_loan n (end_loan k ls) ≡ Some l → find_loan n ls ≡ Some l
end-found_by n k l ls true is h found =
    absurd (let same : k ≡ n = name_eq-true k n is in let none : find_loan n (end_loan k ls) ≡ None = ap (λ (x : Name). find_loan n (end_loan x ls)) same ∙ find_loan-ended n ls h in cc)
end-found_by n k l ls false is h found = sym (find_loan-other n k ls is) ∙ found

-- a loan that is found after another ended
pub find_loan-before : (n k : Name) (l : OpenLoan) (ls : List OpenLoan) → Distinct ls → find_loan n (end_loan k ls) ≡ Some l → find_loan n ls ≡ Some l
find_loan-before n k l ls h found = end-found_by n k l ls (name_eq k n) refl h found

none-end_by : (n k : Name) (ls : List OpenLoan) (t : Bool) → name_eq k n ≡ t → Distinct ls → find_loan n ls ≡ None → find_loan n (end_loan k ls) ≡ None
none-end_by n k ls true is d h = ap (λ (x : Name). find_loan n (end_loan x ls)) (name_eq-true k n is) ∙ find_loan-ended n ls d
none-end_by n k ls false is d h = find_loan-other n k ls is ∙ h

pub find_loan-none_end : (n k : Name) (ls : List OpenLoan) → Distinct ls → find_loan n ls ≡ None → find_loan n (end_loan k ls) ≡ None
find_loan-none_end n k ls d h = none-end_by n k ls (name_eq k n) refl d h

-- the loan of a name after all were dropped
pub dropped-option : ℕ → Option OpenLoan → Option OpenLoan
dropped-option row None = None
dropped-option row (Some l) = Some (drop_loan row l)

pub find_loan-dropped : (n : Name) (row : ℕ) (ls : List OpenLoan) → find_loan n (drop_loans row ls) ≡ dropped-option row (find_loan n ls)
unfolding dropped-option
find_loan-dropped n row [] = refl
find_loan-dropped n row (y ∷ ls) = dropped-at (name_eq n y.name) (find_loan-dropped n row ls)
  where
    dropped-at : (t : Bool) → find_loan n (drop_loans row ls) ≡ dropped-option row (find_loan n ls)
        → (if t then Some (drop_loan row y) else find_loan n (drop_loans row ls)) ≡ dropped-option row (if t then Some y else find_loan n ls)
    dropped-at true rest = refl
    dropped-at false rest = rest

-- a loan that is found after all were dropped
pub record FoundDropped (n : Name) (row : ℕ) (ls : List OpenLoan) (l : OpenLoan) : Type 0 where
  pub loan : OpenLoan
  pub found : find_loan n ls ≡ Some loan
  pub is : drop_loan row loan ≡ l

found-dropped_by : (n : Name) (row : ℕ) (ls : List OpenLoan) (l : OpenLoan) (o : Option OpenLoan) → find_loan n ls ≡ o → dropped-option row o ≡ Some l → FoundDropped n row ls l
unfolding dropped-option
found-dropped_by n row ls l None is h = absurd (cc)
found-dropped_by n row ls l (Some k) is h = record { loan = k; found = is; is = cc }

pub find_loan-was : (n : Name) (row : ℕ) (ls : List OpenLoan) (l : OpenLoan) → find_loan n (drop_loans row ls) ≡ Some l → FoundDropped n row ls l
find_loan-was n row ls l h = found-dropped_by n row ls l (find_loan n ls) refl (sym (find_loan-dropped n row ls) ∙ h)

pub find_loan-drop : (n : Name) (row : ℕ) (ls : List OpenLoan) (l : OpenLoan) → find_loan n ls ≡ Some l → find_loan n (drop_loans row ls) ≡ Some (drop_loan row l)
unfolding dropped-option
find_loan-drop n row ls l h = find_loan-dropped n row ls ∙ ap (dropped-option row) h

pub find_loan-none_drop : (n : Name) (row : ℕ) (ls : List OpenLoan) → find_loan n ls ≡ None → find_loan n (drop_loans row ls) ≡ None
unfolding dropped-option
find_loan-none_drop n row ls h = find_loan-dropped n row ls ∙ ap (dropped-option row) h

-- Different names stay different

none-append_by : (n : Name) (y x : OpenLoan) (ls : List OpenLoan) (t : Bool) → (if t then Some y else find_loan n ls) ≡ None → (find_loan n ls ≡ None → find_loan n (ls ++ (x ∷ [])) ≡ None)
    → (if t then Some y else find_loan n (ls ++ (x ∷ []))) ≡ None
none-append_by n y x ls true h f = absurd (cc)
none-append_by n y x ls false h f = f h

find_loan-none_append : (n : Name) (ls : List OpenLoan) (x : OpenLoan) → name_eq n x.name ≡ false → find_loan n ls ≡ None → find_loan n (ls ++ (x ∷ [])) ≡ None
find_loan-none_append n [] x apart h = found-later n x [] apart
find_loan-none_append n (y ∷ ls) x apart h = none-append_by n y x ls (name_eq n y.name) h (find_loan-none_append n ls x apart)

pub Distinct-append : (ls : List OpenLoan) (x : OpenLoan) → Distinct ls → find_loan x.name ls ≡ None → Distinct (ls ++ (x ∷ []))
Distinct-append [] x d h = (refl, tt)
Distinct-append (y ∷ ls) x d h = split (name_eq x.name y.name) refl h (Distinct-append ls x d.1)
  where
    apart : name_eq x.name y.name ≡ false → (t : Bool) → name_eq y.name x.name ≡ t → t ≡ false
    apart differ true is = absurd (let same : y.name ≡ x.name = name_eq-true y.name x.name is in let both : name_eq x.name y.name ≡ true = name_eq-same x.name y.name (sym same) in cc)
    apart differ false is = refl

    split : (t : Bool) → name_eq x.name y.name ≡ t → (if t then Some y else find_loan x.name ls) ≡ None → (find_loan x.name ls ≡ None → Distinct (ls ++ (x ∷ []))) → Distinct (y ∷ (ls ++ (x ∷ [])))
    split true is h rest = absurd (cc)
    split false is h rest =
        let differ : name_eq y.name x.name ≡ false = apart is (name_eq y.name x.name) refl in
        (find_loan-none_append y.name ls x differ d.0, rest h)

pub Distinct-end : (k : Name) (ls : List OpenLoan) → Distinct ls → Distinct (end_loan k ls)
Distinct-end k [] d = tt
Distinct-end k (y ∷ ls) d = end-by (name_eq k y.name) (Distinct-end k ls d.1)
  where
    end-by : (t : Bool) → Distinct (end_loan k ls) → Distinct (if t then ls else y ∷ end_loan k ls)
    end-by true rest = d.1
    end-by false rest = (find_loan-none_end y.name k ls d.1 d.0, rest)

pub Distinct-drop : (row : ℕ) (ls : List OpenLoan) → Distinct ls → Distinct (drop_loans row ls)
Distinct-drop row [] d = tt
Distinct-drop row (y ∷ ls) d = (find_loan-none_drop y.name row ls d.0, Distinct-drop row ls d.1)
