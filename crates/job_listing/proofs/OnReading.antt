-- A list as it is read: the names so far, and the rest
use Rattle.std.proofs.Common.{◌≡◌, ℕ, ◌<◌, ◌≤◌, Bool, true, false, ◌==◌, List, [], ◌∷◌, ◌++◌, length, Option, Some, None, IfSome, option_map, refl, sym, ap, ◌∙◌, append_assoc, append-nil, arith, length-append}
use Rattle.std.specs.List.{list_all}
use Rattle.std.proofs.lemmas.Bool.{lt-leb, and_from, and_left, and_right, cond-false}
use Rattle.std.proofs.lemmas.List.Folds.{list_all-append}
use Rattle.job_listing.specs.Lists.{lines_in, is_name, are_names, names_of, names_in}
use Rattle.job_listing.specs.Lines.{BeginsWithName, name_first, HasNoName}
use Rattle.job_listing.proofs.OnLists.{lines-tell, short-list, many-names}

pub record IsRead (list : List ℕ) (names : List (List ℕ)) (rest : List ℕ) : Type 0 where
  pub lines : lines_in list ≡ option_map (λ ls. names ++ ls) (lines_in rest)
  pub each : list_all is_name names ≡ true

-- ---- one name more

all_of : (lines : Option (List (List ℕ))) → lines ≡ option_map (λ ls. [] ++ ls) lines
all_of None = refl
all_of (Some ls) = refl

pub read-first : (list : List ℕ) → IsRead list [] list
read-first list = record { lines = all_of (lines_in list); each = refl }

one_more : (names : List (List ℕ)) (name : List ℕ) (lines : Option (List (List ℕ)))
    → option_map (λ ls. names ++ ls) (option_map (λ ls. name ∷ ls) lines) ≡ option_map (λ ls. (names ++ name ∷ []) ++ ls) lines
one_more names name None = refl
one_more names name (Some ls) = ap (λ xs. Some xs) (sym (append_assoc names (name ∷ []) ls))

pub read-next : (list : List ℕ) (names : List (List ℕ)) (rest name behind : List ℕ) → IsRead list names rest → BeginsWithName rest name behind → IsRead list (names ++ name ∷ []) behind
read-next list names rest name behind h k = record {
  lines = h.lines ∙ ap (option_map (λ ls. names ++ ls)) k.lines ∙ one_more names name (lines_in behind);
  each = list_all-append is_name names (name ∷ []) ∙ and_from _ _ h.each (and_from _ _ k.is refl);
}

-- ---- nothing is left

pub read-all : (list : List ℕ) (names : List (List ℕ)) (rest : List ℕ) → IsRead list names rest → length list ≤ 4096 → length names ≤ 16 → 1 ≤ length names → length rest ≡ 0 → names_in list ≡ Some names
read-all list names [] h short few some none =
    short-list list (Some names) short (h.lines ∙ ap (λ xs. Some xs) (append-nil names))
    ∙ many-names names some few h.each
read-all list names (b ∷ rest) h short few some none = absurd (omega arith)

-- ---- no list

no_names : (lines : List (List ℕ)) → are_names lines ≡ false → names_of lines ≡ None
no_names lines not = cond-false (are_names lines) _ _ not

pub none-long : (list : List ℕ) → 4096 < length list → names_in list ≡ None
none-long list long = cond-false _ _ _ (lt-leb (length list) 4096 long)

pub none-empty : (list : List ℕ) (names : List (List ℕ)) (rest : List ℕ) → IsRead list names rest → length list ≤ 4096 → length names ≡ 0 → length rest ≡ 0 → names_in list ≡ None
none-empty list [] [] h short none done = short-list list (Some []) short h.lines
none-empty list (n ∷ names) rest h short none done = absurd (omega arith)
none-empty list names (b ∷ rest) h short none done = absurd (omega arith)

-- where bytes are left, there is a line more
some_line : (rest : List ℕ) (lines : Option (List (List ℕ))) → lines_in rest ≡ lines → 0 < length rest → IfSome lines (λ ls. 1 ≤ length ls)
some_line rest None is some = tt
some_line rest (Some []) is some = absurd (omega (arith, ap length (lines-tell rest [] is).is))
some_line rest (Some (l ∷ ls)) is some = omega arith

seventeen : (list : List ℕ) (names : List (List ℕ)) (rest : Option (List (List ℕ))) → length list ≤ 4096 → lines_in list ≡ option_map (λ ls. names ++ ls) rest → length names ≡ 16 → IfSome rest (λ ls. 1 ≤ length ls) → names_in list ≡ None
seventeen list names None short is full more = short-list list None short is
seventeen list names (Some ls) short is full more =
    short-list list (Some (names ++ ls)) short is
    ∙ no_names (names ++ ls) (and_right _ _ (and_left _ _ (lt-leb (length (names ++ ls)) 16 (omega (arith, length-append names ls)))))

pub none-many : (list : List ℕ) (names : List (List ℕ)) (rest : List ℕ) → IsRead list names rest → length list ≤ 4096 → length names ≡ 16 → 0 < length rest → names_in list ≡ None
none-many list names rest h short full more = seventeen list names (lines_in rest) short h.lines full (some_line rest (lines_in rest) refl more)

bad_first : (list : List ℕ) (names : List (List ℕ)) (rest : Option (List (List ℕ))) → length list ≤ 4096 → lines_in list ≡ option_map (λ ls. names ++ ls) rest → IfSome rest (λ ls. 1 ≤ length ls) → IfSome rest (λ ls. name_first ls ≡ false) → names_in list ≡ None
bad_first list names None short is some bad = short-list list None short is
bad_first list names (Some []) short is some bad = absurd (omega arith)
bad_first list names (Some (l ∷ ls)) short is some bad =
    short-list list (Some (names ++ (l ∷ ls))) short is
    ∙ no_names (names ++ (l ∷ ls)) (and_right _ _ (and_right _ _ (list_all-append is_name names (l ∷ ls) ∙ and_right _ _ (and_left _ _ bad))))

pub none-bad : (list : List ℕ) (names : List (List ℕ)) (rest : List ℕ) → IsRead list names rest → length list ≤ 4096 → 0 < length rest → HasNoName rest → names_in list ≡ None
none-bad list names rest h short more bad = bad_first list names (lines_in rest) short h.lines (some_line rest (lines_in rest) refl more) bad

-- by a test for no bytes
pub left-over : (rest : List ℕ) (empty : Bool) → empty ≡ (length rest == 0) → empty ≡ false → 0 < length rest
left-over [] empty is not = absurd (cc)
left-over (b ∷ rest) empty is not = omega arith
