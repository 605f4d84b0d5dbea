-- Regions that stay in the queue are found by their keys, whatever is put in behind them or changes in one of them.
use Rattle.std.proofs.Common.{◌≡◌, ℕ, zero, suc, true, false, List, [], ◌∷◌, ◌++◌, Some, None, length, slice_get, find, option_map, set, refl, sym, ap, ◌∙◌, inl, inr}
use Rattle.std.specs.Prelude.{All}
use Rattle.std.proofs.lemmas.Bool.{cases_Bool}
use Rattle.std.proofs.lemmas.Option.{none-some, same_Some}
use Rattle.std.proofs.lemmas.List.Elements.{All-weaker}
use Rattle.seniority_queue.specs.Listing.{LiveNode, Listing, has_key, get, last_key}
use Rattle.seniority_queue.specs.declared.key.Key.{Key}
use Rattle.track_board.specs.Parts.{LoanFinds}
use Rattle.track_board.specs.declared.region.Region.{Region}
use Rattle.track_board.specs.declared.loan.Lent.{Lent}

-- whatever key finds a region finds one of the same number now
pub record KeepsNumbers (old new : Listing Region) : Type 0 where
  pub at : (key : Key) (r : Region) → get old key ≡ Some r → (r2 : Region) × (get new key ≡ Some r2) × (r2.number ≡ r.number)

pub keeps-then : (a b c : Listing Region) → KeepsNumbers a b → KeepsNumbers b c → KeepsNumbers a c
keeps-then a b c h k = record {
  at = λ key r found. (let one = h.at key r found in let two = k.at key one.0 one.1 in (two.0, two.1, two.2 ∙ one.2));
}

loan-kept : (a b : Listing Region) → KeepsNumbers a b → (l : Lent) → LoanFinds a l → LoanFinds b l
loan-kept a b h l finds = λ live normal.
    (let was = finds live normal in
    let now = h.at was.key was.region was.found in
    record { key = was.key; given = was.given; region = now.0; found = now.1; is = now.2 ∙ was.is })

-- so the keys of the loans find their regions
pub loans-kept : (a b : Listing Region) → KeepsNumbers a b → (ls : List Lent) → All (LoanFinds a) ls → All (LoanFinds b) ls
loans-kept a b h ls finds = All-weaker (LoanFinds a) (LoanFinds b) (loan-kept a b h) ls finds

-- Behind others

find-behind : (key : Key) (xs : List (LiveNode Region)) (y : LiveNode Region) (r : Region) → option_map (λ (n : LiveNode Region). n.value) (find (has_key key) xs) ≡ Some r
    → option_map (λ (n : LiveNode Region). n.value) (find (has_key key) (xs ++ (y ∷ []))) ≡ Some r
find-behind key [] y r found = absurd (none-some r found)
find-behind key (x ∷ xs) y r found = elim (cases_Bool (has_key key x)) [
  | inl here ↦ rw here (rw here at found)
  | inr there ↦ rw there (find-behind key xs y r (rw there at found))
]

-- a region more behind the others
pub keeps-behind : (a b : Listing Region) (y : LiveNode Region) → b.nodes ≡ a.nodes ++ (y ∷ []) → KeepsNumbers a b
keeps-behind a b y is = record {
  at = λ key r found. (r, ap (λ (ns : List (LiveNode Region)). option_map (λ (n : LiveNode Region). n.value) (find (has_key key) ns)) is ∙ find-behind key a.nodes y r found, refl);
}

-- the same nodes
pub keeps-same : (a b : Listing Region) → b.nodes ≡ a.nodes → KeepsNumbers a b
keeps-same a b is = record {
  at = λ key r found. (r, ap (λ (ns : List (LiveNode Region)). option_map (λ (n : LiveNode Region). n.value) (find (has_key key) ns)) is ∙ found, refl);
}

-- One region changed

find-changed : (key : Key) (xs : List (LiveNode Region)) (k : ℕ) (n : LiveNode Region) (r2 r : Region) → slice_get xs k ≡ Some n → r2.number ≡ n.value.number
    → option_map (λ (m : LiveNode Region). m.value) (find (has_key key) xs) ≡ Some r
    → (r3 : Region) × (option_map (λ (m : LiveNode Region). m.value) (find (has_key key) (set xs k (record n { value = r2 }))) ≡ Some r3) × (r3.number ≡ r.number)
find-changed key [] k n r2 r at number found = absurd (none-some r found)
find-changed key (x ∷ xs) zero n r2 r at number found =
    let same : x ≡ n = same_Some x n at in
    elim (cases_Bool (has_key key n)) [
      | inl here ↦
          (let first : has_key key x ≡ true = ap (has_key key) same ∙ here in
          let value : x.value ≡ r = same_Some x.value r (rw first at found) in
          (r2, rw here refl, number ∙ ap (λ (m : LiveNode Region). m.value.number) (sym same) ∙ ap (λ (s : Region). s.number) value))
      | inr there ↦
          (let first : has_key key x ≡ false = ap (has_key key) same ∙ there in
          (r, rw there (rw first at found), refl))
    ]
find-changed key (x ∷ xs) (suc k) n r2 r at number found = elim (cases_Bool (has_key key x)) [
  | inl here ↦ (r, rw here (rw here at found), refl)
  | inr there ↦ (let rest = find-changed key xs k n r2 r at number (rw there at found) in (rest.0, rw there rest.1, rest.2))
]

-- a region of the same number in place of one
pub keeps-changed : (a b : Listing Region) (k : ℕ) (n : LiveNode Region) (r : Region) → slice_get a.nodes k ≡ Some n → r.number ≡ n.value.number
    → b.nodes ≡ set a.nodes k (record n { value = r }) → KeepsNumbers a b
keeps-changed a b k n r at number is = record {
  at = λ key s found. (let now = find-changed key a.nodes k n r s at number found in
      (now.0, ap (λ (ns : List (LiveNode Region)). option_map (λ (m : LiveNode Region). m.value) (find (has_key key) ns)) is ∙ now.1, now.2));
}

-- The youngest

-- the node of the last key stands last
pub record IsYoungest (nodes : List (LiveNode Region)) (key : Key) : Type 0 where
  pub older : List (LiveNode Region)
  pub node : LiveNode Region
  pub nodes_are : nodes ≡ older ++ (node ∷ [])
  pub key_is : node.key ≡ key
  pub at : slice_get nodes (length older) ≡ Some node

pub youngest : (nodes : List (LiveNode Region)) (key : Key) → last_key nodes ≡ Some key → IsYoungest nodes key
youngest [] key is = absurd (none-some key is)
youngest (n ∷ []) key is = record { older = []; node = n; nodes_are = refl; key_is = same_Some n.key key is; at = refl }
youngest (n ∷ (m ∷ rest)) key is =
    let later = youngest (m ∷ rest) key is in
    record { older = n ∷ later.older; node = later.node; nodes_are = ap (λ ns. n ∷ ns) later.nodes_are; key_is = later.key_is; at = later.at }

pub no_youngest : (nodes : List (LiveNode Region)) → last_key nodes ≡ None → nodes ≡ []
no_youngest [] is = refl
no_youngest (n ∷ []) is = absurd (cc)
no_youngest (n ∷ (m ∷ rest)) is = absurd (let none = no_youngest (m ∷ rest) is in cc)

pub set-last : (older : List (LiveNode Region)) (n m : LiveNode Region) → set (older ++ (n ∷ [])) (length older) m ≡ older ++ (m ∷ [])
set-last [] n m = refl
set-last (x ∷ older) n m = ap (λ ns. x ∷ ns) (set-last older n m)
