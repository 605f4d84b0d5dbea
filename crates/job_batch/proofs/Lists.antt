-- Lists of which one element is changed, or one is added.
use Rattle.std.proofs.Common.{◌≡◌, ℕ, zero, suc, Bool, true, false, if◌then◌else◌, List, [], ◌∷◌, ◌++◌, length, get_or, map, Some, refl, sym, ap, subst}
use Rattle.std.specs.Prelude.{All, slice_get}
use Rattle.std.proofs.Math.ListN.{set}
use Rattle.std.proofs.lemmas.List.Elements.{All-nil, All-cons, All-head, All-tail, All-push}

-- f is the same of each element, where it is of the one that is changed
pub map-set_same : {A B : Type 0} (f : A → B) (xs : List A) (k : ℕ) (d y : A) → f y ≡ f (get_or xs k d) → map f (set xs k y) ≡ map f xs
map-set_same f [] k d y same = refl
map-set_same f (z ∷ zs) zero d y same = ap (λ b. b ∷ map f zs) same
map-set_same f (z ∷ zs) (suc k) d y same = ap (λ bs. f z ∷ bs) (map-set_same f zs k d y same)

pub All-from_map : {A B : Type 0} (P : B → Type 0) (f : A → B) (xs : List A) → All P (map f xs) → All (λ x. P (f x)) xs
All-from_map P f [] h = All-nil (λ x. P (f x))
All-from_map P f (x ∷ xs) h = All-cons (λ y. P (f y)) x xs (All-head P (f x) (map f xs) h) (All-from_map P f xs (All-tail P (f x) (map f xs) h))

-- the element behind these
pub All-behind : {A : Type 0} (P : A → Type 0) (xs : List A) (x : A) (ys : List A) → All P (xs ++ x ∷ ys) → P x
All-behind P [] x ys h = All-head P x ys h
All-behind P (z ∷ zs) x ys h = All-behind P zs x ys (All-tail P z (zs ++ x ∷ ys) h)

-- one was added, where there was room
pub All-pushed : {A : Type 0} (P : A → Type 0) (xs ys : List A) (x : A) (t : Bool) → ys ≡ (if t then xs ++ x ∷ [] else xs) → All P xs → P x → All P ys
All-pushed P xs ys x true is h p = subst (All P) (sym is) (All-push P xs x h p)
All-pushed P xs ys x false is h p = subst (All P) (sym is) h

-- what was found before one was added
pub slice_get-more : {A : Type 0} (xs : List A) (k : ℕ) (x y : A) → slice_get xs k ≡ Some x → slice_get (xs ++ y ∷ []) k ≡ Some x
slice_get-more [] k x y h = absurd (cc)
slice_get-more (z ∷ zs) zero x y h = h
slice_get-more (z ∷ zs) (suc k) x y h = slice_get-more zs k x y h

-- the one that was added
pub slice_get-last : {A : Type 0} (xs : List A) (y : A) → slice_get (xs ++ y ∷ []) (length xs) ≡ Some y
slice_get-last [] y = refl
slice_get-last (z ∷ zs) y = slice_get-last zs y
