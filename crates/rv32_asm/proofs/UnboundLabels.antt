-- The least unbound label of the first items of an assembly
use Rattle.std.proofs.Common.{◌≡◌, ℕ, ◌+◌, ◌<◌, Bool, true, false, ◌||◌, ◌&&◌, List, [], ◌∷◌, ◌++◌, length, get_or, take, Option, None, refl, sym, ap, ◌∙◌, arith}
use Rattle.std.specs.Prelude.{IfSome}
use Rattle.std.specs.List.{list_any}
use Rattle.std.proofs.Math.Path.{fun_ext}
use Rattle.std.proofs.lemmas.List.{take_more}
use Rattle.std.proofs.lemmas.Bool.{and_right}
use Rattle.guest_model.specs.Difference.{least}
use Rattle.rv32_asm.specs.declared.parts.Item.{Item}
use Rattle.rv32_asm.specs.declared.parts.Item.TheVariants.{Given, BranchTo, JumpTo, UpperOf, LowerOf}
use Rattle.rv32_asm.specs.Assembly.{Assembly, binding_of}
use Rattle.rv32_asm.specs.Sound.{ItemFits, IsSound}
use Rattle.rv32_asm.specs.Resolved.{is_unbound, label_of, uses, unbound_label, unbound_in, lesser}
use Rattle.rv32_asm.proofs.LeastPlaces.{least_never, least_one, least-or}

-- an assembly with other items
abbrev pub with : Assembly → List Item → Assembly
with a xs = record a { items = xs }

pub unbound_none : (a : Assembly) → unbound_label (with a []) ≡ None
unfolding unbound_label
unbound_none a = least_never (λ n. is_unbound (binding_of a n) && false) (length a.labels) (λ k h. and_right (is_unbound (binding_of a k)) false refl)

any_more : (p : Item → Bool) (b : Bool) (xs : List Item) (x : Item) → (b && list_any p (xs ++ x ∷ [])) ≡ ((b && list_any p xs) || (b && p x))
any_more p false xs x = refl
any_more p true [] x = elim (p x) as (λ v. (v || false) ≡ (false || v)) [ true ↦ refl | false ↦ refl ]
any_more p true (y ∷ xs) x = ap (λ v. p y || v) (any_more p true xs x) ∙ moved (p y) (list_any p xs) (p x)
  where
    moved : (u v w : Bool) → (u || (v || w)) ≡ ((u || v) || w)
    moved true v w = refl
    moved false v w = refl

one_item : (a : Assembly) (x : Item) → IfSome (label_of x) (λ to. to < length a.labels)
    → least (λ n. is_unbound (binding_of a n) && uses n x) (length a.labels) ≡ unbound_in a x
one_item a (Given i) h = least_never (λ n. is_unbound (binding_of a n) && false) (length a.labels) (λ k l. and_right (is_unbound (binding_of a k)) false refl)
one_item a (BranchTo c r s to) h = least_one (λ n. is_unbound (binding_of a n)) to (length a.labels) h
one_item a (JumpTo d to) h = least_one (λ n. is_unbound (binding_of a n)) to (length a.labels) h
one_item a (UpperOf d to) h = least_one (λ n. is_unbound (binding_of a n)) to (length a.labels) h
one_item a (LowerOf d to) h = least_one (λ n. is_unbound (binding_of a n)) to (length a.labels) h

pub unbound_more : (a : Assembly) (xs : List Item) (x : Item) → IfSome (label_of x) (λ to. to < length a.labels)
    → unbound_label (with a (xs ++ x ∷ [])) ≡ lesser (unbound_label (with a xs)) (unbound_in a x)
unfolding unbound_label
unbound_more a xs x h =
    let u : ℕ → Bool = λ n. is_unbound (binding_of a n) in
    let p : ℕ → Bool = λ n. u n && list_any (uses n) xs in
    let q : ℕ → Bool = λ n. u n && uses n x in
    let split : (λ (n : ℕ). u n && list_any (uses n) (xs ++ x ∷ [])) ≡ (λ (n : ℕ). p n || q n) = fun_ext (λ n. any_more (uses n) (u n) xs x) in
    ap (λ (t : ℕ → Bool). least t (length a.labels)) split
    ∙ least-or p q (length a.labels)
    ∙ ap (lesser (least p (length a.labels))) (one_item a x h)

pub label_fits : (n : ℕ) (x : Item) → ItemFits n x → IfSome (label_of x) (λ to. to < n)
label_fits n (Given i) h = tt
label_fits n (BranchTo c r s to) h = h.2
label_fits n (JumpTo d to) h = h.1
label_fits n (UpperOf d to) h = h.1
label_fits n (LowerOf d to) h = h.1

-- one more item in a loop over the items of an assembly
pub unbound_step : (a : Assembly) (items : List Item) (k : ℕ) (d : Item) (old new found : Option ℕ) → IsSound a → items ≡ a.items → k < length items
    → old ≡ unbound_label (with a (take k a.items)) → found ≡ unbound_in a (get_or items k d) → new ≡ lesser old found
    → new ≡ unbound_label (with a (take (k + 1) a.items))
unbound_step a items k d old new found sound same h was one is =
    let below : k < length a.items = omega (arith, ap length same) in
    let x : Item = get_or a.items k d in
    let found_is : found ≡ unbound_in a x = one ∙ ap (λ (xs : List Item). unbound_in a (get_or xs k d)) same in
    let more : take (k + 1) a.items ≡ take k a.items ++ x ∷ [] = take_more a.items k d below in
    is
    ∙ ap (λ o. lesser o found) was
    ∙ ap (lesser (unbound_label (with a (take k a.items)))) found_is
    ∙ sym (unbound_more a (take k a.items) x (label_fits (length a.labels) x (sound.items_fit k d below)))
    ∙ sym (ap (λ xs. unbound_label (with a xs)) more)
