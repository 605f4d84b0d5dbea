-- One image in a list of images
use Rattle.std.proofs.Common.{◌≡◌, ℕ, zero, suc, ◌<◌, ◌≤◌, true, false, List, [], ◌∷◌, ◌++◌, length, get_or, Option, Some, None, refl, sym, ◌∙◌, ap, arith}
use Rattle.std.specs.Prelude.{slice_get, option_map, option_to_list}
use Rattle.std.proofs.Math.ListN.{set}
use Rattle.std.proofs.lemmas.Bool.{cond-true, cond-false}
use Rattle.std.proofs.lemmas.List.{map-set, set-get_or, get_or-map, length-map, map_push, append-nil}
use Rattle.std.proofs.lemmas.Option.{slice_get-map, slice_get_past, slice_get_read}
use Rattle.guest_model.specs.ByteMap.{ByteMap, mapped, write}
use Rattle.paged_image.specs.Image.{content}
use Rattle.paged_image.specs.Commands.{contents, stored, change_at, with_copy}
use Rattle.paged_image.specs.declared.image.PagedImage.{PagedImage}

pub stored-mapped : (m n : ByteMap) (a : ℕ) (bytes : List ℕ) → mapped m a (length bytes) ≡ true → n ≡ write m a bytes → n ≡ stored m a bytes
stored-mapped m n a bytes h e = e ∙ sym (cond-true (mapped m a (length bytes)) (write m a bytes) m h)

pub stored-unmapped : (m n : ByteMap) (a : ℕ) (bytes : List ℕ) → mapped m a (length bytes) ≡ false → n ≡ m → n ≡ stored m a bytes
stored-unmapped m n a bytes h e = e ∙ sym (cond-false (mapped m a (length bytes)) (write m a bytes) m h)

change_at-past : (ms : List ByteMap) (i : ℕ) (f : ByteMap → ByteMap) → length ms ≤ i → change_at ms i f ≡ ms
change_at-past [] i f h = refl
change_at-past (m ∷ ms) zero f h = absurd (omega arith)
change_at-past (m ∷ ms) (suc i) f h = ap (λ (ns : List ByteMap). m ∷ ns) (change_at-past ms i f (omega arith))

set-change : (ms : List ByteMap) (i : ℕ) (d : ByteMap) (f : ByteMap → ByteMap) → i < length ms → set ms i (f (get_or ms i d)) ≡ change_at ms i f
set-change [] i d f h = absurd (omega arith)
set-change (m ∷ ms) zero d f h = refl
set-change (m ∷ ms) (suc i) d f h = ap (λ (ns : List ByteMap). m ∷ ns) (set-change ms i d f (omega arith))

pub contents-absent : (ts : List PagedImage) (i : ℕ) (f : ByteMap → ByteMap) → length ts ≤ i → contents ts ≡ change_at (contents ts) i f
contents-absent ts i f h = sym (change_at-past (contents ts) i f (omega (arith, length-map ts content)))

pub contents-no_copy : (ts : List PagedImage) (i : ℕ) → length ts ≤ i → contents ts ≡ with_copy (contents ts) i
contents-no_copy ts i h =
    let none : slice_get (contents ts) i ≡ None = slice_get_past (contents ts) i (omega (arith, length-map ts content)) in
    sym (ap (λ (o : Option ByteMap). contents ts ++ option_to_list o) none ∙ append-nil (contents ts))

-- y in the place of x
module _ (ts : List PagedImage) (i : ℕ) (x y : PagedImage) (within : i < length ts) (at : x ≡ get_or ts i x) where
  here : get_or (contents ts) i (content x) ≡ content x
  here = get_or-map content ts i x (content x) within ∙ ap content (sym at)

  pub contents-same : content y ≡ content x → contents (set ts i y) ≡ contents ts
  contents-same h = map-set content ts i y ∙ ap (set (contents ts) i) (h ∙ sym here) ∙ set-get_or (contents ts) i (content x)

  pub contents-changed : (f : ByteMap → ByteMap) → content y ≡ f (content x) → contents (set ts i y) ≡ change_at (contents ts) i f
  contents-changed f h =
      map-set content ts i y ∙ ap (set (contents ts) i) (h ∙ ap f (sym here)) ∙ set-change (contents ts) i (content x) f (omega (arith, length-map ts content))

  pub contents-copied : (copy : PagedImage) → content y ≡ content x → content copy ≡ content x → contents (set ts i y ++ copy ∷ []) ≡ with_copy (contents ts) i
  contents-copied copy h k =
      let found : slice_get (contents ts) i ≡ Some (content x) = slice_get-map content ts i ∙ ap (option_map content) (slice_get_read ts (length ts) i x refl within at) in
      map_push content (set ts i y) copy ∙ ap (λ (ms : List ByteMap). ms ++ content copy ∷ []) (contents-same h) ∙ ap (λ (m : ByteMap). contents ts ++ m ∷ []) k
      ∙ ap (λ (o : Option ByteMap). contents ts ++ option_to_list o) (sym found)
