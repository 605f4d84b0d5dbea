-- Loads by the bytes that a piece of memory has
use Rattle.std.proofs.Common.{◌≡◌, ℕ, ◌+◌, ◌/◌, ◌%◌, ◌≤◌, List, [], ◌∷◌, length, get_or, Some, None, ◌∙◌, ap, arith, add-zero}
use Rattle.std.specs.Int.{Width, w8, byte_len, from_le_bytes}
use Rattle.std.proofs.lemmas.List.{nil_from_length}
use Rattle.guest_model.specs.ByteMap.{ByteMap, load}
use Rattle.guest_model.specs.Place.{IsPiece}
use Rattle.guest_model.proofs.OnByteMap.{load-mapped, load-unmapped, mapped-absent}
use Rattle.paged_image.specs.Image.{content}
use Rattle.paged_image.specs.Changes.{page_of}
use Rattle.paged_image.specs.declared.image.PagedImage.{PagedImage}
use Rattle.paged_image.proofs.OnRange.{byte-absent}

pub load-piece : (w : Width) (m : ByteMap) (a : ℕ) (bs : List ℕ) → IsPiece m a (byte_len w) bs → load w m a ≡ Some (from_le_bytes w bs)
load-piece w m a bs p = load-mapped w m a bs p.mapped p.bytes

pub one_of : (bs : List ℕ) → length bs ≡ 1 → bs ≡ get_or bs 0 0 ∷ []
one_of [] h = absurd (omega arith)
one_of (x ∷ xs) h = ap (λ (ys : List ℕ). x ∷ ys) (nil_from_length xs (omega arith))

pub two_of : (bs : List ℕ) → length bs ≡ 2 → bs ≡ get_or bs 0 0 ∷ get_or bs 1 0 ∷ []
two_of [] h = absurd (omega arith)
two_of (x ∷ xs) h = ap (λ (ys : List ℕ). x ∷ ys) (one_of xs (omega arith))

pub four_of : (bs : List ℕ) → length bs ≡ 4 → bs ≡ get_or bs 0 0 ∷ get_or bs 1 0 ∷ get_or bs 2 0 ∷ get_or bs 3 0 ∷ []
four_of [] h = absurd (omega arith)
four_of (x ∷ []) h = absurd (omega arith)
four_of (x ∷ y ∷ xs) h = ap (λ (ys : List ℕ). x ∷ y ∷ ys) (two_of xs (omega arith))

pub load8-absent : (t : PagedImage) (a : ℕ) → (a % 4096 + 1 ≤ 4096 → page_of t (a / 4096) ≡ None) → load w8 (content t) a ≡ None
load8-absent t a h =
    let e : a + 0 ≡ a = add-zero a in
    let at : (a + 0) / 4096 ≡ a / 4096 = ap (λ (n : ℕ). n / 4096) e in
    load-unmapped w8 (content t) a (mapped-absent (content t) a 1 0 (omega arith) (byte-absent t (a + 0) (a / 4096) (h (omega arith)) at))

pub load8-there : (m : ByteMap) (a : ℕ) (bs : List ℕ) → IsPiece m a 1 bs → load w8 m a ≡ Some (get_or bs 0 0)
load8-there m a bs p = load-piece w8 m a bs p ∙ ap (λ (xs : List ℕ). Some (from_le_bytes w8 xs)) (one_of bs p.count)
