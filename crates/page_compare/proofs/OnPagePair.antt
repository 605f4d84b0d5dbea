-- One page in two byte maps
use Rattle.std.proofs.Common.{◌≡◌, ℕ, ◌+◌, ◌*◌, ◌/◌, ◌%◌, ◌^◌, ◌<◌, false, ◌==◌, List, length, Option, Some, None, is_some, refl, sym, ◌∙◌, ap, arith}
use Rattle.std.specs.Prelude.{slice_index}
use Rattle.std.proofs.lemmas.Bool.{false≢true}
use Rattle.std.proofs.lemmas.Bool.Decides.{nat_tests}
use Rattle.guest_model.specs.ByteMap.{ByteMap}
use Rattle.guest_model.specs.Difference.{same_byte}
use Rattle.paged_image.specs.Pages.{IsPage, LacksPage}
use Rattle.page_compare.specs.Comparison.{SameShape, SamePage, DiffersFirst}

none_too : (o r : Option ℕ) → o ≡ None → is_some o ≡ is_some r → r ≡ None
none_too o None e h = refl
none_too o (Some x) e h = absurd (false≢true (sym (ap is_some e) ∙ h))

pub same-absent : (m n : ByteMap) (page : ℕ) → SameShape m n → LacksPage m page → SamePage m n page
same-absent m n page shape h k l =
    let q = page * 4096 + k in
    h k l ∙ sym (none_too (m q) (n q) (h k l) (shape q))

pub same-absent_right : (m n : ByteMap) (page : ℕ) → SameShape m n → LacksPage n page → SamePage m n page
same-absent_right m n page shape h k l =
    let q = page * 4096 + k in
    none_too (n q) (m q) (h k l) (sym (shape q)) ∙ sym (h k l)

pub same-bytes : (m n : ByteMap) (page : ℕ) (x y : List ℕ) → IsPage m page x → IsPage n page y → x ≡ y → SamePage m n page
same-bytes m n page x y p q e k l = p.each k l ∙ ap (λ (bs : List ℕ). Some (slice_index bs k)) e ∙ sym (q.each k l)

unequal : (a b : ℕ) → (a ≡ b → ⊥) → (a == b) ≡ false
unequal a b ne = grind (arith, nat_tests)

pub differs-at : (m n : ByteMap) (page k : ℕ) (x y : List ℕ) → IsPage m page x → IsPage n page y → k < length x → (slice_index x k ≡ slice_index y k → ⊥) → ((i : ℕ) → i < k → slice_index x i ≡ slice_index y i)
    → DiffersFirst m n page (page * 4096 + k)
differs-at m n page k x y p q l ne before =
    let low : page < 2 ^ 20 = p.below in
    let size : length x ≡ 4096 = p.count in
    record {
      on_page = omega arith;
      space = omega arith;
      differs = ap (λ (o : Option ℕ). same_byte o (n (page * 4096 + k))) (p.each k (omega arith)) ∙ ap (same_byte (Some (slice_index x k))) (q.each k (omega arith)) ∙ unequal (slice_index x k) (slice_index y k) ne;
      below = λ i h. p.each i (omega arith) ∙ ap Some (before i (omega arith)) ∙ sym (q.each i (omega arith));
    }

-- the byte at an address of a page that is the same
pub same-at : (m n : ByteMap) (q : ℕ) → SamePage m n (q / 4096) → m q ≡ n q
same-at m n q h =
    let is : (q / 4096) * 4096 + q % 4096 ≡ q = omega arith in
    ap m (sym is) ∙ h (q % 4096) (omega arith) ∙ ap n is
