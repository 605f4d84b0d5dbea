-- What the four words of memory tell: `mapped`, `bytes_from`, `load` and `write`
use Rattle.std.proofs.Common.{◌≡◌, ℕ, zero, suc, ◌+◌, ◌-◌, ◌^◌, ◌<◌, ◌≤◌, Bool, true, false, List, [], ◌∷◌, ◌++◌, length, get_or, Some, None, is_some, ◌⊎◌, inl, inr, refl, sym, ap, ◌∙◌, add-zero, zero-add, arith, length-append}
use Rattle.std.specs.Prelude.{nat_le, slice_index}
use Rattle.std.specs.Int.{Width, byte_len, from_le_bytes}
use Rattle.std.specs.List.{list_all, range_with_len}
use Rattle.std.proofs.Math.Path.{fun_ext}
use Rattle.std.proofs.lemmas.Bool.{and_parts, and_from, le-leb, leb-true, cases_lt}
use Rattle.std.proofs.lemmas.Bool.Decides.{nat_tests}
use Rattle.std.proofs.lemmas.Grind.{common_steps}
use Rattle.std.proofs.lemmas.List.FromFn.{length-map-range_with_len, get_or-map-range_with_len, fill_by_all}
use Rattle.guest_model.specs.ByteMap.{ByteMap, byte, mapped, bytes_from, load, write}

-- ---- a test of each address of a range

all_from : (p : ℕ → Bool) (s n : ℕ) → ((k : ℕ) → k < n → p (s + k) ≡ true) → list_all p (range_with_len s n) ≡ true
all_from p s zero h = refl
all_from p s (suc n) h =
    let first : p s ≡ true = ap p (sym (add-zero s)) ∙ h 0 (omega arith) in
    let rest : (k : ℕ) → k < n → p (s + 1 + k) ≡ true = λ k l. let e : s + 1 + k ≡ s + suc k = omega arith in ap p e ∙ h (suc k) (omega arith) in
    and_from (p s) (list_all p (range_with_len (s + 1) n)) first (all_from p (s + 1) n rest)

at_each : (p : ℕ → Bool) (s n k : ℕ) → list_all p (range_with_len s n) ≡ true → k < n → p (s + k) ≡ true
at_each p s zero k h l = absurd (omega arith)
at_each p s (suc n) zero h l = ap p (add-zero s) ∙ (and_parts (p s) (list_all p (range_with_len (s + 1) n)) h).0
at_each p s (suc n) (suc k) h l =
    let e : s + suc k ≡ s + 1 + k = omega arith in
    ap p e ∙ at_each p (s + 1) n k ((and_parts (p s) (list_all p (range_with_len (s + 1) n)) h).1) (omega arith)

-- ---- mapped

pub mapped-bound : (m : ByteMap) (a n : ℕ) → mapped m a n ≡ true → a + n ≤ 2 ^ 32
unfolding mapped
mapped-bound m a n h = leb-true (a + n) (2 ^ 32) ((and_parts (nat_le (a + n) (2 ^ 32)) (list_all (λ k. is_some (m (a + k))) (range_with_len 0 n)) h).0)

pub mapped-at : (m : ByteMap) (a n k : ℕ) → mapped m a n ≡ true → k < n → is_some (m (a + k)) ≡ true
unfolding mapped
mapped-at m a n k h l = ap (λ i. is_some (m (a + i))) (sym (zero-add k)) ∙ at_each (λ i. is_some (m (a + i))) 0 n k ((and_parts (nat_le (a + n) (2 ^ 32)) (list_all (λ i. is_some (m (a + i))) (range_with_len 0 n)) h).1) l

pub mapped-all : (m : ByteMap) (a n : ℕ) → a + n ≤ 2 ^ 32 → ((k : ℕ) → k < n → is_some (m (a + k)) ≡ true) → mapped m a n ≡ true
unfolding mapped
mapped-all m a n b h = and_from (nat_le (a + n) (2 ^ 32)) (list_all (λ k. is_some (m (a + k))) (range_with_len 0 n)) (le-leb (a + n) (2 ^ 32) b) (all_from (λ k. is_some (m (a + k))) 0 n (λ k l. ap (λ i. is_some (m (a + i))) (zero-add k) ∙ h k l))

false_unless : (b : Bool) → (b ≡ true → ⊥) → b ≡ false
false_unless true h = absurd (h refl)
false_unless false h = refl

-- a range that passes 2 ^ 32, and one with an absent byte, is not mapped
pub mapped-past : (m : ByteMap) (a n : ℕ) → 2 ^ 32 < a + n → mapped m a n ≡ false
mapped-past m a n l = false_unless (mapped m a n) (λ h. let b : a + n ≤ 2 ^ 32 = mapped-bound m a n h in omega arith)

pub mapped-absent : (m : ByteMap) (a n k : ℕ) → k < n → m (a + k) ≡ None → mapped m a n ≡ false
mapped-absent m a n k l e = false_unless (mapped m a n) (λ h. let s : is_some (m (a + k)) ≡ true = mapped-at m a n k h l in let f : is_some (m (a + k)) ≡ false = ap is_some e in cc)

-- a shorter range from the same address
pub mapped-shorter : (m : ByteMap) (a n k : ℕ) → mapped m a n ≡ true → k ≤ n → mapped m a k ≡ true
mapped-shorter m a n k h l =
    let b : a + n ≤ 2 ^ 32 = mapped-bound m a n h in
    mapped-all m a k (omega arith) (λ i q. mapped-at m a n i h (omega arith))

-- a range within a range
pub mapped-within : (m : ByteMap) (a n j k : ℕ) → mapped m a n ≡ true → j + k ≤ n → mapped m (a + j) k ≡ true
mapped-within m a n j k h l =
    let b : a + n ≤ 2 ^ 32 = mapped-bound m a n h in
    mapped-all m (a + j) k (omega arith) (λ i q. let e : a + j + i ≡ a + (j + i) = omega arith in ap (λ x. is_some (m x)) e ∙ mapped-at m a n (j + i) h (omega arith))

-- ---- bytes_from

pub length-bytes_from : (m : ByteMap) (a n : ℕ) → length (bytes_from m a n) ≡ n
unfolding bytes_from
length-bytes_from m a n = length-map-range_with_len (λ k. byte m (a + k)) 0 n

pub bytes_from-at : (m : ByteMap) (a n k d : ℕ) → k < n → get_or (bytes_from m a n) k d ≡ byte m (a + k)
unfolding bytes_from
bytes_from-at m a n k d l = get_or-map-range_with_len (λ i. byte m (a + i)) 0 n k k d l (zero-add k)

pub bytes_from-fill : (m : ByteMap) (a n : ℕ) (bs : List ℕ) → length bs ≡ n → ((k : ℕ) → k < n → get_or bs k 0 ≡ byte m (a + k)) → bytes_from m a n ≡ bs
unfolding bytes_from
bytes_from-fill m a n bs e h = sym (fill_by_all (λ k. byte m (a + k)) bs n 0 e h)

-- ---- load

pub load-mapped : (w : Width) (m : ByteMap) (a : ℕ) (bs : List ℕ) → mapped m a (byte_len w) ≡ true → bytes_from m a (byte_len w) ≡ bs → load w m a ≡ Some (from_le_bytes w bs)
unfolding load
load-mapped w m a bs h e = rw h (ap (λ xs. Some (from_le_bytes w xs)) e)

pub load-unmapped : (w : Width) (m : ByteMap) (a : ℕ) → mapped m a (byte_len w) ≡ false → load w m a ≡ None
unfolding load
load-unmapped w m a h = rw h refl

-- ---- write

pub write-outside : (m : ByteMap) (a : ℕ) (bs : List ℕ) (q : ℕ) → (q < a) ⊎ (a + length bs ≤ q) → write m a bs q ≡ m q
unfolding write
write-outside m a bs q (inl h) = grind (arith, nat_tests)
write-outside m a bs q (inr h) = grind (arith, nat_tests)

pub write-inside : (m : ByteMap) (a : ℕ) (bs : List ℕ) (q : ℕ) → a ≤ q → q < a + length bs → write m a bs q ≡ Some (slice_index bs (q - a))
unfolding write
write-inside m a bs q h l = grind (arith, nat_tests)

-- a map that has these bytes in the range, and outside of it those of m, is m written
pub write-is : (m n : ByteMap) (a : ℕ) (bs : List ℕ) → ((q : ℕ) → (q < a) ⊎ (a + length bs ≤ q) → n q ≡ m q) → ((q : ℕ) → a ≤ q → q < a + length bs → n q ≡ Some (slice_index bs (q - a))) → n ≡ write m a bs
write-is m n a bs outside inside = fun_ext (λ q. write-is-at q (cases_lt q a) (cases_lt q (a + length bs)))
  where
    write-is-at : (q : ℕ) → (q < a) ⊎ (a ≤ q) → (q < a + length bs) ⊎ (a + length bs ≤ q) → n q ≡ write m a bs q
    write-is-at q (inl l) _ = outside q (inl l) ∙ sym (write-outside m a bs q (inl l))
    write-is-at q (inr l) (inl r) = inside q l r ∙ sym (write-inside m a bs q l r)
    write-is-at q (inr l) (inr r) = outside q (inr r) ∙ sym (write-outside m a bs q (inr r))

-- no byte written
pub write-nothing : (m : ByteMap) (a : ℕ) → write m a [] ≡ m
write-nothing m a = sym (write-is m m a [] (λ q _. refl) (λ q l r. absurd (omega arith)))

-- one byte more, at the end
pub write-more : (m : ByteMap) (a : ℕ) (bs : List ℕ) (b : ℕ) → write (write m a bs) (a + length bs) (b ∷ []) ≡ write m a (bs ++ b ∷ [])
write-more m a bs b = write-is m (write (write m a bs) (a + length bs) (b ∷ [])) a (bs ++ b ∷ [])
    (λ q h. more-outside q h)
    (λ q l r. more-inside q l r (cases_lt q (a + length bs)))
  where
    more-outside : (q : ℕ) → (q < a) ⊎ (a + length (bs ++ b ∷ []) ≤ q) → write (write m a bs) (a + length bs) (b ∷ []) q ≡ m q
    more-outside q (inl h) = write-outside (write m a bs) (a + length bs) (b ∷ []) q (inl (omega arith)) ∙ write-outside m a bs q (inl h)
    more-outside q (inr h) =
        let e : length (bs ++ b ∷ []) ≡ length bs + 1 = length-append bs (b ∷ []) in
        write-outside (write m a bs) (a + length bs) (b ∷ []) q (inr (omega arith)) ∙ write-outside m a bs q (inr (omega arith))

    more-inside : (q : ℕ) → a ≤ q → q < a + length (bs ++ b ∷ []) → (q < a + length bs) ⊎ (a + length bs ≤ q) → write (write m a bs) (a + length bs) (b ∷ []) q ≡ Some (slice_index (bs ++ b ∷ []) (q - a))
    more-inside q l r (inl h) =
        let i : q - a < length bs = omega arith in
        let e : get_or (bs ++ b ∷ []) (q - a) 0 ≡ get_or bs (q - a) 0 = grind (arith, common_steps) in
        write-outside (write m a bs) (a + length bs) (b ∷ []) q (inl h) ∙ write-inside m a bs q l h ∙ ap Some (sym e)
    more-inside q l r (inr h) =
        let e : length (bs ++ b ∷ []) ≡ length bs + 1 = length-append bs (b ∷ []) in
        let at : q - a ≡ length bs = omega arith in
        let z : q - (a + length bs) ≡ 0 = omega arith in
        let last : get_or (bs ++ b ∷ []) (q - a) 0 ≡ b = grind (arith, common_steps) in
        write-inside (write m a bs) (a + length bs) (b ∷ []) q h (omega arith) ∙ ap (λ i. Some (slice_index (b ∷ []) i)) z ∙ ap Some (sym last)
