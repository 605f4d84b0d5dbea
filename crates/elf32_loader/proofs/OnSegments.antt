-- What is known of program headers that have no fault
use Rattle.std.proofs.Common.{◌≡◌, ℕ, zero, suc, ◌+◌, ◌<◌, ◌≤◌, ◌^◌, Bool, true, false, not, cond, List, [], ◌∷◌, length, get_or, Option, Some, None, ⊎_elim, refl, ap, ◌∙◌, arith}
use Rattle.std.specs.Prelude.{nat_lt, option_map}
use Rattle.std.specs.List.{All}
use Rattle.std.proofs.lemmas.Bool.{cases_lt, and_parts, not-false}
use Rattle.std.proofs.lemmas.Bool.Decides.{nat_tests}
use Rattle.std.proofs.lemmas.List.{get_or_default}
use Rattle.std.proofs.lemmas.List.Elements.{All-head, All-tail}
use Rattle.guest_model.specs.Difference.{least, or_else, first_some}
use Rattle.guest_model.specs.Image.{last_end}
use Rattle.guest_model.specs.ImageFault as image
use Rattle.guest_model.specs.ImageFault.{Fault, nth, first_place, fault_if, is_bad, is_entry, segment_faults}
use Rattle.guest_model.specs.Segment.{Segment, is_load, has_bytes, end_of}

or_else-none : {A : Type 0} (o p : Option A) → or_else o p ≡ None → (o ≡ None) × (p ≡ None)
or_else-none (Some x) p h = absurd (cc)
or_else-none None p h = (refl, h)

first_some-none : {A : Type 0} (os : List (Option A)) → first_some os ≡ None → (k : ℕ) → k < length os → get_or os k None ≡ None
first_some-none [] h k l = absurd (omega arith)
first_some-none (o ∷ os) h zero l = (or_else-none o (first_some os) h).0
first_some-none (o ∷ os) h (suc k) l = first_some-none os (or_else-none o (first_some os) h).1 k (omega arith)

option_map-none : {A B : Type 0} (f : A → B) (o : Option A) → option_map f o ≡ None → o ≡ None
option_map-none f (Some x) h = absurd (cc)
option_map-none f None h = refl

fault_if-none : (b : Bool) (f : Fault) → fault_if b f ≡ None → b ≡ false
fault_if-none true f h = absurd (cc)
fault_if-none false f h = refl

chosen-none : (b : Bool) (n : ℕ) → cond b (Some n) None ≡ None → b ≡ false
chosen-none true n h = absurd (cc)
chosen-none false n h = refl

least-none_each : (p : ℕ → Bool) (n : ℕ) → least p n ≡ None → (k : ℕ) → k < n → p k ≡ false
unfolding least
least-none_each p zero h k l = absurd (omega arith)
least-none_each p (suc n) h k l =
    let parts = or_else-none (least p n) (cond (p n) (Some n) None) h in
    ⊎_elim
    (λ (r : k < n). least-none_each p n parts.0 k r)
    (λ (r : n ≤ k). let e : k ≡ n = omega arith in ap p e ∙ chosen-none (p n) n parts.1)
    (cases_lt k n)

first_place-none_each : (test : Segment → Bool) (hs : List Segment) → first_place (λ k. test (nth hs k)) hs ≡ None → All (λ s. test s ≡ false) hs
first_place-none_each test hs h k d l = ap test (get_or_default hs k d (nth [] 0) l) ∙ least-none_each (λ i. test (nth hs i)) (length hs) h k l

-- where the checks find nothing, no segment is bad, and the entry is one
pub record HasNoFault (n a : ℕ) (hs : List Segment) : Type 0 where
  pub sizes : All (λ s. is_bad n s ≡ false) hs
  pub entry : is_entry hs a ≡ true

pub HasNoFault-from : (n a : ℕ) (hs : List Segment) → first_some (segment_faults n a hs) ≡ None → HasNoFault n a hs
HasNoFault-from n a hs h = record {
  sizes = first_place-none_each (is_bad n) hs (option_map-none image.BadSegment (first_place (λ k. is_bad n (nth hs k)) hs) (first_some-none (segment_faults n a hs) h 1 (omega arith)));
  entry = not-false (is_entry hs a) (fault_if-none (not (is_entry hs a)) image.Entry (first_some-none (segment_faults n a hs) h 5 (omega arith)));
}

-- a loaded segment that is not bad
pub record IsSound (n : ℕ) (s : Segment) : Type 0 where
  pub file : 0 < s.file_size → s.offset + s.file_size ≤ n
  pub memory : end_of s ≤ 2 ^ 32

pub IsSound-from : (n : ℕ) (s : Segment) → is_bad n s ≡ false → is_load s ≡ true → IsSound n s
IsSound-from n s h l = record { file = λ r. grind (arith, nat_tests); memory = grind (arith, nat_tests) }

-- ---- the end of the segment that ends last

last_end-first : (n : ℕ) (s : Segment) (hs : List Segment) (b : Bool) → has_bytes s ≡ b → is_bad n s ≡ false → last_end hs ≤ 2 ^ 32 → last_end (s ∷ hs) ≤ 2 ^ 32
last_end-first n s hs true e h r =
    let end : end_of s ≤ 2 ^ 32 = (IsSound-from n s h (and_parts (is_load s) (nat_lt 0 s.memory_size) e).0).memory in
    rw e (omega arith)
last_end-first n s hs false e h r = rw e (omega arith)

pub last_end-bound : (n : ℕ) (hs : List Segment) → All (λ s. is_bad n s ≡ false) hs → last_end hs ≤ 2 ^ 32
last_end-bound n [] h = omega arith
last_end-bound n (s ∷ hs) h = last_end-first n s hs (has_bytes s) refl (All-head (λ x. is_bad n x ≡ false) s hs h) (last_end-bound n hs (All-tail (λ x. is_bad n x ≡ false) s hs h))

pub last_end-at : (hs : List Segment) (k : ℕ) (d : Segment) → k < length hs → has_bytes (get_or hs k d) ≡ true → end_of (get_or hs k d) ≤ last_end hs
last_end-at [] k d l h = absurd (omega arith)
last_end-at (s ∷ hs) zero d l h = rw h (omega arith)
last_end-at (s ∷ hs) (suc k) d l h =
    let rest : end_of (get_or hs k d) ≤ last_end hs = last_end-at hs k d (omega arith) h in
    omega arith
