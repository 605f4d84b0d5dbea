-- The least place in the program header table at which a test holds
use Rattle.std.proofs.Common.{◌≡◌, ℕ, zero, suc, ◌<◌, ◌≤◌, Bool, true, false, cond, List, [], length, get_or, Some, None, ⊎_elim, refl, sym, ap, ◌∙◌, arith}
use Rattle.std.specs.Prelude.{option_map}
use Rattle.std.proofs.lemmas.Bool.{cases_lt}
use Rattle.std.proofs.lemmas.List.{get_or_read}
use Rattle.guest_model.specs.Difference.{least, or_else}
use Rattle.guest_model.specs.ImageFault.{Fault, nth, first_place}
use Rattle.guest_model.specs.Segment.{Segment}

pub least-none : (p : ℕ → Bool) (n : ℕ) → ((k : ℕ) → k < n → p k ≡ false) → least p n ≡ None
unfolding least
least-none p zero h = refl
least-none p (suc n) h =
    ap (λ o. or_else o (cond (p n) (Some n) None)) (least-none p n (λ k l. h k (omega arith)))
    ∙ ap (λ b. cond b (Some n) None) (h n (omega arith))

pub least-found : (p : ℕ → Bool) (n k : ℕ) → k < n → p k ≡ true → ((j : ℕ) → j < k → p j ≡ false) → least p n ≡ Some k
unfolding least
least-found p zero k l t h = absurd (omega arith)
least-found p (suc n) k l t h = ⊎_elim
    (λ (r : k < n). ap (λ o. or_else o (cond (p n) (Some n) None)) (least-found p n k r t h))
    (λ (r : n ≤ k).
    let e : k ≡ n = omega arith in
    ap (λ o. or_else o (cond (p n) (Some n) None)) (least-none p n (λ j m. h j (omega arith)))
    ∙ ap (λ b. cond b (Some n) None) (ap p (sym e) ∙ t)
    ∙ ap Some (sym e))
    (cases_lt k n)

-- ---- a loop over the headers, which reads x at place i and gets b from the test

pub test-at : (test : Segment → Bool) (hs : List Segment) (i : ℕ) (x : Segment) (b : Bool) → i < length hs → x ≡ get_or hs i x → b ≡ test x → b ≡ true → test (nth hs i) ≡ true
test-at test hs i x b l r e t = ap test (sym (get_or_read hs i x l r (nth [] 0))) ∙ sym e ∙ t

pub fault-found : (f : ℕ → Fault) (test : Segment → Bool) (hs : List Segment) (i : ℕ) (x : Segment) (b : Bool) → i < length hs → x ≡ get_or hs i x → b ≡ test x → b ≡ true → ((k : ℕ) → k < i → test (nth hs k) ≡ false) → option_map f (first_place (λ k. test (nth hs k)) hs) ≡ Some (f i)
fault-found f test hs i x b l r e t h = ap (option_map f) (least-found (λ k. test (nth hs k)) (length hs) i l (test-at test hs i x b l r e t) h)

pub fault-none : (f : ℕ → Fault) (test : Segment → Bool) (hs : List Segment) (i : ℕ) → length hs ≤ i → ((k : ℕ) → k < i → test (nth hs k) ≡ false) → option_map f (first_place (λ k. test (nth hs k)) hs) ≡ None
fault-none f test hs i l h = ap (option_map f) (least-none (λ k. test (nth hs k)) (length hs) (λ k r. h k (omega arith)))
