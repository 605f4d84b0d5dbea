-- What a collector knows, from one address to the next that differs
use Rattle.std.proofs.Common.{◌≡◌, ℕ, ◌+◌, ◌*◌, ◌-◌, ◌^◌, ◌<◌, ◌≤◌, inl, inr, true, false, not, List, [], length, map, take, nat_eq, Option, Some, None, refl, sym, ◌∙◌, ap, subst, arith}
use Rattle.std.specs.Prelude.{All}
use Rattle.std.proofs.lemmas.Bool.{cases_lt, eq-eqb}
use Rattle.std.proofs.lemmas.Bool.Decides.{nat_tests}
use Rattle.std.proofs.lemmas.List.{take_all}
use Rattle.std.proofs.lemmas.List.Elements.{All-nil}
use Rattle.guest_model.specs.ByteMap.{ByteMap}
use Rattle.guest_model.specs.Difference.{same_byte}
use Rattle.page_compare.specs.Comparison.{SamePage}
use Rattle.byte_runs.specs.declared.collector.Collector.{Collector}
use Rattle.byte_runs.specs.Runs.{Span, Shows, differs, differing, runs_below, span_of}
use Rattle.byte_runs.specs.Collection.{Collected, IsEnd}
use Rattle.byte_runs.proofs.OnBelow.{below_zero, runs_pass}

same-refl : (o : Option ℕ) → same_byte o o ≡ true
same-refl None = refl
same-refl (Some x) = eq-eqb x x refl

-- equal bytes don't differ
pub alike : (m n : ByteMap) (q : ℕ) → m q ≡ n q → differs m n q ≡ false
alike m n q h = ap (λ (o : Option ℕ). not (same_byte (m q) o)) (sym h) ∙ ap not (same-refl (m q))

-- nothing was looked at
pub collected_none : (m n : ByteMap) (c : Collector) → c.runs.items ≡ [] → c.more ≡ 0 → c.end ≡ None → Collected m n 0 c
collected_none m n c items more end =
    let none : [] ≡ runs_below (differs m n) 0 = sym (below_zero (differs m n)) in
    record {
      kept = ap (map span_of) items ∙ sym (take_all c.most [] (omega arith)) ∙ ap (take c.most) none;
      bytes = subst (All (Shows m n)) (sym items) (All-nil (Shows m n));
      more = subst (λ (rs : List Span). c.more ≡ length rs - c.most) none (omega (arith, more));
      few = omega (arith, more);
      end = subst (IsEnd (runs_below (differs m n) 0)) (sym end) (sym none);
    }

-- addresses that don't differ change nothing
pub collected_pass : (m n : ByteMap) (q t : ℕ) (c : Collector) → q ≤ t → ((a : ℕ) → q ≤ a → a < t → m a ≡ n a) → Collected m n q c → Collected m n t c
collected_pass m n q t c le same h =
    let e : runs_below (differs m n) q ≡ runs_below (differs m n) t = sym (runs_pass (differs m n) q t le (λ a l r. alike m n a (same a l r))) in
    record {
      kept = h.kept ∙ ap (take c.most) e;
      bytes = h.bytes;
      more = h.more ∙ ap (λ (rs : List Span). length rs - c.most) e;
      few = omega (arith, h.few, le);
      end = subst (λ (rs : List Span). IsEnd rs c.end) e h.end;
    }

pub same_page : (m n : ByteMap) (page : ℕ) (c : Collector) → SamePage m n page → Collected m n (page * 4096) c → Collected m n (page * 4096 + 4096) c
same_page m n page c same h = collected_pass m n (page * 4096) (page * 4096 + 4096) c (omega arith) (λ a l r.
    let at : page * 4096 + (a - page * 4096) ≡ a = omega (arith, l) in
    ap m (sym at) ∙ same (a - page * 4096) (omega (arith, l, r)) ∙ ap n at) h

-- where no byte from q on differs, all runs are there
pub all_runs : (m n : ByteMap) (q : ℕ) → ((a : ℕ) → q ≤ a → m a ≡ n a) → ((a : ℕ) → 2 ^ 32 ≤ a → m a ≡ n a) → runs_below (differs m n) q ≡ differing m n
all_runs m n q same past = elim (cases_lt q (2 ^ 32)) [
  | inl l ↦ sym (runs_pass (differs m n) q (2 ^ 32) (omega (arith, l)) (λ a b r. alike m n a (same a b)))
  | inr r ↦ runs_pass (differs m n) (2 ^ 32) q r (λ a b s. alike m n a (past a b))
]

unequal : (x y : ℕ) → (x ≡ y → ⊥) → not (nat_eq x y) ≡ true
unequal x y ne = grind (arith, nat_tests)

-- two bytes that are not the same differ
pub differs-at : (m n : ByteMap) (q x y : ℕ) → m q ≡ Some x → n q ≡ Some y → (x ≡ y → ⊥) → differs m n q ≡ true
differs-at m n q x y l r ne = ap (λ (o : Option ℕ). not (same_byte o (n q))) l ∙ ap (λ (o : Option ℕ). not (same_byte (Some x) o)) r ∙ unequal x y ne

pub step_same : (m n : ByteMap) (first k : ℕ) (c : Collector) → m (first + k) ≡ n (first + k) → Collected m n (first + k) c → Collected m n (first + (k + 1)) c
step_same m n first k c same h = collected_pass m n (first + k) (first + (k + 1)) c (omega arith) (λ a l r.
    let at : a ≡ first + k = omega (arith, l, r) in
    ap m at ∙ same ∙ ap n (sym at)) h

pub step_next : (m n : ByteMap) (first k : ℕ) (c : Collector) → Collected m n ((first + k) + 1) c → Collected m n (first + (k + 1)) c
step_next m n first k c h =
    let e : (first + k) + 1 ≡ first + (k + 1) = omega arith in
    subst (λ (q : ℕ). Collected m n q c) e h
