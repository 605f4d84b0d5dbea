-- The least place that passes a test
use Rattle.std.proofs.Common.{◌≡◌, ℕ, zero, suc, ◌+◌, ◌<◌, Bool, true, false, ◌||◌, ◌&&◌, Option, Some, None, refl, sym, ap, ◌∙◌, arith, ⊎_elim}
use Rattle.std.specs.Prelude.{◌==◌, if◌then◌else◌}
use Rattle.std.proofs.lemmas.Bool.{cases_Bool, cases_eq, and_from, and_left, and_right, eq-eqb, ne_eqb}
use Rattle.guest_model.specs.Difference.{least, or_else}
use Rattle.rv32_asm.specs.Resolved.{lesser}

pub least-suc : (p : ℕ → Bool) (n : ℕ) → least p (suc n) ≡ or_else (least p n) (if p n then Some n else None)
unfolding least
least-suc p n = refl

-- one more place, which doesn't pass
pub least_more : (p : ℕ → Bool) (k : ℕ) → least p k ≡ None → p k ≡ false → least p (k + 1) ≡ None
least_more p k none fails =
    let e : k + 1 ≡ suc k = omega arith in
    ap (least p) e ∙ least-suc p k ∙ ap (λ o. or_else o (if p k then Some k else None)) none ∙ ap (λ b. if b then Some k else None) fails

-- the first place that passes is the least, however far one looks
pub least_at : (p : ℕ → Bool) (k n : ℕ) → least p k ≡ None → p k ≡ true → k < n → least p n ≡ Some k
least_at p k zero none passes h = absurd (omega arith)
least_at p k (suc n) none passes h = ⊎_elim
    (λ (e : k ≡ n).
    least-suc p n
    ∙ ap (λ m. or_else (least p m) (if p m then Some m else None)) (sym e)
    ∙ ap (λ o. or_else o (if p k then Some k else None)) none
    ∙ ap (λ b. if b then Some k else None) passes)
    (λ (ne : k ≡ n → ⊥).
    let lt : k < n = omega (arith, ne) in
    least-suc p n ∙ ap (λ o. or_else o (if p n then Some n else None)) (least_at p k n none passes lt))
    (cases_eq k n)

pub least_below : (p : ℕ → Bool) (n x : ℕ) → least p n ≡ Some x → x < n
unfolding least
least_below p zero x e = absurd (cc)
least_below p (suc n) x e = elim (least p n) as (λ o. least p n ≡ o → or_else o (if p n then Some n else None) ≡ Some x → x < suc n) [
  | Some y ↦ λ is eq. let below : y < n = least_below p n y is in let same : y ≡ x = cc in omega arith
  | None ↦ λ is eq. elim (p n) as (λ b. (if b then Some n else None) ≡ Some x → x < suc n) [ true ↦ λ s. let same : n ≡ x = cc in omega arith | false ↦ λ s. absurd (cc) ] eq
] refl e

joined : (a b : Option ℕ) (s t : Bool) (n : ℕ) → ((x : ℕ) → a ≡ Some x → x < n) → ((x : ℕ) → b ≡ Some x → x < n)
    → or_else (lesser a b) (if s || t then Some n else None) ≡ lesser (or_else a (if s then Some n else None)) (or_else b (if t then Some n else None))
joined (Some x) (Some y) s t n ha hb = refl
joined (Some x) None s true n ha hb = let below : x < n = ha x refl in ap Some (omega arith)
joined (Some x) None s false n ha hb = refl
joined None (Some y) true t n ha hb = let below : y < n = hb y refl in ap Some (omega arith)
joined None (Some y) false t n ha hb = refl
joined None None true true n ha hb = ap Some (omega arith)
joined None None true false n ha hb = refl
joined None None false true n ha hb = refl
joined None None false false n ha hb = refl

-- the least place at which one of two tests passes
pub least-or : (p q : ℕ → Bool) (n : ℕ) → least (λ k. p k || q k) n ≡ lesser (least p n) (least q n)
unfolding least
least-or p q zero = refl
least-or p q (suc n) =
    let below_p : (x : ℕ) → least p n ≡ Some x → x < n = least_below p n in
    let below_q : (x : ℕ) → least q n ≡ Some x → x < n = least_below q n in
    ap (λ o. or_else o (if p n || q n then Some n else None)) (least-or p q n)
    ∙ joined (least p n) (least q n) (p n) (q n) n below_p below_q

-- a test that passes nowhere
pub least_never : (p : ℕ → Bool) (n : ℕ) → ((k : ℕ) → k < n → p k ≡ false) → least p n ≡ None
unfolding least
least_never p zero h = refl
least_never p (suc n) h =
    ap (λ o. or_else o (if p n then Some n else None)) (least_never p n (λ k l. h k (omega arith)))
    ∙ ap (λ b. if b then Some n else None) (h n (omega arith))

fails : (u : ℕ → Bool) (to k : ℕ) → u to ≡ false → (u k && k == to) ≡ false
fails u to k e = ⊎_elim
    (λ (same : k ≡ to). and_left (u k) (k == to) (ap u same ∙ e))
    (λ (other : k ≡ to → ⊥). and_right (u k) (k == to) (ne_eqb k to other))
    (cases_eq k to)

-- a test that passes at one place at most
pub least_one : (u : ℕ → Bool) (to n : ℕ) → to < n → least (λ k. u k && k == to) n ≡ (if u to then Some to else None)
least_one u to n h =
    let before : least (λ k. u k && k == to) to ≡ None = least_never (λ k. u k && k == to) to (λ k l. and_right (u k) (k == to) (ne_eqb k to (omega arith))) in
    let at : (to == to) ≡ true = eq-eqb to to refl in
    ⊎_elim
    (λ (e : u to ≡ true). least_at (λ k. u k && k == to) to n before (and_from (u to) (to == to) e at) h ∙ ap (λ b. if b then Some to else None) (sym e))
    (λ (e : u to ≡ false). least_never (λ k. u k && k == to) n (λ k l. fails u to k e) ∙ ap (λ b. if b then Some to else None) (sym e))
    (cases_Bool (u to))
