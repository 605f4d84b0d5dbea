-- The runs below an address, and below the next
use Rattle.std.proofs.Common.{◌≡◌, ℕ, zero, suc, ◌+◌, ◌<◌, ◌≤◌, inl, inr, Bool, true, false, List, [], ◌∷◌, ◌++◌, Option, Some, None, refl, sym, ◌∙◌, ap, subst, arith}
use Rattle.std.proofs.lemmas.Bool.{cases_Bool, cases_lt, cond-true, cond-false}
use Rattle.byte_runs.specs.Runs.{Span, AreRunsOf, joined, runs_below, marked_below}
use Rattle.byte_runs.specs.Collection.{IsEnd}
use Rattle.byte_runs.proofs.OnJoined.{single, longer, joined_grows, joined_begins, joined_apart, joined_ends}
use Rattle.byte_runs.proofs.OnRuns.{no_runs, runs_alike, below_alike, ends_before, runs_begin, runs_grow}

pub next : (q : ℕ) → q + 1 ≡ suc q
next q = omega arith

pub below_zero : (p : ℕ → Bool) → runs_below p 0 ≡ []
unfolding runs_below
below_zero p = refl

pub below_marked : (p : ℕ → Bool) (q : ℕ) → p q ≡ true → runs_below p (q + 1) ≡ joined (runs_below p q) q
unfolding runs_below
below_marked p q h = ap (runs_below p) (next q) ∙ cond-true (p q) (joined (runs_below p q) q) (runs_below p q) h

pub below_unmarked : (p : ℕ → Bool) (q : ℕ) → p q ≡ false → runs_below p (q + 1) ≡ runs_below p q
unfolding runs_below
below_unmarked p q h = ap (runs_below p) (next q) ∙ cond-false (p q) (joined (runs_below p q) q) (runs_below p q) h

-- addresses without a mark leave the runs as they are
pub runs_pass : (p : ℕ → Bool) (q t : ℕ) → q ≤ t → ((a : ℕ) → q ≤ a → a < t → p a ≡ false) → runs_below p t ≡ runs_below p q
runs_pass p q zero le none = let e : zero ≡ q = omega (arith, le) in ap (runs_below p) e
runs_pass p q (suc t) le none = elim (cases_lt t q) [
  | inl l ↦ let e : suc t ≡ q = omega (arith, le, l) in ap (runs_below p) e
  | inr r ↦ ap (runs_below p) (sym (next t)) ∙ below_unmarked p t (none t r (omega arith)) ∙ runs_pass p q t r (λ a l m. none a l (omega (arith, m)))
]

-- a marked address at the end of the last run makes it longer
pub below_grows : (p : ℕ → Bool) (q : ℕ) (front : List Span) (last : Span) → p q ≡ true → runs_below p q ≡ front ++ (last ∷ []) → last.address + last.length ≡ q → runs_below p (q + 1) ≡ front ++ (longer last ∷ [])
below_grows p q front last here is end = below_marked p q here ∙ ap (λ (rs : List Span). joined rs q) is ∙ joined_grows front last q end

-- any other begins a run
pub below_begins : (p : ℕ → Bool) (q : ℕ) (end : Option ℕ) → p q ≡ true → IsEnd (runs_below p q) end → (end ≡ Some q → ⊥) → runs_below p (q + 1) ≡ runs_below p q ++ (single q ∷ [])
below_begins p q None here is apart = below_marked p q here ∙ ap (λ (rs : List Span). joined rs q) is ∙ sym (ap (λ (rs : List Span). rs ++ (single q ∷ [])) is)
below_begins p q (Some e) here is apart =
    below_marked p q here
    ∙ ap (λ (rs : List Span). joined rs q) is.2
    ∙ joined_begins is.0 is.1 q (λ at. apart (ap Some (sym is.3 ∙ at)))
    ∙ sym (ap (λ (rs : List Span). rs ++ (single q ∷ [])) is.2)

-- ---- these are the runs

abbrev Maximal : (ℕ → Bool) → ℕ → Type 0
Maximal p q = AreRunsOf (marked_below p q) (runs_below p q)

step_none : (p : ℕ → Bool) (q : ℕ) → p q ≡ false → Maximal p q → Maximal p (q + 1)
step_none p q none h =
    subst (AreRunsOf (marked_below p (q + 1))) (sym (below_unmarked p q none))
    (runs_alike (marked_below p q) (marked_below p (q + 1)) (runs_below p q) (λ a. below_alike p q (q + 1) a (omega arith) (λ l r. let e : a ≡ q = omega (arith, l, r) in ap p e ∙ none)) h)

step_grows : (p : ℕ → Bool) (q : ℕ) → p q ≡ true → IsEnd (runs_below p q) (Some q) → Maximal p q → Maximal p (q + 1)
step_grows p q here end h =
    subst (AreRunsOf (marked_below p (q + 1))) (sym (below_grows p q end.0 end.1 here end.2 end.3))
    (runs_grow p q end.0 end.1 here end.3 (subst (AreRunsOf (marked_below p q)) end.2 h))

step_begins : (p : ℕ → Bool) (q : ℕ) → p q ≡ true → ((a : ℕ) → a + 1 ≡ q → p a ≡ false) → Maximal p q → Maximal p (q + 1)
step_begins p q here before h =
    subst (AreRunsOf (marked_below p (q + 1))) (sym (below_marked p q here ∙ joined_apart (runs_below p q) q (ends_before p q (runs_below p q) before h)))
    (runs_begin p q (runs_below p q) here before h)

step_marked : (p : ℕ → Bool) (q : ℕ) → p q ≡ true → Maximal p q → Maximal p (q + 1)
step_marked p zero here h = step_begins p zero here (λ a e. absurd (omega (arith, e))) h
step_marked p (suc a) here h = elim (cases_Bool (p a)) [
  | inl marked ↦
      let end : IsEnd (runs_below p (a + 1)) (Some (a + 1)) = subst (λ (rs : List Span). IsEnd rs (Some (a + 1))) (sym (below_marked p a marked)) (joined_ends (runs_below p a) a) in
      step_grows p (suc a) here (subst (λ (q : ℕ). IsEnd (runs_below p q) (Some q)) (next a) end) h
  | inr none ↦ step_begins p (suc a) here (λ b e. let is : b ≡ a = omega (arith, e) in ap p is ∙ none) h
]

-- the runs below an address are all runs of the marks there
pub runs_maximal : (p : ℕ → Bool) (q : ℕ) → AreRunsOf (marked_below p q) (runs_below p q)
runs_maximal p zero = subst (AreRunsOf (marked_below p 0)) (sym (below_zero p)) (no_runs p)
runs_maximal p (suc q) = subst (Maximal p) (next q) (elim (cases_Bool (p q)) [
  | inl here ↦ step_marked p q here (runs_maximal p q)
  | inr none ↦ step_none p q none (runs_maximal p q)
])
