-- One address more, above all of some runs
use Rattle.std.proofs.Common.{◌≡◌, ℕ, suc, ◌+◌, ◌<◌, inl, inr, true, false, ◌==◌, List, [], ◌∷◌, ◌++◌, Some, refl, sym, ◌∙◌, ap, append_assoc, arith}
use Rattle.std.specs.Prelude.{All}
use Rattle.std.proofs.lemmas.Bool.{cases_eq, cond-true, cond-false}
use Rattle.std.proofs.lemmas.Bool.Decides.{nat_tests}
use Rattle.byte_runs.specs.Runs.{Span, joined, BeginsAt}
use Rattle.byte_runs.specs.Collection.{IsEnd}

-- a run of one address, and a run with one more
abbrev pub single : ℕ → Span
single q = record { address = q; length = 1 }

abbrev pub longer : Span → Span
longer r = record { address = r.address; length = r.length + 1 }

apart : (x q : ℕ) → (x ≡ q → ⊥) → (x == q) ≡ false
apart x q ne = grind (arith, nat_tests)

same : (x q : ℕ) → x ≡ q → (x == q) ≡ true
same x q e = grind (arith, nat_tests)

-- only the last run is looked at
joined_last : (front : List Span) (last : Span) (q : ℕ) → joined (front ++ (last ∷ [])) q ≡ front ++ joined (last ∷ []) q
joined_last [] last q = refl
joined_last (r ∷ []) last q = refl
joined_last (r ∷ (s ∷ rs)) last q = ap (λ (xs : List Span). r ∷ xs) (joined_last (s ∷ rs) last q)

pub joined_grows : (front : List Span) (last : Span) (q : ℕ) → last.address + last.length ≡ q → joined (front ++ (last ∷ [])) q ≡ front ++ (longer last ∷ [])
joined_grows front last q e =
    let test : (last.address + last.length == q) ≡ true = same (last.address + last.length) q e in
    joined_last front last q ∙ ap (λ (xs : List Span). front ++ xs) (cond-true (last.address + last.length == q) (longer last ∷ []) (last ∷ (single q ∷ [])) test)

pub joined_begins : (front : List Span) (last : Span) (q : ℕ) → (last.address + last.length ≡ q → ⊥) → joined (front ++ (last ∷ [])) q ≡ (front ++ (last ∷ [])) ++ (single q ∷ [])
joined_begins front last q ne =
    let test : (last.address + last.length == q) ≡ false = apart (last.address + last.length) q ne in
    joined_last front last q
    ∙ ap (λ (xs : List Span). front ++ xs) (cond-false (last.address + last.length == q) (longer last ∷ []) (last ∷ (single q ∷ [])) test)
    ∙ sym (append_assoc front (last ∷ []) (single q ∷ []))

-- behind runs that all end before it, an address begins a run
pub joined_apart : (rs : List Span) (q : ℕ) → All (λ r. r.address + r.length < q) rs → joined rs q ≡ rs ++ (single q ∷ [])
joined_apart [] q low = refl
joined_apart (r ∷ []) q low = joined_begins [] r q (λ e. omega (arith, e, low 0 r (omega arith)))
joined_apart (r ∷ (s ∷ rs)) q low = ap (λ (xs : List Span). r ∷ xs) (joined_apart (s ∷ rs) q (λ k d l. low (suc k) d (omega (arith, l))))

-- the last run ends behind the address
pub joined_ends : (rs : List Span) (q : ℕ) → IsEnd (joined rs q) (Some (q + 1))
joined_ends [] q = ([], single q, refl, refl)
joined_ends (r ∷ []) q = elim (cases_eq (r.address + r.length) q) [
  | inl e ↦ ([], longer r, joined_grows [] r q e, omega (arith, e))
  | inr ne ↦ (r ∷ [], single q, joined_begins [] r q ne, refl)
]
joined_ends (r ∷ (s ∷ rs)) q = let rest = joined_ends (s ∷ rs) q in (r ∷ rest.0, rest.1, ap (λ (xs : List Span). r ∷ xs) rest.2, rest.3)

-- the first run begins where it began
pub joined_first : (r : Span) (rs : List Span) (q : ℕ) → BeginsAt (joined (r ∷ rs) q) r.address
joined_first r [] q = elim (cases_eq (r.address + r.length) q) [
  | inl e ↦ (longer r, [], joined_grows [] r q e, refl)
  | inr ne ↦ (r, single q ∷ [], joined_begins [] r q ne, refl)
]
joined_first r (s ∷ rs) q = (r, joined (s ∷ rs) q, refl, refl)
