-- Where the first run begins
use Rattle.std.proofs.Common.{◌≡◌, ℕ, zero, suc, ◌+◌, ◌⊎◌, inl, inr, Bool, true, false, cond, List, [], ◌∷◌, Option, Some, None, refl, sym, ◌∙◌, ap, subst}
use Rattle.std.proofs.lemmas.Option.{none-some, same_Some}
use Rattle.guest_model.specs.Difference.{least, or_else}
use Rattle.byte_runs.specs.Runs.{Span, BeginsAt, joined, runs_below}
use Rattle.byte_runs.proofs.OnJoined.{single, joined_first}
use Rattle.byte_runs.proofs.OnBelow.{next, below_zero, below_marked, below_unmarked}

is_none : (o : Option ℕ) (b : Bool) (n : ℕ) → or_else o (cond b (Some n) None) ≡ None → (o ≡ None) × (b ≡ false)
is_none (Some x) b n e = absurd (none-some x (sym e))
is_none None true n e = absurd (none-some n (sym e))
is_none None false n e = (refl, refl)

is_some : (o : Option ℕ) (b : Bool) (n a : ℕ) → or_else o (cond b (Some n) None) ≡ Some a → (o ≡ Some a) ⊎ ((o ≡ None) × (b ≡ true) × (n ≡ a))
is_some (Some x) b n a e = inl e
is_some None true n a e = inr (refl, refl, same_Some n a e)
is_some None false n a e = absurd (none-some a e)

pub first_none : (p : ℕ → Bool) (n : ℕ) → least p n ≡ None → runs_below p n ≡ []
unfolding least
first_none p zero e = below_zero p
first_none p (suc n) e =
    let both = is_none (least p n) (p n) n e in
    ap (runs_below p) (sym (next n)) ∙ below_unmarked p n both.1 ∙ first_none p n both.0

begins_joined : (rs : List Span) (q a : ℕ) → BeginsAt rs a → BeginsAt (joined rs q) a
begins_joined rs q a h =
    subst (λ (xs : List Span). BeginsAt (joined xs q) a) (sym h.2) (subst (BeginsAt (joined (h.0 ∷ h.1) q)) h.3 (joined_first h.0 h.1 q))

begins_next : (p : ℕ → Bool) (q a : ℕ) (b : Bool) → p q ≡ b → BeginsAt (runs_below p q) a → BeginsAt (runs_below p (q + 1)) a
begins_next p q a true e h = subst (λ (rs : List Span). BeginsAt rs a) (sym (below_marked p q e)) (begins_joined (runs_below p q) q a h)
begins_next p q a false e h = subst (λ (rs : List Span). BeginsAt rs a) (sym (below_unmarked p q e)) h

pub first_some : (p : ℕ → Bool) (n a : ℕ) → least p n ≡ Some a → BeginsAt (runs_below p n) a
unfolding least
first_some p zero a e = absurd (none-some a e)
first_some p (suc n) a e = subst (λ (k : ℕ). BeginsAt (runs_below p k) a) (next n) (elim (is_some (least p n) (p n) n a e) [
  | inl old ↦ begins_next p n a (p n) refl (first_some p n a old)
  | inr new ↦ (single n, [], below_marked p n new.1 ∙ ap (λ (rs : List Span). joined rs n) (first_none p n new.0), new.2)
])
