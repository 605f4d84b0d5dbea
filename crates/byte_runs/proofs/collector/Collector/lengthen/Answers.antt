use Rattle.std.proofs.Common.{◌≡◌, ℕ, ◌+◌, ◌-◌, ◌<◌, ◌≤◌, ◌∙◌, inr, List, [], ◌∷◌, ◌++◌, length, get_or, set, take, refl, sym, ap, arith}
use Rattle.std.proofs.lemmas.List.{length-set, take_all, take_more, take_more_set}
use Rattle.byte_runs.specs.declared.run.Run.{Run}
use Rattle.byte_runs.specs.Collection.{Lengthens, shown_more}
use Rattle.byte_runs.proofs.OnAdding.{shown_push, shown_full}
use Rattle.byte_runs.proofs.collector.Collector.lengthen.Goals as goal

-- the run at the last place is replaced
last_set : (old : List Run) (at x y : ℕ) (was is : Run) → at + 1 ≡ length old → was ≡ get_or old at was → is.address ≡ was.address → (was.length + 1 < 18446744073709551616 → is.length ≡ was.length + 1) → is.left.items ≡ shown_more was.left.items x
    → (length was.left.items ≡ length was.right.items → is.right.items ≡ shown_more was.right.items y) → Lengthens old (set old at is) x y
last_set old at x y was is end here address more left right = inr (
  take at old,
  was,
  is,
  sym (take_all (at + 1) old (omega (arith, end))) ∙ take_more old at was (omega (arith, end)) ∙ ap (λ (r : Run). take at old ++ (r ∷ [])) (sym here),
  sym (take_all (at + 1) (set old at is) (omega (arith, end, length-set old at is))) ∙ take_more_set old at is (omega (arith, end)),
  address,
  more,
  left,
  right,
)

pub returns-in_ok-push-2-clause-longer : goal.returns-in_ok-push-2-clause-longer
returns-in_ok-push-2-clause-longer c =
    let old = c.args.self.now.runs in
    let was : Run = c.in-Some.run'.now in
    let is : Run = record { address = was.address; length = c.saturating_add-run.result; left = c.push.new.self; right = c.push-then-len-lt-SHOWN.new.self } in
    let low : length was.left.items < 16 = omega (arith, c.if-len-lt-SHOWN.true, c.len.ensures, was.left.ok) in
    last_set old.items (old.len - 1) c.args.left c.args.right was is
    (omega (arith, c.in-Some.ensures.variant.0 refl, old.ok)) c.in-Some.ensures.value refl
    (λ fits. omega (arith, c.saturating_add-run.ensures, fits))
    (shown_push was.left.items c.push.new.self.items c.args.left low c.in_ok-push.ensures.items)
    (λ same. shown_push was.right.items c.push-then-len-lt-SHOWN.new.self.items c.args.right (omega (arith, low, same)) c.in_ok-push-2.ensures.items)

pub returns-else-len-lt-SHOWN-clause-longer : goal.returns-else-len-lt-SHOWN-clause-longer
returns-else-len-lt-SHOWN-clause-longer c =
    let old = c.args.self.now.runs in
    let was : Run = c.in-Some.run'.now in
    let is : Run = record { address = was.address; length = c.saturating_add-run.result; left = was.left; right = was.right } in
    let high : 16 ≤ length was.left.items = omega (arith, c.if-len-lt-SHOWN.false, c.len.ensures, was.left.ok) in
    last_set old.items (old.len - 1) c.args.left c.args.right was is
    (omega (arith, c.in-Some.ensures.variant.0 refl, old.ok)) c.in-Some.ensures.value refl
    (λ fits. omega (arith, c.saturating_add-run.ensures, fits))
    (shown_full was.left.items c.args.left high)
    (λ same. shown_full was.right.items c.args.right (omega (arith, high, same)))
