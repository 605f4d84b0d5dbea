use Rattle.std.proofs.Common.{ap, ◌∙◌, sym, subst, arith}
use Rattle.speculation.specs.Core.{held_size}
use Rattle.held_output.specs.Held.{IsHeld}
use Rattle.held_output.proofs.OnHeld.{held_size-take, IsHeld-take, Counted-drop}
use Rattle.held_output.proofs.held.Held.cut.Goals as goal

pub total-size-requires : goal.total-size-requires
total-size-requires c =
    let whole = c.deref-2.ensures.value ∙ ap (λ v. v.items) c.replace-pieces.ensures.value ∙ c.in_ok-rest.ensures.items in
    omega (arith, ap held_size whole, held_size-take c.count_upto-count.result c.self.inside.pieces.items, c.self.invariant.0.fits)

pub overflow_sub-self : goal.overflow_sub-self
overflow_sub-self c =
    let whole = c.deref-2.ensures.value ∙ ap (λ v. v.items) c.replace-pieces.ensures.value ∙ c.in_ok-rest.ensures.items in
    omega (arith, ap held_size whole, held_size-take c.count_upto-count.result c.self.inside.pieces.items, c.self.invariant.1)

pub invariant_of-result : goal.invariant_of-result
invariant_of-result c =
    let whole = ap (λ v. v.items) c.replace-pieces.ensures.value ∙ c.in_ok-rest.ensures.items in
    (subst IsHeld (sym whole) (IsHeld-take _ _ c.self.invariant.0), c.total-size.ensures ∙ ap held_size c.deref-2.ensures.value)

pub invariant_of-self-2 : goal.invariant_of-self-2
invariant_of-self-2 c =
    let whole = c.deref-2.ensures.value ∙ ap (λ v. v.items) c.replace-pieces.ensures.value ∙ c.in_ok-rest.ensures.items in
    Counted-drop c.count_upto-count.result _ _ _ _ c.self.invariant (c.total-size.ensures ∙ ap held_size whole) (ap (λ v. v.items) c.replace-pieces.ensures.after ∙ c.in_ok-rest.ensures.tail)

pub returns-clause-sound : goal.returns-clause-sound
returns-clause-sound c = (invariant_of-self-2 c).0
