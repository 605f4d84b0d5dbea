use Rattle.std.proofs.Common.{take, ap, ◌∙◌, arith}
use Rattle.speculation.specs.Core.{held_size}
use Rattle.held_output.proofs.OnHeld.{held_size-take, Counted-drop}
use Rattle.held_output.proofs.held.Held.discard.Goals as goal

pub total-requires : goal.total-requires
total-requires c = omega (arith, ap (λ ps. held_size (take c.count_upto-count.result ps)) c.deref-2.ensures.value, held_size-take c.count_upto-count.result c.self.inside.pieces.items, c.self.invariant.0.fits)

pub overflow_sub-self : goal.overflow_sub-self
overflow_sub-self c = omega (arith, ap (λ ps. held_size (take c.count_upto-count.result ps)) c.deref-2.ensures.value, held_size-take c.count_upto-count.result c.self.inside.pieces.items, c.self.invariant.1)

pub invariant_of-self : goal.invariant_of-self
invariant_of-self c =
    Counted-drop c.count_upto-count.result _ _ _ _ c.self.invariant
    (c.total.ensures ∙ ap (λ ps. held_size (take c.count_upto-count.result ps)) c.deref-2.ensures.value)
    (c.drop-drain.ensures.items ∙ c.drain.ensures.kept)

pub returns-clause-sound : goal.returns-clause-sound
returns-clause-sound c = (invariant_of-self c).0
