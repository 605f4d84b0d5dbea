use Rattle.std.proofs.Common.{length, take, ap, ◌∙◌, sym, arith}
use Rattle.speculation.specs.Run.{marks_upto}
use Rattle.speculation.specs.Core.{held_size}
use Rattle.held_output.proofs.OnHeld.{held_size-take, marks-taken_upto}
use Rattle.held_output.proofs.held.Held.size_upto.Goals as goal

pub total-requires : goal.total-requires
total-requires c = omega (arith, ap (λ ps. held_size (take c.count_upto.result ps)) c.deref.ensures.value, held_size-take c.count_upto.result c.self.inside.pieces.items, c.self.invariant.0.fits)

pub returns-clause-size : goal.returns-clause-size
returns-clause-size c =
    c.total.ensures ∙ ap (λ ps. held_size (take c.count_upto.result ps)) (c.deref.ensures.value ∙ sym c.deref-2.ensures.value)
    ∙ ap held_size c.count_upto.ensures.parted.0 ∙ ap length (marks-taken_upto c.args.limit c.deref-2.result.now)
    ∙ ap (λ ps. length (marks_upto c.args.limit ps)) (c.deref-2.ensures.value ∙ c.self.view_is)
