use Rattle.std.proofs.Common.{sym, subst, ap, ◌∙◌}
use Rattle.rv32_asm.specs.Assembly.{Assembly}
use Rattle.rv32_asm.specs.Sound.{IsSound}
use Rattle.rv32_asm.proofs.UnboundLabels.{unbound_none, unbound_step}
use Rattle.rv32_asm.proofs.builder.Assembler.unbound_label.Goals as goal

pub loop-item-init : goal.loop-item-init
loop-item-init c = sym (unbound_none c.args.self.now)

pub loop-item-preserved : goal.loop-item-preserved
loop-item-preserved c =
    let sound : IsSound c.args.self.now = subst IsSound c.self.view_is c.self.invariant in
    unbound_step c.args.self.now _ c.loop-item.item-index _ _ _ _ sound (c.deref-item-items.ensures.value ∙ ap (λ (a : Assembly). a.items) c.self.view_is) c.loop-item-test.true c.loop-item.invariant c.unbound_in.ensures c.lesser-least.ensures
