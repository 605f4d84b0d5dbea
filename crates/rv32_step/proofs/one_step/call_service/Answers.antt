-- The arguments are those registers that the service names.
use Rattle.guest_model.specs.Service.{service}
use Rattle.rv32_step.proofs.ServiceSteps.{wrote_steps}
use Rattle.rv32_step.proofs.one_step.call_service.Goals as goal

pub returns-in-Wrote-clause-means : goal.returns-in-Wrote-clause-means
unfolding service
returns-in-Wrote-clause-means g c =
    let s = c.in-Wrote.ensures.means c.args.fast c.args.state.now.regs in
    rw (← c.get-number.ensures.value, ← c.get-a0.ensures.value, ← c.get-a1.ensures.value, ← c.get-a2.ensures.value)
    (wrote_steps g.M.Memory.REFUSES c.args.fast _ _ _ _ _ _ _ _ _ _ _ _ s c.finish-in-Wrote.ensures)

pub returns-in-Exit-clause-means : goal.returns-in-Exit-clause-means
unfolding service
returns-in-Exit-clause-means g c =
    let s = c.in-Exit.ensures.means c.args.fast c.args.state.now.regs in
    ((λ e. cc), rw (← c.get-number.ensures.value, ← c.get-a0.ensures.value, ← c.get-a1.ensures.value, ← c.get-a2.ensures.value) s.0, s.1)

pub returns-in-NoMemory-clause-means : goal.returns-in-NoMemory-clause-means
returns-in-NoMemory-clause-means g c = c.in-NoMemory.ensures.means c.args.fast c.args.state.now.regs
