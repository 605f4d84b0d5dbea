use Rattle.guest_calls.specs.Serves.{state_of}
use Rattle.rv32_step.proofs.RegisterSteps.{illegal}
use Rattle.rv32_step.proofs.on_registers.step_registers.Goals as goal

pub returns-in_default : goal.returns-in_default
returns-in_default g c = λ place heap.
    rw c.pc.ensures.value (illegal (state_of (g.M.Memory.bytes c.args.memory.now) place heap c.args.regs.now) c.args.word c.requires c.in_default.ensures.row)

pub take-requires-clause-here : goal.take-requires-clause-here
take-requires-clause-here g c = record { word = c.args.word; fetched = c.requires; row = c.in-Some.ensures.row }
