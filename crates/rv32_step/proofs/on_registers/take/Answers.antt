use Rattle.std.proofs.Common.{rules}
use Rattle.guest_calls.specs.Serves.{state_of}
use Rattle.rv32_step.specs.RegisterSteps.{ChangesMore}
use Rattle.rv32_step.proofs.RegisterSteps.{other, went, trapped}
use Rattle.rv32_step.proofs.on_registers.take.Goals as goal

pub returns-in-Ecall : goal.returns-in-Ecall
returns-in-Ecall g c = λ place heap.
    let more : ChangesMore c.args.instr = search rules in
    other (state_of (g.M.Memory.bytes c.args.memory.now) place heap c.args.regs.now) c.requires.here.word c.requires.here.fetched c.args.instr c.requires.here.row c.requires.fit more

pub returns-in-Ok : goal.returns-in-Ok
returns-in-Ok g c = λ place heap.
    went (state_of (g.M.Memory.bytes c.args.memory.now) place heap c.args.regs.now) c.requires.here.word c.requires.here.fetched c.args.instr c.change_registers.new.regs c.requires.here.row (search rules) c.in-Ok.ensures

pub returns-in-Err : goal.returns-in-Err
returns-in-Err g c = λ place heap.
    rw (c.pc.ensures.value, c.in-Err.ensures.1) (trapped (state_of (g.M.Memory.bytes c.args.memory.now) place heap c.args.regs.now) c.requires.here.word c.requires.here.fetched c.args.instr c.in-Err.trap c.requires.here.row (search rules) c.in-Err.ensures.0)
