use Rattle.rv32_asm.proofs.Programs.{finished_loads, finished_empty}
use Rattle.rv32_asm.proofs.builder.Assembler.finish.Goals as goal

pub returns-clause-loads : goal.returns-clause-loads
returns-clause-loads c = finished_loads c.args.self.now c.link.result c.link.ensures.answer c.link.ensures.read c.link.ensures.small

pub returns-clause-empty : goal.returns-clause-empty
returns-clause-empty c = finished_empty c.args.self.now c.link.result c.link.ensures.answer
