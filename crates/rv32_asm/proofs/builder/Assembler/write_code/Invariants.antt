use Rattle.rv32_asm.proofs.Programs.{HasWritten}
use Rattle.rv32_asm.proofs.builder.Assembler.write_code.Given as goal

abbrev pub invariant-loop-index : goal.invariant-loop-index
invariant-loop-index l = HasWritten l.self l.index l.fn.bytes.items l.bytes.items
