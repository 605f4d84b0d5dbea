use Rattle.std.proofs.Common.{◌≡◌, length}
use Rattle.rv32_asm.proofs.program_tests.emit_all.Given as goal

abbrev pub invariant-loop-instr : goal.invariant-loop-instr
invariant-loop-instr l = length l.asm.labels ≡ length l.fn.asm.labels
