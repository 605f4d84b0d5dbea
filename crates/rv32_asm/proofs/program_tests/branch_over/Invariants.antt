use Rattle.std.proofs.Common.{◌<◌, length}
use Rattle.rv32_asm.proofs.program_tests.branch_over.Given as goal

abbrev pub invariant-loop : goal.invariant-loop
invariant-loop l = l.far.0 < length l.asm.labels
