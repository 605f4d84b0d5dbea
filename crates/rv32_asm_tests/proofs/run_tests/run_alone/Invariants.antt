use Rattle.std.proofs.Common.{◌≡◌}
use Rattle.rv32_asm_tests.proofs.run_tests.run_alone.Given as goal

abbrev pub invariant-loop-done : goal.invariant-loop-done
invariant-loop-done l = l.state.place ≡ 0
