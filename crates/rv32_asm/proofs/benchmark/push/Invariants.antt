use Rattle.std.proofs.Common.{◌≡◌, ◌++◌, map, take}
use Rattle.rv32_asm.specs.Encoding.{encoding}
use Rattle.rv32_asm.proofs.benchmark.push.Given as goal

abbrev pub invariant-loop-instr : goal.invariant-loop-instr
invariant-loop-instr l = l.words.items ≡ l.fn.words.items ++ map encoding (take l.instr-index l.instrs)
