use Rattle.std.proofs.Common.{◌≡◌, ◌++◌, ◌-◌, string_bytes}
use Rattle.difference_text.specs.Differences.{registers_lines}
use Rattle.difference_text.proofs.differences.write_registers.Given as goal

abbrev pub invariant-loop-r : goal.invariant-loop-r
invariant-loop-r l = string_bytes l.text ≡ string_bytes l.fn.text ++ registers_lines l.original l.fast (l.r - 1)
