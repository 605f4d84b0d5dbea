use Rattle.std.proofs.Common.{◌≡◌, ◌++◌, ◌-◌, string_bytes}
use Rattle.report_text.specs.States.{registers_text}
use Rattle.report_text.proofs.state.write_registers.Given as goal

abbrev pub invariant-loop-r : goal.invariant-loop-r
invariant-loop-r l = string_bytes l.text ≡ string_bytes l.fn.text ++ registers_text l.regs (l.r-counter - 2)
