use Rattle.std.proofs.Common.{◌≡◌, take}
use Rattle.std.specs.Prelude.{IfSome}
use Rattle.rv32_text.specs.Numbers.{MayBegin, digits_so_far}
use Rattle.rv32_text.proofs.number.read_number.Given as goal

abbrev pub invariant-loop-used : goal.invariant-loop-used
invariant-loop-used l = (digits_so_far l.number ≡ take l.used l.text) × IfSome l.number (MayBegin l.range)
