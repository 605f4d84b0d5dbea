use Rattle.std.proofs.Common.{◌≡◌, ◌≤◌, take}
use Rattle.rv32_text.specs.Texts.{hex_text}
use Rattle.rv32_text.specs.Hexadecimals.{digit_count, CanComplete}
use Rattle.rv32_text.proofs.digits.read_digits.Given as goal

abbrev pub invariant-loop-used : goal.invariant-loop-used
invariant-loop-used l = (l.used ≤ digit_count l.digits) × CanComplete l.digits l.used l.value × (hex_text l.used l.value ≡ take l.used l.text)
