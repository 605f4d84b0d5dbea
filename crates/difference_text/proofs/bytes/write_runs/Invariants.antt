use Rattle.std.proofs.Common.{◌≡◌, ◌++◌, flat_map, string_bytes, take}
use Rattle.difference_text.specs.Found.{found_line}
use Rattle.difference_text.proofs.bytes.write_runs.Given as goal

abbrev pub invariant-loop-run : goal.invariant-loop-run
invariant-loop-run l = string_bytes l.text ≡ string_bytes l.fn.text ++ flat_map found_line (take l.run-index l.runs)
