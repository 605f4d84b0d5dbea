-- The line of a run that was found
use Rattle.std.specs.Prelude.{ℕ, List}
use Rattle.byte_runs.specs.declared.run.Run.{Run}
use Rattle.difference_text.specs.Differences.{bytes_line}

abbrev pub found_line : Run → List ℕ
found_line r = bytes_line r.address r.length r.left.items r.right.items
