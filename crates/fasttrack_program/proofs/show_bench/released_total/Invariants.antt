use Rattle.std.proofs.Common.{◌≡◌, ◌+◌, drop}
use Rattle.serial_run.specs.Conducting.{released_total}
use Rattle.fasttrack_program.proofs.show_bench.released_total.Given as goal

abbrev pub invariant-loop-entry : goal.invariant-loop-entry
invariant-loop-entry l = l.total + released_total (drop l.entry-index l.entries) ≡ released_total l.entries
