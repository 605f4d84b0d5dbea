use Rattle.std.proofs.Common.{◌≡◌, take}
use Rattle.std.specs.Prelude.{map, string_bytes}
use Rattle.fasttrack_program.specs.Finding.{StandsFor}
use Rattle.fasttrack_program.proofs.jobs.read_jobs.Given as goal

abbrev pub invariant-loop-name : goal.invariant-loop-name
invariant-loop-name g l = record {
  stands : StandsFor l.fn.settings l.fn.input (g.F.Files.contents l.fn.files) (take l.name-index (map string_bytes l.names)) l.jobs;
  calm : g.F.Files.faults l.files ≡ g.F.Files.faults l.fn.files;
  held : g.F.Files.contents l.files ≡ g.F.Files.contents l.fn.files;
  input : l.input.value ≡ l.fn.input;
}
