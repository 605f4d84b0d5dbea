use Rattle.std.proofs.Common.{sym, ap, ◌∙◌}
use Rattle.std.specs.Prelude.{[], ◌∷◌}
use Rattle.speculation.specs.Events.{core_run}
use Rattle.guest_model.specs.Rv32.{rv32}
use Rattle.track_board.specs.Value.{GuestCore}
use Rattle.serial_run.proofs.Releases.{quiet-run, released_core-released, release-core}
use Rattle.fasttrack_program.proofs.laws.output_waits_until_it_is_verified.Goals as goal

pub returns-clause-release : goal.returns-clause-release
returns-clause-release c = λ input settings core new count h.
    ap (λ (k : GuestCore). k.released) (sym (release-core (rv32 input) settings core new count h)) ∙ released_core-released (rv32 input) settings core

pub returns-clause-others : goal.returns-clause-others
unfolding core_run
returns-clause-others c = λ input settings core new entry quiet h. quiet-run (rv32 input) settings (entry ∷ []) core new (quiet, tt {0}) h
