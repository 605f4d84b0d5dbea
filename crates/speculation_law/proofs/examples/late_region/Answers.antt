use Rattle.std.proofs.Common.{refl}
use Rattle.speculation.specs.Run.{go, pieces, taken}
use Rattle.speculation.specs.Tracks.{first_from, original}
use Rattle.speculation.specs.Verdicts.{verdict}
use Rattle.speculation.specs.Ledger.{walk, ledger_from, ledger}
use Rattle.speculation.specs.Core.{verified, most_held, most_slice}
use Rattle.speculation.specs.Due.{due}
use Rattle.speculation.specs.Events.{slice, event, core_run}
use Rattle.speculation.specs.Serial.{serial}
use Rattle.speculation_law.proofs.examples.late_region.Goals as goal

pub returns : goal.returns
unfolding go pieces taken first_from original verdict walk ledger_from ledger verified most_held most_slice due slice event core_run serial
returns c = record { serial = refl; outcome = refl }
