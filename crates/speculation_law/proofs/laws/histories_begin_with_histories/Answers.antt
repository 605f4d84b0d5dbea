use Rattle.std.proofs.Common.{Some}
use Rattle.speculation.specs.Core.{opening}
use Rattle.speculation.specs.Toy.{toy}
use Rattle.speculation_law.proofs.Prefixes.{run-parted}
use Rattle.speculation_law.proofs.laws.histories_begin_with_histories.Goals as goal

pub returns : goal.returns
returns c = λ program b start entries rest core h.
    (let parted = run-parted (toy program) b start (Some (opening start)) entries rest core h in (parted.middle, parted.first))
