use Rattle.std.proofs.Common.{refl}
use Rattle.board_lock.proofs.Numbering.{seats_apart}
use Rattle.board_lock.proofs.laws.law_of_seats.Goals as goal

pub returns : goal.returns
returns g c = λ lock calls. seats_apart _ calls refl refl
