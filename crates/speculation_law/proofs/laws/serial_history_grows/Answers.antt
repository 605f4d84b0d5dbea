use Rattle.speculation.specs.Toy.{toy}
use Rattle.speculation_law.proofs.ToyExact.{exact-toy}
use Rattle.speculation_law.proofs.SerialSoFar.{serial_so_far-next, serial_so_far-whole}
use Rattle.speculation_law.proofs.laws.serial_history_grows.Goals as goal

pub returns : goal.returns
returns c = record {
  grows = λ program b start entries xs core so_far h next.
      serial_so_far-next (toy program) b start (exact-toy program start) entries xs core so_far h next;
  whole = λ program b start entries core so_far h next. serial_so_far-whole (toy program) b start (exact-toy program start) entries core so_far h next;
}
