use Rattle.std.proofs.Common.{length, sym, ap, ◌∙◌, subst}
use Rattle.std.specs.Prelude.{All}
use Rattle.std.proofs.lemmas.List.Elements.{All-nil}
use Rattle.job_batch.specs.Parts.{IsLed, HasSeats, boards_of}
use Rattle.job_batch.proofs.opening.open_jobs.Goals as goal

pub loop-board-init : goal.loop-board-init
loop-board-init c = record {
  left = c.into_iter-board-iterator.ensures.into_iter_gives.0;
  few = c.into_iter-board-iterator.ensures.into_iter_gives.1 ∙ c.args.boards.ok.0 ∙ ap length (sym c.into_iter-board-iterator.ensures.into_iter_gives.0);
  opened = record {
    led = subst (All (IsLed c.in_ok-with_capacity.field-0.items)) (sym c.in_ok-with_capacity-2.ensures.items) (All-nil (IsLed c.in_ok-with_capacity.field-0.items));
    seats = subst (All (HasSeats c.args.workers)) (sym c.in_ok-with_capacity-2.ensures.items) (All-nil (HasSeats c.args.workers));
    crew = c.crew_of.ensures c.in_ok-with_capacity.field-0.items;
  };
  boards = ap boards_of c.in_ok-with_capacity-2.ensures.items;
}
